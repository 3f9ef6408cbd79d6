use Rattle.sweep_model.proofs.laws.rounds_reach_the_end.Goals as goal
use Rattle.sweep_model.proofs.Rounding.{round_stands}
use Rattle.sweep_model.proofs.Exchanging.{exchange_stands}
use Rattle.sweep_model.proofs.Ending.{quiet_is_done}

pub returns-clause-round : goal.returns-clause-round
returns-clause-round c = round_stands

pub returns-clause-exchange : goal.returns-clause-exchange
returns-clause-exchange c = exchange_stands

pub returns-clause-end : goal.returns-clause-end
returns-clause-end c = quiet_is_done
