use Rattle.owned_core.proofs.laws.rounds_are_events.Goals as goal
use Rattle.owned_core.proofs.Rounds.{round_is_events}
use Rattle.owned_core.proofs.Rounds.{exchange_is_events}
use Rattle.owned_core.proofs.Rounds.{done_is_idle}

pub returns-clause-round : goal.returns-clause-round
returns-clause-round c = round_is_events

pub returns-clause-exchange : goal.returns-clause-exchange
returns-clause-exchange c = exchange_is_events

pub returns-clause-done : goal.returns-clause-done
returns-clause-done c = done_is_idle
