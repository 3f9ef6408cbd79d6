use Rattle.owned_core.proofs.Ranks.{rank_top}
use Rattle.sweep_model.proofs.Exchanging.{exchange_lowers_rank}
use Rattle.sweep_model.proofs.Tallying.{names_cover}
use Rattle.sweep_model.proofs.laws.rounds_end.Goals as goal

pub returns-clause-exchange : goal.returns-clause-exchange
returns-clause-exchange c = exchange_lowers_rank

pub returns-clause-bound : goal.returns-clause-bound
returns-clause-bound c = rank_top

pub returns-clause-cover : goal.returns-clause-cover
returns-clause-cover c = names_cover
