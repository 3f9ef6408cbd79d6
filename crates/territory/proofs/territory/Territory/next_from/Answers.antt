use Rattle.territory.proofs.Fromward.{from_ones}
use Rattle.territory.proofs.territory.Territory.next_from.Goals as goal

pub returns-in_err-n-clause-all : goal.returns-in_err-n-clause-all
returns-in_err-n-clause-all c = from_ones _ _ _ _ c.self.view_is c.self.invariant.1

pub returns-clause-all : goal.returns-clause-all
returns-clause-all c = from_ones _ _ _ _ c.self.view_is c.self.invariant.1
