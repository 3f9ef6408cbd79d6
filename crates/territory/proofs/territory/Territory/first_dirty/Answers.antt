use Rattle.territory.proofs.Dirties.{dirty_ones}
use Rattle.territory.proofs.territory.Territory.first_dirty.Goals as goal

pub returns-in_err-n-clause-all : goal.returns-in_err-n-clause-all
returns-in_err-n-clause-all c = dirty_ones _ _ _ _ c.self.view_is c.self.invariant.1

pub returns-clause-all : goal.returns-clause-all
returns-clause-all c = dirty_ones _ _ _ _ c.self.view_is c.self.invariant.1
