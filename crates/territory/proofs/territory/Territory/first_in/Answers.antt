use Rattle.territory.proofs.Showing.{first_some}
use Rattle.territory.proofs.territory.Territory.first_in.Goals as goal

pub returns-clause-first : goal.returns-clause-first
returns-clause-first c = first_some _ _ _ _ _ _ _ _ c.self.view_is c.self.invariant.1 c.segment.ensures c.in_ok-k.ensures.some.1 c.in_ok-k.ensures.least c.address.ensures
