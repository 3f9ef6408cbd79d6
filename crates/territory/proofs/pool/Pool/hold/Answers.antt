use Rattle.territory.proofs.Holding.{settled_held}
use Rattle.territory.proofs.pool.Pool.hold.Goals as goal

pub returns-clause-settled : goal.returns-clause-settled
returns-clause-settled c = settled_held _ _ _ _ c.self.view_is c.requires.settled c.hold_starts.ensures.held c.hold_starts.ensures.sound
