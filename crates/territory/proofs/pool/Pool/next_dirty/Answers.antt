use Rattle.territory.proofs.Dirties.{dirty_linked_in}
use Rattle.territory.proofs.pool.Pool.next_dirty.Goals as goal

pub next-requires : goal.next-requires
next-requires c = dirty_linked_in _ _ _ c.self.view_is c.requires.settled c.requires.dirty
