use Rattle.territory.proofs.Releasing.{aside_here, linked_here, dirty_there, counts_for, settled_released}
use Rattle.territory.proofs.pool.Pool.release.Goals as goal

pub unlink-requires-clause-linked : goal.unlink-requires-clause-linked
unlink-requires-clause-linked c = linked_here _ _ _ _ _ _ (aside_here _ _ _ _ c.self.view_is c.requires.settled c.requires.aside c.index-segment.ensures) c.generation.ensures c.from-list.ensures

pub take_out-requires-clause-there : goal.take_out-requires-clause-there
take_out-requires-clause-there c = dirty_there _ _ _ _ _ (aside_here _ _ _ _ c.self.view_is c.requires.settled c.requires.aside c.index-segment.ensures) c.is_dirty-is_dirty.ensures

pub returns-clause-settled : goal.returns-clause-settled
returns-clause-settled c =
    let h = (aside_here _ _ _ _ c.self.view_is c.requires.settled c.requires.aside c.index-segment.ensures) in
    settled_released _ _ _ _ _ _ _ _ _ _ _ _ _ h (counts_for _ _ _ _ _ _ _ h c.words.ensures c.held_in.ensures c.cells_in.ensures) c.index_mut.ensures.value c.give_back.ensures.after c.generation.ensures c.from-list.ensures
    c.unlink.ensures.lists c.unlink.ensures.links c.unlink.ensures.each_once c.take_out.ensures.two c.take_out.ensures.links c.take_out.ensures.each_once c.take_out.ensures.chain
