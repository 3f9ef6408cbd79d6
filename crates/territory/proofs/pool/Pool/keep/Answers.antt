use Rattle.std.proofs.Common.{arith}
use Rattle.territory.proofs.Releasing.{aside_here, linked_here, kept_loose, kept_fits, kept_lists_told, settled_kept}
use Rattle.territory.proofs.pool.Pool.keep.Goals as goal

pub overflow_add-self-2 : goal.overflow_add-self-2
overflow_add-self-2 c = omega (arith, kept_fits _ _ _ _ _ _ _ _ _ c.self.view_is c.requires.settled (aside_here _ _ _ _ c.self.view_is c.requires.settled c.requires.aside c.index-segment.ensures) c.index_mut.ensures.value c.keep_marked.ensures.after c.index-segment-2.ensures c.cells_in-2.ensures)

pub unlink-requires-clause-linked : goal.unlink-requires-clause-linked
unlink-requires-clause-linked c = linked_here _ _ _ _ _ _ (aside_here _ _ _ _ c.self.view_is c.requires.settled c.requires.aside c.index-segment.ensures) c.generation.ensures c.from-list.ensures

pub push_last-requires-clause-loose : goal.push_last-requires-clause-loose
push_last-requires-clause-loose c = kept_loose _ _ _ _ _ _ (aside_here _ _ _ _ c.self.view_is c.requires.settled c.requires.aside c.index-segment.ensures) c.unlink.ensures.lists

pub returns-clause-settled : goal.returns-clause-settled
returns-clause-settled c =
    settled_kept _ _ _ _ _ _ _ _ _ _ _ _ _ _ _ _ _ (aside_here _ _ _ _ c.self.view_is c.requires.settled c.requires.aside c.index-segment.ensures) c.held_in.ensures c.cells_in.ensures c.index_mut.ensures.value c.keep_marked.ensures.after c.index-segment-2.ensures c.held_in-2.ensures c.cells_in-2.ensures
    c.requires.generation_in c.from.ensures c.generation.ensures c.from-list.ensures c.unlink.ensures.lists c.unlink.ensures.links c.push_last.ensures.lists c.push_last.ensures.links c.push_last.ensures.each_once

pub returns-clause-lists : goal.returns-clause-lists
returns-clause-lists c = kept_lists_told _ _ _ _ _ _ _ _ _ _ c.self.view_is (aside_here _ _ _ _ c.self.view_is c.requires.settled c.requires.aside c.index-segment.ensures) c.requires.generation_in c.from.ensures c.generation.ensures c.from-list.ensures c.unlink.ensures.lists c.push_last.ensures.lists
