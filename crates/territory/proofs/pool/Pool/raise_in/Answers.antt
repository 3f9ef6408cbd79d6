use Rattle.std.proofs.Common.{◌∙◌, arith}
use Rattle.territory.proofs.AgedPool.{dirty_here, read_used, still_young, raised_here, settled_raised, shows_read, dirty_kept, dirty_out, segments_raised, chain_kept, chain_out}
use Rattle.territory.proofs.pool.Pool.raise_in.Goals as goal

pub index-requires : goal.index-requires
index-requires c = omega (arith, (dirty_here _ _ _ c.self.view_is c.requires.settled c.requires.dirty).within)

pub returns-then-generation-cg-clause-segments : goal.returns-then-generation-cg-clause-segments
returns-then-generation-cg-clause-segments c = (still_young _ _ _ _ _ _ c.self.view_is (dirty_here _ _ _ c.self.view_is c.requires.settled c.requires.dirty) c.index.ensures c.generation-generation.ensures c.if-generation-cg.true).0

pub returns-then-generation-cg-clause-dirty : goal.returns-then-generation-cg-clause-dirty
returns-then-generation-cg-clause-dirty c = (still_young _ _ _ _ _ _ c.self.view_is (dirty_here _ _ _ c.self.view_is c.requires.settled c.requires.dirty) c.index.ensures c.generation-generation.ensures c.if-generation-cg.true).1

pub index_mut-requires : goal.index_mut-requires
index_mut-requires c = omega (arith, (dirty_here _ _ _ c.self.view_is c.requires.settled c.requires.dirty).within)

pub raise_cards-requires-clause-used : goal.raise_cards-requires-clause-used
raise_cards-requires-clause-used c = read_used _ _ _ (dirty_here _ _ _ c.self.view_is c.requires.settled c.requires.dirty) c.index_mut.ensures.value

pub index-requires-2 : goal.index-requires-2
index-requires-2 c = omega (arith, (dirty_here _ _ _ c.self.view_is c.requires.settled c.requires.dirty).within)

pub returns-then-not-is_dirty-clause-settled : goal.returns-then-not-is_dirty-clause-settled
returns-then-not-is_dirty-clause-settled c =
    let r = raised_here _ _ _ _ _ _ _ _ (dirty_here _ _ _ c.self.view_is c.requires.settled c.requires.dirty) c.index.ensures c.generation-generation.ensures c.if-generation-cg.false c.byte_above.ensures c.index_mut.ensures.value c.raise_cards.ensures in
    settled_raised _ _ _ _ _ _ r (dirty_out _ _ _ _ _ _ r (shows_read _ _ _ _ _ _ _ r c.index-2.ensures c.is_dirty.ensures ∙ c.if-not-is_dirty.true) c.unlink.ensures.lists c.unlink.ensures.links c.unlink.ensures.each_once)

pub returns-then-not-is_dirty-clause-segments : goal.returns-then-not-is_dirty-clause-segments
returns-then-not-is_dirty-clause-segments c =
    segments_raised _ _ _ _ _ _ c.self.view_is
    (raised_here _ _ _ _ _ _ _ _ (dirty_here _ _ _ c.self.view_is c.requires.settled c.requires.dirty) c.index.ensures c.generation-generation.ensures c.if-generation-cg.false c.byte_above.ensures c.index_mut.ensures.value c.raise_cards.ensures)

pub returns-then-not-is_dirty-clause-dirty : goal.returns-then-not-is_dirty-clause-dirty
returns-then-not-is_dirty-clause-dirty c =
    let r = raised_here _ _ _ _ _ _ _ _ (dirty_here _ _ _ c.self.view_is c.requires.settled c.requires.dirty) c.index.ensures c.generation-generation.ensures c.if-generation-cg.false c.byte_above.ensures c.index_mut.ensures.value c.raise_cards.ensures in
    chain_out _ _ _ _ _ _ _ c.self.view_is r (shows_read _ _ _ _ _ _ _ r c.index-2.ensures c.is_dirty.ensures ∙ c.if-not-is_dirty.true) c.unlink.ensures.lists

pub returns-else-not-is_dirty-clause-settled : goal.returns-else-not-is_dirty-clause-settled
returns-else-not-is_dirty-clause-settled c =
    let r = raised_here _ _ _ _ _ _ _ _ (dirty_here _ _ _ c.self.view_is c.requires.settled c.requires.dirty) c.index.ensures c.generation-generation.ensures c.if-generation-cg.false c.byte_above.ensures c.index_mut.ensures.value c.raise_cards.ensures in
    settled_raised _ _ _ _ _ _ r (dirty_kept _ _ _ _ _ r (shows_read _ _ _ _ _ _ _ r c.index-2.ensures c.is_dirty.ensures ∙ c.if-not-is_dirty.false))

pub returns-else-not-is_dirty-clause-segments : goal.returns-else-not-is_dirty-clause-segments
returns-else-not-is_dirty-clause-segments c =
    segments_raised _ _ _ _ _ _ c.self.view_is
    (raised_here _ _ _ _ _ _ _ _ (dirty_here _ _ _ c.self.view_is c.requires.settled c.requires.dirty) c.index.ensures c.generation-generation.ensures c.if-generation-cg.false c.byte_above.ensures c.index_mut.ensures.value c.raise_cards.ensures)

pub returns-else-not-is_dirty-clause-dirty : goal.returns-else-not-is_dirty-clause-dirty
returns-else-not-is_dirty-clause-dirty c =
    let r = raised_here _ _ _ _ _ _ _ _ (dirty_here _ _ _ c.self.view_is c.requires.settled c.requires.dirty) c.index.ensures c.generation-generation.ensures c.if-generation-cg.false c.byte_above.ensures c.index_mut.ensures.value c.raise_cards.ensures in
    chain_kept _ _ _ _ _ _ c.self.view_is r (shows_read _ _ _ _ _ _ _ r c.index-2.ensures c.is_dirty.ensures ∙ c.if-not-is_dirty.false)
