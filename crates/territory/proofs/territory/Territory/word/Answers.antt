use Rattle.territory.proofs.Reading.{reach_segment, at, has_index, index_in, word_is}
use Rattle.territory.proofs.territory.Territory.word.Goals as goal

pub segment-requires : goal.segment-requires
segment-requires c = reach_segment _ _ _ _ _ _ c.self.invariant.1 c.self.view_is (has_index _ _ c.requires) c.place-segment.ensures.segment

pub word-requires-clause-start : goal.word-requires-clause-start
word-requires-clause-start c = (at _ _ _ _ _ _ _ _ c.self.invariant.1 c.self.view_is (has_index _ _ c.requires) c.place-segment.ensures.segment c.place-segment.ensures.start c.segment.ensures).starts

pub word-requires-clause-index_in : goal.word-requires-clause-index_in
word-requires-clause-index_in c = index_in _ _ _ _ _ _ _ (at _ _ _ _ _ _ _ _ c.self.invariant.1 c.self.view_is (has_index _ _ c.requires) c.place-segment.ensures.segment c.place-segment.ensures.start c.segment.ensures) c.requires

pub returns : goal.returns
returns c = word_is _ _ _ _ _ _ _ _ (at _ _ _ _ _ _ _ _ c.self.invariant.1 c.self.view_is (has_index _ _ c.requires) c.place-segment.ensures.segment c.place-segment.ensures.start c.segment.ensures) c.word.ensures
