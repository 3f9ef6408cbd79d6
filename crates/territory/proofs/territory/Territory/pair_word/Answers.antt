use Rattle.territory.proofs.Reading.{reach_segment, at, index_in, word_is}
use Rattle.territory.proofs.Ending.{pair_some, pair_index, pair_thread}
use Rattle.territory.proofs.territory.Territory.pair_word.Goals as goal

pub segment-requires : goal.segment-requires
segment-requires c = reach_segment _ _ _ _ _ _ c.self.invariant.1 c.self.view_is (pair_some c.args.self.now c.args.at c.requires.pair) c.place-segment.ensures.segment

pub word-requires-clause-start : goal.word-requires-clause-start
word-requires-clause-start c = (at _ _ _ _ _ _ _ _ c.self.invariant.1 c.self.view_is (pair_some c.args.self.now c.args.at c.requires.pair) c.place-segment.ensures.segment c.place-segment.ensures.start c.segment.ensures).starts

pub word-requires-clause-index_in : goal.word-requires-clause-index_in
word-requires-clause-index_in c = index_in _ _ _ _ _ _ _ (at _ _ _ _ _ _ _ _ c.self.invariant.1 c.self.view_is (pair_some c.args.self.now c.args.at c.requires.pair) c.place-segment.ensures.segment c.place-segment.ensures.start c.segment.ensures) (pair_index _ _ _ c.args.self.now c.args.at _ c.self.invariant.1 c.self.view_is c.requires.pair c.requires.index)

pub returns-clause-word : goal.returns-clause-word
returns-clause-word c = word_is _ _ _ _ _ _ _ _ (at _ _ _ _ _ _ _ _ c.self.invariant.1 c.self.view_is (pair_some c.args.self.now c.args.at c.requires.pair) c.place-segment.ensures.segment c.place-segment.ensures.start c.segment.ensures) c.word.ensures

pub returns-clause-thread : goal.returns-clause-thread
returns-clause-thread c = pair_thread _ _ _ c.args.self.now c.args.at c.self.invariant.1 c.self.view_is c.requires.pair
