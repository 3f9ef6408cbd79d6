use Rattle.segment.proofs.Aging.{count_is}
use Rattle.segment.proofs.segment.Segment.count.Goals as goal

pub returns : goal.returns
returns c = count_is _ _ _ _ _ _ _ c.self.invariant.0 c.self.view_is c.requires c.index-first.ensures c.kind_of.ensures c.length_of.ensures.value c.words_after.ensures.value
