use Rattle.segment.proofs.Calls.{put_seen}
use Rattle.segment.proofs.segment.Segment.put.Goals as goal

pub invariant_of-self : goal.invariant_of-self
invariant_of-self c = (put_seen _ _ _ _ _ _ c.self.invariant.0 c.self.view_is c.requires.start c.requires.index_in c.skip-skip.ensures.value, c.self.invariant.1, c.self.invariant.2)
