use Rattle.segment.proofs.Tallies.{grown_tally}
use Rattle.segment.proofs.Calls.{grown_seen}
use Rattle.segment.proofs.segment.Segment.grow.Goals as goal

pub invariant_of-self : goal.invariant_of-self
invariant_of-self c = (grown_seen _ _ _ _ _ c.self.invariant.0 c.self.view_is c.requires.room c.requires.size_is, grown_tally _ _ _ _ _ _ c.self.invariant.0 c.self.view_is c.requires.room c.self.invariant.1 c.from.ensures, c.self.invariant.2)
