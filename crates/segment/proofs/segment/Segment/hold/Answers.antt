use Rattle.segment.proofs.Tallies.{held_seen, held_tally}
use Rattle.segment.proofs.segment.Segment.hold.Goals as goal

pub invariant_of-self : goal.invariant_of-self
invariant_of-self c = (held_seen _ _ _ c.self.invariant.0 c.self.view_is c.requires.aside, c.self.invariant.1, held_tally _ _ _ c.self.invariant.0 c.self.view_is c.requires.start)
