use Rattle.segment.proofs.Tallies.{grown_tally}
use Rattle.segment.proofs.Copies.{two_is, two_sound}
use Rattle.segment.proofs.segment.Segment.grow_two.Goals as goal

pub invariant_of-self : goal.invariant_of-self
invariant_of-self c = (two_sound _ _ _ _ _ c.self.invariant.0 c.self.view_is c.requires.room c.requires.size_is, grown_tally _ _ _ _ _ _ c.self.invariant.0 c.self.view_is c.requires.room c.self.invariant.1 c.from.ensures, c.self.invariant.2)

pub returns-clause-after : goal.returns-clause-after
returns-clause-after c = two_is _ _ _ _ _ c.self.view_is c.requires.room
