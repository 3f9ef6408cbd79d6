use Rattle.segment.proofs.Tallies.{grown_tally}
use Rattle.segment.proofs.Copies.{copy_is, copy_sound}
use Rattle.segment.proofs.segment.Segment.copy_from.Goals as goal

pub invariant_of-self : goal.invariant_of-self
invariant_of-self c = (copy_sound _ _ _ _ _ _ _ _ (record { sound = c.self.invariant.0; seen = c.self.view_is; source_sound = c.source.invariant.0; source_seen = c.source.view_is; space = c.requires.space; start = c.requires.start; size_is = c.requires.size_is; room = c.requires.room; its_words = c.copy_words.ensures; its_birth = c.index-birth.ensures }), grown_tally _ _ _ _ _ _ c.self.invariant.0 c.self.view_is c.requires.room c.self.invariant.1 c.from.ensures, c.self.invariant.2)

pub returns-clause-after : goal.returns-clause-after
returns-clause-after c = copy_is _ _ _ _ _ _ _ _ (record { sound = c.self.invariant.0; seen = c.self.view_is; source_sound = c.source.invariant.0; source_seen = c.source.view_is; space = c.requires.space; start = c.requires.start; size_is = c.requires.size_is; room = c.requires.room; its_words = c.copy_words.ensures; its_birth = c.index-birth.ensures })
