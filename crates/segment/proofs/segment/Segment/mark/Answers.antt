use Rattle.segment.proofs.Calls.{card_seen, marked_seen}
use Rattle.segment.proofs.segment.Segment.mark.Goals as goal

pub mark-requires : goal.mark-requires
mark-requires c = card_seen _ _ _ _ _ c.self.invariant.0 c.self.view_is c.requires.start c.requires.index_in c.skip-skip.ensures.value

pub invariant_of-self : goal.invariant_of-self
invariant_of-self c = (marked_seen _ _ _ _ _ _ _ c.self.invariant.0 c.self.view_is c.requires.start c.requires.index_in c.skip-skip.ensures.value c.requires.generation_in c.mark.ensures, c.self.invariant.1, c.self.invariant.2)
