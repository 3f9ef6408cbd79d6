use Rattle.segment.proofs.Aging.{raised_seen}
use Rattle.segment.proofs.segment.Segment.raise_cards.Goals as goal

pub invariant_of-self : goal.invariant_of-self
invariant_of-self c =
    (raised_seen _ _ _ _ _ _ c.self.invariant.0 c.self.view_is c.requires.used c.raise.ensures c.has_mark-self-inside.ensures, c.self.invariant.1, c.self.invariant.2)
