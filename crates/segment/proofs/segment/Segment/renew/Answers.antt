use Rattle.segment.proofs.Tallies.{renewed_seen, fresh_count, fresh_marks}
use Rattle.segment.proofs.segment.Segment.renew.Goals as goal

pub invariant_of-self : goal.invariant_of-self
invariant_of-self c = (
  renewed_seen _ _ _ _ _ _ _ _ c.self.invariant.0 c.self.view_is c.requires.free c.requires.births_in c.requires.single c.requires.words_in c.in_ok-new_words.ensures c.in_ok-new_births.ensures c.in_ok-new_cards.ensures c.in_ok-new_marks.ensures,
  fresh_count _ _ c.in_ok-new_births.ensures,
  fresh_marks _ _ c.in_ok-new_marks.ensures,
)
