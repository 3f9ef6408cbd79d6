use Rattle.std.proofs.Common.{ℕ, ◌∙◌, ap, replicate, length, false, arith}
use Rattle.std.proofs.lemmas.List.{length-replicate}
use Rattle.segment.proofs.Tallies.{renewed_seen, fresh_count, fresh_marks}
use Rattle.segment.proofs.segment.Segment.clear.Goals as goal

pub invariant_of-self : goal.invariant_of-self
invariant_of-self c = (
  renewed_seen _ _ c.self.inside.words.len c.self.inside.births.len _ _ _ _ c.self.invariant.0 c.self.view_is c.requires.free (omega (arith, c.self.invariant.0.births)) (λ several. omega (arith, c.self.invariant.0.single (omega arith))) (omega (arith, c.self.invariant.0.small))
      c.clear_words.ensures (c.fill.ensures.items (λ y e. e)) (c.clear_cards.ensures ∙ ap (λ v. replicate v 255) (omega (arith, c.div_ceil.ensures, c.len.ensures, ap length c.clear_words.ensures, length-replicate {A = ℕ} c.self.inside.words.len 0))) (c.fill-2.ensures.items (λ y e. e) ∙ ap (λ v. replicate v false) (omega (arith, c.self.invariant.0.marks))),
  fresh_count _ _ (c.fill.ensures.items (λ y e. e)),
  fresh_marks _ _ (c.fill-2.ensures.items (λ y e. e)),
)
