use Rattle.segment.proofs.Tallies.{fresh_marks}
use Rattle.std.proofs.Common.{◌∙◌, ap, arith}
use Rattle.segment.specs.Segments.{count_of_births}
use Rattle.segment.proofs.Calls.{kept_seen, kept_starts}
use Rattle.segment.proofs.segment.Segment.keep_marked.Goals as goal

pub invariant_of-self : goal.invariant_of-self
invariant_of-self c = (kept_seen _ _ _ _ _ _ c.self.invariant.0 c.self.view_is c.requires.aside c.keep_marked_births.ensures (c.fill.ensures.items (λ y e. e)) (omega arith), c.count_births-self-inside.ensures ∙ ap count_of_births c.deref.ensures.value, fresh_marks _ _ (c.fill.ensures.items (λ y e. e)))

pub returns-clause-starts : goal.returns-clause-starts
returns-clause-starts c = λ k. kept_starts _ _ _ k _ c.fill.new.self.items c.self.invariant.0 c.self.view_is c.requires.aside c.keep_marked_births.ensures
