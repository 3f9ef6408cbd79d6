-- From the bytes of an answer to lines.
use Rattle.std.proofs.Common.{◌≡◌, ℕ, ◌≤◌, List, [], ◌++◌, length, Option, Some, None, Result, Ok, Err, true, refl, sym, ◌∙◌, ap, subst, arith, append_assoc, append-nil, inl, inr}
use Rattle.std.specs.Io.KnownBytes.{Consumes, IsAtEnd}
use Rattle.trace_types.specs.Lines.{lines_of, head_line, first_of}
use Rattle.trace_types.proofs.LineLaws.{lines-newline, lines-last, lines-empty, head-long}
use Rattle.trace_text.specs.Reader.{Reader}
use Rattle.trace_text.specs.Next.{Nexts, GivesLines}
use Rattle.trace_text.specs.declared.reader.Next.{Next}
use Rattle.trace_text.specs.declared.reader.Next.TheVariants.{Line, TooLong, End}
use Rattle.gc_io.specs.declared.traits.Failed.{Failed}

told : (after : Option (List ℕ)) (taken bytes : List ℕ) → Consumes (Some bytes) after taken → (rest : List ℕ) × (after ≡ Some rest) × (bytes ≡ taken ++ rest)
told None taken bytes c = absurd c
told (Some rest) taken bytes c = (rest, refl, c)

at_end_told : (after : Option (List ℕ)) (rest : List ℕ) → after ≡ Some rest → IsAtEnd after → rest ≡ []
at_end_told None rest e h = cc
at_end_told (Some r) rest e h = let same : r ≡ rest = cc in sym same ∙ h

lines_at : (bytes rest : List ℕ) (r : Result Next Failed) (old new : Reader) (before after : Option (List ℕ)) (n : Nexts before after r old new) →
    after ≡ Some rest → bytes ≡ (old.held ++ n.taken) ++ rest → (new.ended ≡ true → IsAtEnd after) → GivesLines r bytes new after
lines_at bytes rest (Ok Line) old new before after n e split ends = elim n.answer.either [
  | inl b ↦ (
    rest,
    e,
    ap lines_of split ∙ ap (λ (x : List ℕ). lines_of (x ++ rest)) b.bytes_are ∙ rw append_assoc (lines-newline new.line (new.held ++ rest) n.answer.plain),
    n.answer.short,
  )
  | inr b ↦
      let none : rest ≡ [] = at_end_told after rest e (ends b.ended) in (
        rest,
        e,
        ap lines_of split ∙ rw (b.bytes_are, none, append-nil new.line, b.nothing, lines-empty) (lines-last new.line n.answer.plain b.some),
        n.answer.short,
      )
]
lines_at bytes rest (Ok TooLong) old new before after n e split ends =
    let long : length (first_of new.held) ≤ length (head_line (lines_of bytes)) = rw (split, n.answer.held) (head-long new.held rest) in
    omega (arith, n.answer.long)
lines_at bytes rest (Ok End) old new before after n e split ends =
    let none : rest ≡ [] = at_end_told after rest e (ends n.answer.ended) in
    ap lines_of split ∙ rw (n.answer.none, none) lines-empty
lines_at bytes rest (Err x) old new before after n e split ends = (rest, e, ap lines_of split ∙ ap (λ (b : List ℕ). lines_of (b ++ rest)) n.answer.held)

pub lines_given : (bytes : List ℕ) (r : Result Next Failed) (old new : Reader) (before after : Option (List ℕ)) → Nexts before after r old new →
    before ≡ Some bytes → (new.ended ≡ true → IsAtEnd after) → GivesLines r (old.held ++ bytes) new after
lines_given bytes r old new before after n e ends =
    let t = told after n.taken bytes (subst (λ (b : Option (List ℕ)). Consumes b after n.taken) e n.consumed) in
    lines_at (old.held ++ bytes) t.0 r old new before after n t.1 (ap (λ (x : List ℕ). old.held ++ x) t.2 ∙ sym (append_assoc old.held n.taken t.0)) ends
