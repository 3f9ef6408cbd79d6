-- What lasts: a line that is too long, and the end.
use Rattle.std.proofs.Common.{◌≡◌, ℕ, ◌<◌, ◌≤◌, List, [], ◌∷◌, ◌++◌, length, Option, Result, Ok, Err, true, false, refl, sym, ◌∙◌, ap, arith, append-nil, length-append, inl, inr, eqb, cond, Bool}
use Rattle.std.proofs.lemmas.Bool.{ne_eqb}
use Rattle.trace_types.specs.Lines.{IsPlain, first_of}
use Rattle.trace_text.specs.Reader.{Reader, HoldsTooLong, HoldsEnd}
use Rattle.trace_text.specs.Next.{Nexts, Answers, GivesLine}
use Rattle.trace_text.specs.declared.reader.Next.{Next}
use Rattle.trace_text.specs.declared.reader.Next.TheVariants.{Line, TooLong, End}
use Rattle.gc_io.specs.declared.traits.Failed.{Failed}

-- what stands before the first newline is no longer than all
length-first : (h : List ℕ) → length (first_of h) ≤ length h
unfolding first_of
length-first [] = omega arith
length-first (b ∷ h) = length-first-at (eqb b 10) b h (length-first h)
  where
    length-first-at : (test : Bool) (b : ℕ) (h : List ℕ) → length (first_of h) ≤ length h → length (cond test [] (b ∷ first_of h)) ≤ length (b ∷ h)
    length-first-at true b h le = omega arith
    length-first-at false b h le = omega arith

-- what stands before the first newline that ends a line is the line
first-line : (l r : List ℕ) → IsPlain l → first_of (l ++ 10 ∷ r) ≡ l
unfolding first_of
first-line [] r p = refl
first-line (b ∷ l) r p = rw (ne_eqb b 10 p.0, first-line l r p.1) refl

-- a line that was given is all that stands before the first newline
line-short : (bytes : List ℕ) (new : Reader) → GivesLine bytes new → length (first_of bytes) ≤ 1024
line-short bytes new g = elim g.either [
  | inl b ↦ omega (arith, g.short, ap length (ap first_of b.bytes_are ∙ first-line new.line new.held g.plain))
  | inr b ↦ omega (arith, g.short, length-first bytes, ap length b.bytes_are)
]

long_answers : (bytes : List ℕ) (r : Result Next Failed) (new : Reader) → 1024 < length (first_of bytes) → Answers r bytes new → r ≡ Ok TooLong
long_answers bytes (Ok Line) new long a = absurd (omega (arith, line-short bytes new a))
long_answers bytes (Ok TooLong) new long a = refl
long_answers bytes (Ok End) new long a = absurd (omega (arith, length-first bytes, ap length a.none))
long_answers bytes (Err e) new long a = absurd (omega (arith, a.short, length-first bytes, ap length a.held))

end_answers : (bytes : List ℕ) (r : Result Next Failed) (new : Reader) → bytes ≡ [] → new.ended ≡ true → Answers r bytes new → r ≡ Ok End
end_answers bytes (Ok Line) new none ended a = elim a.either [
  | inl b ↦ absurd (omega (arith, ap length b.bytes_are, ap length none, length-append new.line (10 ∷ new.held)))
  | inr b ↦ absurd (b.some (sym b.bytes_are ∙ none))
]
end_answers bytes (Ok TooLong) new none ended a = absurd (omega (arith, a.long, length-first new.held, ap length a.held, ap length none))
end_answers bytes (Ok End) new none ended a = refl
end_answers bytes (Err e) new none ended a = let both : true ≡ false = sym ended ∙ a.going in cc

-- A line that is too long is so from then on.
pub long_lasts : (before after : Option (List ℕ)) (r : Result Next Failed) (old new : Reader) → Nexts before after r old new → HoldsTooLong old → r ≡ Ok TooLong
long_lasts before after r old new n long = elim n.asked [
  | inl none ↦
      let same : old.held ++ n.taken ≡ old.held = rw none (append-nil old.held) in
      long_answers (old.held ++ n.taken) r new (rw same long) n.answer
  | inr less ↦ absurd (omega (arith, less.short, length-first old.held))
]

-- The end is so from then on.
pub end_lasts : (before after : Option (List ℕ)) (r : Result Next Failed) (old new : Reader) → Nexts before after r old new → new.ended ≡ true → HoldsEnd old → r ≡ Ok End
end_lasts before after r old new n ended end = elim n.asked [
  | inl none ↦ end_answers (old.held ++ n.taken) r new (rw (end.0, none) refl) ended n.answer
  | inr less ↦ let both : true ≡ false = sym end.1 ∙ less.going in cc
]
