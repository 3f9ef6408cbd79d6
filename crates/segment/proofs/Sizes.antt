-- Sizes, and what a first word says.
use Rattle.std.proofs.Common.{◌≡◌, ℕ, ◌+◌, ◌*◌, ◌/◌, ◌%◌, ◌≤◌, refl, sym, ◌∙◌, ap, arith}
use Rattle.trace_types.specs.declared.kind.Kind.{Kind}
use Rattle.trace_types.specs.declared.kind.Kind.TheVariants as kind
use Rattle.segment.specs.declared.space.Space.{Space}
use Rattle.segment.specs.declared.space.Space.TheVariants as space
use Rattle.segment.specs.Layout.{space_of, skip_of, kind_of_code, first_word, kind_of, length_of, words_after, count_of, size_of, HasLength}

pub skip_le : (s : Space) → skip_of s ≤ 1
skip_le space.Pair = omega arith
skip_le space.Weak = omega arith
skip_le space.Ephemeron = omega arith
skip_le space.Typed = omega arith
skip_le space.Raw = omega arith
skip_le space.Immobile = omega arith
skip_le space.ImmobileRaw = omega arith
skip_le space.Cell = omega arith

pub size_even : (s : Space) (first : ℕ) → size_of s first % 2 ≡ 0
unfolding size_of
size_even s first = omega arith

pub size_covers : (s : Space) (first : ℕ) → skip_of s + count_of s first ≤ size_of s first
unfolding size_of
size_covers s first = omega arith

pub size_pos : (s : Space) (first : ℕ) → 2 ≤ size_of s first
unfolding size_of count_of kind_of
size_pos space.Pair first = omega arith
size_pos space.Weak first = omega arith
size_pos space.Ephemeron first = omega arith
size_pos space.Typed first = omega arith
size_pos space.Raw first = omega arith
size_pos space.Immobile first = omega arith
size_pos space.ImmobileRaw first = omega arith
size_pos space.Cell first = omega arith

-- ---- without a header nothing rests on the first word

pub bare_kind : (s : Space) (a b : ℕ) → skip_of s ≡ 0 → kind_of s a ≡ kind_of s b
unfolding kind_of
bare_kind space.Pair a b e = refl
bare_kind space.Weak a b e = refl
bare_kind space.Ephemeron a b e = refl
bare_kind space.Typed a b e = absurd (omega arith)
bare_kind space.Raw a b e = absurd (omega arith)
bare_kind space.Immobile a b e = absurd (omega arith)
bare_kind space.ImmobileRaw a b e = absurd (omega arith)
bare_kind space.Cell a b e = refl

pub bare_length : (s : Space) (a b : ℕ) → skip_of s ≡ 0 → length_of s a ≡ length_of s b
unfolding length_of
bare_length space.Pair a b e = refl
bare_length space.Weak a b e = refl
bare_length space.Ephemeron a b e = refl
bare_length space.Typed a b e = absurd (omega arith)
bare_length space.Raw a b e = absurd (omega arith)
bare_length space.Immobile a b e = absurd (omega arith)
bare_length space.ImmobileRaw a b e = absurd (omega arith)
bare_length space.Cell a b e = refl

pub count_same : (s : Space) (a b : ℕ) → kind_of s a ≡ kind_of s b → length_of s a ≡ length_of s b → count_of s a ≡ count_of s b
unfolding count_of
count_same s a b same_kind same_length = cc

pub size_same : (s : Space) (a b : ℕ) → count_of s a ≡ count_of s b → size_of s a ≡ size_of s b
unfolding size_of
size_same s a b e = ap (λ v. (skip_of s + v + 1) / 2 * 2) e

-- ---- the first word of a new object says its kind and length

code_read : (k : Kind) (n code : ℕ) → (n * 256 + code * 8 + 7) / 8 % 32 ≡ code → kind_of_code code ≡ k → kind_of_code ((n * 256 + code * 8 + 7) / 8 % 32) ≡ k
code_read k n code e is = ap kind_of_code e ∙ is

pub first_kind : (k : Kind) (n : ℕ) → kind_of (space_of k) (first_word k n) ≡ k
unfolding kind_of
first_kind kind.Pair n = refl
first_kind kind.Weak n = refl
first_kind kind.Eph n = refl
first_kind kind.Boxed n = code_read kind.Boxed n 0 (omega arith) refl
first_kind kind.Vector n = code_read kind.Vector n 1 (omega arith) refl
first_kind kind.Bytes n = code_read kind.Bytes n 2 (omega arith) refl
first_kind kind.ImmVector n = code_read kind.ImmVector n 3 (omega arith) refl
first_kind kind.ImmBytes n = code_read kind.ImmBytes n 4 (omega arith) refl
first_kind kind.Guard n = code_read kind.Guard n 5 (omega arith) refl
first_kind kind.OrderedGuard n = code_read kind.OrderedGuard n 6 (omega arith) refl
first_kind kind.Cell n = refl

pub first_length : (k : Kind) (n : ℕ) → HasLength k n → length_of (space_of k) (first_word k n) ≡ n
unfolding length_of
first_length kind.Pair n h = sym h
first_length kind.Weak n h = sym h
first_length kind.Eph n h = sym h
first_length kind.Boxed n h = omega arith
first_length kind.Vector n h = omega arith
first_length kind.Bytes n h = omega arith
first_length kind.ImmVector n h = omega arith
first_length kind.ImmBytes n h = omega arith
first_length kind.Guard n h = omega arith
first_length kind.OrderedGuard n h = omega arith
first_length kind.Cell n h = sym h

pub first_count : (k : Kind) (n : ℕ) → HasLength k n → count_of (space_of k) (first_word k n) ≡ words_after k n
unfolding count_of
first_count k n h = let e = first_kind k n in let f = first_length k n h in cc

-- without a header the first word is the first field, 0 at first
pub first_bare : (k : Kind) (n : ℕ) → skip_of (space_of k) ≡ 0 → first_word k n ≡ 0
first_bare kind.Pair n e = refl
first_bare kind.Weak n e = refl
first_bare kind.Eph n e = refl
first_bare kind.Boxed n e = absurd (omega arith)
first_bare kind.Vector n e = absurd (omega arith)
first_bare kind.Bytes n e = absurd (omega arith)
first_bare kind.ImmVector n e = absurd (omega arith)
first_bare kind.ImmBytes n e = absurd (omega arith)
first_bare kind.Guard n e = absurd (omega arith)
first_bare kind.OrderedGuard n e = absurd (omega arith)
first_bare kind.Cell n e = refl

-- an object takes at most two words more than it has fields, and at least its two
pub words_after_le : (k : Kind) (n : ℕ) → HasLength k n → words_after k n ≤ n + 3
words_after_le kind.Pair n h = omega arith
words_after_le kind.Weak n h = omega arith
words_after_le kind.Eph n h = omega arith
words_after_le kind.Boxed n h = omega arith
words_after_le kind.Vector n h = omega arith
words_after_le kind.Bytes n h = omega arith
words_after_le kind.ImmVector n h = omega arith
words_after_le kind.ImmBytes n h = omega arith
words_after_le kind.Guard n h = omega arith
words_after_le kind.OrderedGuard n h = omega arith
words_after_le kind.Cell n h = omega arith

pub HasLength_le : (k : Kind) (n : ℕ) → HasLength k n → n ≤ 4000000
HasLength_le kind.Pair n h = omega arith
HasLength_le kind.Weak n h = omega arith
HasLength_le kind.Eph n h = omega arith
HasLength_le kind.Boxed n h = omega arith
HasLength_le kind.Vector n h = omega arith
HasLength_le kind.Bytes n h = omega arith
HasLength_le kind.ImmVector n h = omega arith
HasLength_le kind.ImmBytes n h = omega arith
HasLength_le kind.Guard n h = omega arith
HasLength_le kind.OrderedGuard n h = omega arith
HasLength_le kind.Cell n h = omega arith

pub first_size_le : (k : Kind) (n : ℕ) → HasLength k n → size_of (space_of k) (first_word k n) ≤ 4000006
unfolding size_of
first_size_le k n h = omega (arith, first_count k n h, words_after_le k n h, skip_le (space_of k), HasLength_le k n h)
