-- What is held in a buffer, and where it is cut.
use Rattle.std.proofs.Common.{◌≡◌, ℕ, suc, zero, ◌+◌, ◌-◌, ◌<◌, ◌≤◌, List, [], ◌∷◌, ◌++◌, length, take, drop, get_or, refl, sym, ◌∙◌, ap, arith, length-take, length-drop, length-append, Option, Result, Ok, Err, zero-add, suc-add}
use Rattle.std.proofs.lemmas.Bool.{ne_eqb}
use Rattle.std.proofs.lemmas.List.{take-append-drop, take-take, drop-take, drop-drop, drop_more, length-take-le, take-append-le}
use borrow.Rule.Slice.PartMut.{put_mid, post_of}
use Rattle.gc_io.specs.Outside.{Reads}
use Rattle.gc_io.specs.declared.traits.Failed.{Failed}
use Rattle.trace_text.specs.Steps.{ReadsBehind}
use Rattle.std.specs.Result.{IfOk}
use Rattle.trace_types.specs.Lines.{IsPlain, first_of}

-- the front of a list whose first n bytes are no newlines
pub plain-front : (h : List ℕ) (n : ℕ) → ((k : ℕ) → k < n → get_or h k 0 ≡ 10 → ⊥) → IsPlain (take n h)
plain-front h zero none = tt
plain-front [] (suc n) none = tt
plain-front (b ∷ h) (suc n) none = (none 0 (omega arith), plain-front h n (λ k lt. none (suc k) (omega arith)))

-- a plain front, and n more bytes that are no newlines
pub plain-more : (h : List ℕ) (s n : ℕ) → IsPlain (take s h) → ((k : ℕ) → k < n → get_or (drop s h) k 0 ≡ 10 → ⊥) → IsPlain (take (s + n) h)
plain-more h zero n front none = rw zero-add (plain-front h n none)
plain-more [] (suc s) n front none = rw suc-add tt
plain-more (b ∷ h) (suc s) n front none = rw suc-add (front.0, plain-more h s n front.1 none)

-- what stands before the first newline is at least as long as a plain front
pub first-long : (h : List ℕ) (n : ℕ) → n ≤ length h → IsPlain (take n h) → n ≤ length (first_of h)
unfolding first_of
first-long h zero le front = omega arith
first-long [] (suc n) le front = le
first-long (b ∷ h) (suc n) le front =
    let rest : n ≤ length (first_of h) = first-long h n (omega arith) front.1 in
    rw (ne_eqb b 10 front.0) (omega arith)

-- what stands in a buffer between two places
abbrev pub part : List ℕ → ℕ → ℕ → List ℕ
part b s e = take (e - s) (drop s b)

pub length-part : (b : List ℕ) (s e : ℕ) → s ≤ e → e ≤ length b → length (part b s e) ≡ e - s
length-part b s e le fits = simp (length-take, length-drop) (omega arith)

-- a part is cut at a newline
pub part_cut : (b : List ℕ) (s e at : ℕ) → s + at < e → e ≤ length b → get_or (part b s e) at 0 ≡ 10 →
    part b s e ≡ part b s (s + at) ++ 10 ∷ part b (s + (at + 1)) e
part_cut b s e at lt fits is =
    let h = part b s e in
    let long : length h ≡ e - s = length-part b s e (omega arith) fits in
    let whole : h ≡ take at h ++ drop at h = sym (take-append-drop at h) in
    let cell : drop at h ≡ get_or h at 0 ∷ drop (at + 1) h = drop_more h at 0 (omega arith) in
    let front : take at h ≡ take at (drop s b) = take-take at (e - s) (drop s b) (omega arith) in
    let same : s + at - s ≡ at = omega arith in
    let count : e - s ≡ (at + 1) + (e - (s + (at + 1))) = omega arith in
    let back : drop (at + 1) h ≡ take (e - (s + (at + 1))) (drop (at + 1) (drop s b)) =
    ap (λ (n : ℕ). drop (at + 1) (take n (drop s b))) count ∙ drop-take (at + 1) (e - (s + (at + 1))) (drop s b) in
    let joined : drop (at + 1) (drop s b) ≡ drop (s + (at + 1)) b = drop-drop (at + 1) s b in
    rw same (whole ∙ rw (front, cell, is, back, joined) refl)

take-past : (a b : List ℕ) (n : ℕ) → take (length a + n) (a ++ b) ≡ a ++ take n b
take-past [] b n = rw zero-add refl
take-past (x ∷ a) b n = rw suc-add (ap (λ (z : List ℕ). x ∷ z) (take-past a b n))

-- what a read behind the front leaves
pub behind : (before after : Option (List ℕ)) (held m into : List ℕ) (count : ℕ) (r : Result ℕ Failed) →
    take count m ≡ held → count < length m → length into ≡ length m - count → Reads before after r into →
    IfOk r (λ n. ReadsBehind before after held count n (put_mid count (length m - count) m into))
behind before after held m into count (Ok n) front room size reads =
    let long : length (take count m) ≡ count = length-take-le count m (omega arith) in
    let rest = post_of count (length m - count) m in
    let start : take (count + n) (take count m ++ (into ++ rest)) ≡ take count m ++ take n (into ++ rest) =
    ap (λ (k : ℕ). take (k + n) (take count m ++ (into ++ rest))) (sym long) ∙ take-past (take count m) (into ++ rest) n in
    let le : n ≤ length into = reads.0 in
    let some : take n (into ++ rest) ≡ take n into = take-append-le n into rest le in
    record {
      taken = take n into;
      begins = start ∙ rw (some, front) refl;
      size = length-take-le n into le;
      fits = omega (arith, length-append (take count m) (into ++ rest), length-append into rest);
      consumed = reads.1;
      at_end = reads.2;
    }
behind before after held m into count (Err e) front room size reads = tt
