-- Laws of the lines of bytes.
use Rattle.std.proofs.Common.{◌≡◌, ◌≢◌, ℕ, ◌≤◌, List, [], ◌∷◌, ◌++◌, length, refl, sym, ◌∙◌, ap, arith, Bool, true, false, eqb, cond, append_assoc, inl, inr}
use Rattle.trace_types.specs.Lines.{head_line, onto_first, lines_of, onto_whole, whole_of, first_of, IsPlain}
use Rattle.std.proofs.lemmas.Bool.{ne_eqb}
use Rattle.std.proofs.lemmas.Bool.Decides.{eqb_tells}

pub lines-empty : lines_of [] ≡ []
unfolding lines_of
lines-empty = refl

pub whole-empty : whole_of [] ≡ []
unfolding whole_of
whole-empty = refl

-- a line that a newline ends
pub lines-newline : (l r : List ℕ) → IsPlain l → lines_of (l ++ 10 ∷ r) ≡ l ∷ lines_of r
unfolding lines_of
lines-newline [] r p = refl
lines-newline (b ∷ l) r p = rw (ne_eqb b 10 p.0, lines-newline l r p.1) refl

-- a last line
pub lines-last : (l : List ℕ) → IsPlain l → l ≢ [] → lines_of l ≡ l ∷ []
unfolding lines_of
lines-last [] p some = absurd (some refl)
lines-last (b ∷ []) p some = rw (ne_eqb b 10 p.0) refl
lines-last (b ∷ c ∷ l) p some =
    let rest : lines_of (c ∷ l) ≡ (c ∷ l) ∷ [] = lines-last (c ∷ l) p.1 (λ e. cc) in
    rw (ne_eqb b 10 p.0) (ap (onto_first b) rest)

-- bytes have a line
pub lines-some : (b : ℕ) (bs : List ℕ) → (l : List ℕ) × (ls : List (List ℕ)) × (lines_of (b ∷ bs) ≡ l ∷ ls)
unfolding lines_of
lines-some b bs = lines-some-at (eqb b 10) b (lines_of bs)
  where
    lines-some-at : (test : Bool) (b : ℕ) (rest : List (List ℕ)) → (l : List ℕ) × (ls : List (List ℕ)) × (cond test ([] ∷ rest) (onto_first b rest) ≡ l ∷ ls)
    lines-some-at true b rest = ([], rest, refl)
    lines-some-at false b [] = (b ∷ [], [], refl)
    lines-some-at false b (l ∷ ls) = (b ∷ l, ls, refl)

pub head-onto : (b : ℕ) (ls : List (List ℕ)) → head_line (onto_first b ls) ≡ b ∷ head_line ls
head-onto b [] = refl
head-onto b (l ∷ ls) = refl

-- the first line of bytes is at least as long as what stands before the first newline of a front
pub head-long : (h r : List ℕ) → length (first_of h) ≤ length (head_line (lines_of (h ++ r)))
unfolding lines_of first_of
head-long [] r = omega arith
head-long (b ∷ h) r = head-long-at (eqb b 10) b (first_of h) (lines_of (h ++ r)) (head-long h r)
  where
    head-long-at : (test : Bool) (b : ℕ) (f : List ℕ) (ls : List (List ℕ)) → length f ≤ length (head_line ls) →
        length (cond test [] (b ∷ f)) ≤ length (head_line (cond test ([] ∷ ls) (onto_first b ls)))
    head-long-at true b f ls h = omega arith
    head-long-at false b f ls h = rw (head-onto b ls) (omega arith)

pub onto-append : (b : ℕ) (l : List ℕ) (ls ms : List (List ℕ)) → onto_first b ((l ∷ ls) ++ ms) ≡ onto_first b (l ∷ ls) ++ ms
onto-append b l ls ms = refl

-- The lines of a whole front stand before those of what follows.
pub whole-step : (b : ℕ) (w x : List ℕ) → lines_of (w ++ x) ≡ lines_of w ++ lines_of x → lines_of (onto_whole b w ++ x) ≡ lines_of (onto_whole b w) ++ lines_of x
unfolding lines_of
whole-step b [] x h = elim (eqb_tells b 10) [ inl t ↦ rw (t.0, t.0) refl | inr t ↦ rw (t.0) refl ]
whole-step b (c ∷ w) x h =
    let some = lines-some c w in
    elim (eqb_tells b 10) [
      | inl t ↦ rw (t.0, h) refl
      | inr t ↦ rw (t.0, h, some.2) refl
    ]

pub lines-whole : (t x : List ℕ) → lines_of (whole_of t ++ x) ≡ lines_of (whole_of t) ++ lines_of x
unfolding whole_of
lines-whole [] x = rw lines-empty refl
lines-whole (b ∷ t) x = whole-step b (whole_of t) x (lines-whole t x)

-- a front that ends with a newline is whole
pub whole-onto : (b c : ℕ) (w : List ℕ) → onto_whole b (c ∷ w) ≡ b ∷ c ∷ w
whole-onto b c w = refl

pub whole-ends : (t : List ℕ) → whole_of (t ++ 10 ∷ []) ≡ t ++ 10 ∷ []
unfolding whole_of
whole-ends [] = refl
whole-ends (b ∷ []) = refl
whole-ends (b ∷ c ∷ t) = rw (whole-ends (c ∷ t)) refl

-- what follows the first byte of a whole front is whole
pub whole-tail : (b : ℕ) (w g : List ℕ) → onto_whole b w ≡ b ∷ g → w ≡ g
whole-tail b [] g e = whole-tail-at (eqb b 10) e
  where
    whole-tail-at : (test : Bool) → cond test (b ∷ []) [] ≡ b ∷ g → [] ≡ g
    whole-tail-at true e = cc
    whole-tail-at false e = cc
whole-tail b (c ∷ w) g e = cc

pub whole-nothing : (h : List ℕ) → IsPlain h → whole_of h ≡ []
unfolding whole_of
whole-nothing [] p = refl
whole-nothing (b ∷ h) p = rw (whole-nothing h p.1, ne_eqb b 10 p.0) refl

-- bytes without a newline add nothing to a whole front
pub whole-plain : (g h : List ℕ) → whole_of g ≡ g → IsPlain h → whole_of (g ++ h) ≡ g
unfolding whole_of
whole-plain [] h e p = whole-nothing h p
whole-plain (b ∷ g) h e p =
    let tail : whole_of g ≡ g = whole-tail b (whole_of g) g e in
    let more : whole_of (g ++ h) ≡ whole_of g = whole-plain g h tail p ∙ sym tail in
    ap (onto_whole b) more ∙ e

-- a whole front is a front
pub whole-front-step : (b : ℕ) (w u : List ℕ) → (v : List ℕ) × (b ∷ (w ++ u) ≡ onto_whole b w ++ v)
whole-front-step b [] u = at (eqb b 10)
  where
    at : (test : Bool) → (v : List ℕ) × (b ∷ u ≡ cond test (b ∷ []) [] ++ v)
    at true = (u, refl)
    at false = (b ∷ u, refl)
whole-front-step b (c ∷ w) u = (u, refl)

pub whole-front : (t : List ℕ) → (u : List ℕ) × (t ≡ whole_of t ++ u)
unfolding whole_of
whole-front [] = ([], refl)
whole-front (b ∷ t) =
    let rest = whole-front t in
    let step = whole-front-step b (whole_of t) rest.0 in
    (step.0, ap (λ (x : List ℕ). b ∷ x) rest.1 ∙ step.1)

-- The lines of the whole part of a front are first lines.
pub lines-front : (t u : List ℕ) → (ms : List (List ℕ)) × (lines_of (t ++ u) ≡ lines_of (whole_of t) ++ ms)
lines-front t u =
    let rest = whole-front t in
    let regrouped : t ++ u ≡ whole_of t ++ (rest.0 ++ u) = ap (λ (x : List ℕ). x ++ u) rest.1 ∙ append_assoc (whole_of t) rest.0 u in
    (lines_of (rest.0 ++ u), ap lines_of regrouped ∙ lines-whole t (rest.0 ++ u))
