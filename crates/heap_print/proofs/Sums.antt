-- Two lists that have the same numbers, each once, have the same sums.
use Rattle.std.proofs.Common.{◌≡◌, ℕ, ◌+◌, eqb, cond, not, ◌&&◌, ◌||◌, Bool, true, false, List, [], ◌∷◌, filter, refl, sym, ap, subst, ◌∙◌, arith}
use Rattle.std.specs.List.{AllByRecursion, IsDistinct, sum_by}
use Rattle.std.proofs.lemmas.Bool.{false≢true, eqb-true, or_left}
use Rattle.std.proofs.lemmas.Cmp.{nat_eq_equiv}
use Rattle.std.proofs.lemmas.List.Sums.{sum_by-cons}
use Rattle.trace_types.specs.Rules.{has}

-- the numbers but for one
abbrev without : ℕ → List ℕ → List ℕ
without x ys = filter (λ y. not (eqb x y)) ys

-- none of the numbers is x
absent : (x : ℕ) (ys : List ℕ) → AllByRecursion (λ y. eqb x y ≡ false) ys → without x ys ≡ ys
absent x [] h = refl
absent x (y ∷ ys) h = rw (h.0, absent x ys h.1) refl

not_there : (x : ℕ) (ys : List ℕ) → AllByRecursion (λ y. eqb x y ≡ false) ys → has ys x ≡ false
not_there x [] h = refl
not_there x (y ∷ ys) h = rw (nat_eq_equiv.symm y x, h.0, not_there x ys h.1) refl

-- taken out, it is no longer there, and the others still are
has-without : (x q : ℕ) (ys : List ℕ) → has (without x ys) q ≡ (not (eqb x q) && has ys q)
has-without x q [] = by (eqb x q)
  where
    by : (b : Bool) → false ≡ (not b && false)
    by true = refl
    by false = refl
has-without x q (y ∷ ys) = by (has-without x q ys) (eqb x y) (eqb x q) (eqb y q) refl refl refl
  where
    by : has (without x ys) q ≡ (not (eqb x q) && has ys q) → (xy xq yq : Bool) → eqb x y ≡ xy → eqb x q ≡ xq → eqb y q ≡ yq → has (without x (y ∷ ys)) q ≡ (not (eqb x q) && has (y ∷ ys) q)
    by rest true true yq a b c = rw (a, rest, b) refl
    by rest true false true a b c = absurd (false≢true (sym b ∙ ap (λ z. eqb z q) (eqb-true x y a) ∙ c))
    by rest true false false a b c = rw (a, rest, b, c) refl
    by rest false true true a b c = absurd (false≢true (sym a ∙ ap (λ z. eqb x z) (eqb-true y q c) ∙ b))
    by rest false true false a b c = rw (a, c, rest, b) refl
    by rest false false true a b c = rw (a, b, c) refl
    by rest false false false a b c = rw (a, c, rest, b) refl

all-without : (P : ℕ → Type 0) (x : ℕ) (ys : List ℕ) → AllByRecursion P ys → AllByRecursion P (without x ys)
all-without P x [] h = tt
all-without P x (y ∷ ys) h = elim (eqb x y) as (λ b. AllByRecursion P (cond (not b) (y ∷ without x ys) (without x ys))) [
  | true ↦ all-without P x ys h.1
  | false ↦ (h.0, all-without P x ys h.1)
]

distinct-without : (x : ℕ) (ys : List ℕ) → IsDistinct eqb ys → IsDistinct eqb (without x ys)
unfolding IsDistinct
distinct-without x [] h = tt
distinct-without x (y ∷ ys) h = elim (eqb x y) as (λ b. IsDistinct eqb (cond (not b) (y ∷ without x ys) (without x ys))) [
  | true ↦ distinct-without x ys h.1
  | false ↦ (all-without (λ z. eqb y z ≡ false) x ys h.0, distinct-without x ys h.1)
]

sum-without : (h : ℕ → ℕ) (x : ℕ) (ys : List ℕ) → IsDistinct eqb ys → has ys x ≡ true → sum_by h ys ≡ h x + sum_by h (without x ys)
unfolding IsDistinct
sum-without h x [] d there = absurd (false≢true there)
sum-without h x (y ∷ ys) d there = by (λ tail. sum-without h x ys d.1 tail) (eqb x y) refl
  where
    by : (has ys x ≡ true → sum_by h ys ≡ h x + sum_by h (without x ys)) → (b : Bool) → eqb x y ≡ b → sum_by h (y ∷ ys) ≡ h x + sum_by h (without x (y ∷ ys))
    by onward true e =
        let same : x ≡ y = eqb-true x y e in
        let gone : without x ys ≡ ys = absent x ys (subst (λ z. AllByRecursion (λ w. eqb z w ≡ false) ys) (sym same) d.0) in
        sum_by-cons h y ys ∙ ap (λ z. h z + sum_by h ys) (sym same) ∙ ap (λ zs. h x + sum_by h zs) (sym gone)
        ∙ ap (λ b. h x + sum_by h (cond (not b) (y ∷ without x ys) (without x ys))) (sym e)
    by onward false e =
        let tail : has ys x ≡ true = ap (λ b. b || has ys x) (sym (nat_eq_equiv.symm y x ∙ e)) ∙ there in
        let more : sum_by h ys ≡ h x + sum_by h (without x ys) = onward tail in
        let split : sum_by h (y ∷ ys) ≡ h y + sum_by h ys = sum_by-cons h y ys in
        let left : sum_by h (y ∷ without x ys) ≡ h y + sum_by h (without x ys) = sum_by-cons h y (without x ys) in
        let total : sum_by h (y ∷ ys) ≡ h x + sum_by h (y ∷ without x ys) = omega (arith, more, split, left) in
        total ∙ ap (λ b. h x + sum_by h (cond (not b) (y ∷ without x ys) (without x ys))) (sym e)

pub sum-same : (h : ℕ → ℕ) (xs ys : List ℕ) → IsDistinct eqb xs → IsDistinct eqb ys → ((q : ℕ) → has xs q ≡ has ys q) → sum_by h xs ≡ sum_by h ys
unfolding IsDistinct
sum-same h [] [] d e same = refl
sum-same h [] (y ∷ ys) d e same = absurd (false≢true (same y ∙ or_left (eqb y y) (has ys y) (nat_eq_equiv.refl y)))
sum-same h (x ∷ xs) ys d e same =
    let there : has ys x ≡ true = sym (same x) ∙ or_left (eqb x x) (has xs x) (nat_eq_equiv.refl x) in
    sum_by-cons h x xs
    ∙ ap (λ n. h x + n) (sum-same h xs (without x ys) d.1 (distinct-without x ys e) (λ q. others q (eqb x q) refl))
    ∙ sym (sum-without h x ys e there)
  where
    others : (q : ℕ) (b : Bool) → eqb x q ≡ b → has xs q ≡ has (without x ys) q
    others q true b = ap (has xs) (sym (eqb-true x q b)) ∙ not_there x xs d.0 ∙ ap (λ z. not z && has ys q) (sym b) ∙ sym (has-without x q ys)
    others q false b = ap (λ z. z || has xs q) (sym b) ∙ same q ∙ ap (λ z. not z && has ys q) (sym b) ∙ sym (has-without x q ys)
