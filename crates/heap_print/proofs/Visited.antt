-- The number that an object has once it was visited, and that it keeps.
use Rattle.std.proofs.Common.{◌≡◌, ◌<◌, ℕ, zero, suc, ◌+◌, ◌==◌, eqb, cond, not, Bool, true, false, List, [], ◌∷◌, ◌++◌, length, nat_lt, Some, None, unwrap_or, slice_get, refl, sym, ap, subst, ◌∙◌, arith}
use Rattle.std.specs.List.{AllByRecursion, IsDistinct, prefix_len, position_or_len}
use Rattle.std.proofs.lemmas.Cmp.{nat_eq_equiv}
use Rattle.std.proofs.lemmas.Bool.{lt-ltb}
use Rattle.std.proofs.lemmas.Option.{same_Some, slice_get_past}
use Rattle.trace_types.specs.Rules.{has}
use Rattle.trace_types.specs.Printing.{with_number, number_of}

-- Before it in the list stand so many that are not it, and it is in the list.
pub record StandsAt (xs : List ℕ) (x n : ℕ) : Type 0 where
  pub others : prefix_len (λ y. not (y == x)) xs ≡ n
  pub within : n < length xs

-- its place is its number
pub number_there : (xs : List ℕ) (x n : ℕ) → StandsAt xs x n → number_of xs x ≡ n
number_there xs x n at =
    ap (λ k. unwrap_or (cond (nat_lt k (length xs)) (Some k) None) 0) at.others
    ∙ ap (λ b. unwrap_or (cond b (Some n) None) 0) (lt-ltb n (length xs) at.within)

first_there : (x : ℕ) (xs : List ℕ) → StandsAt (x ∷ xs) x 0
first_there x xs = record { others = rw (nat_eq_equiv.refl x) refl; within = omega arith }

next_there : (y : ℕ) (xs : List ℕ) (x n : ℕ) → eqb y x ≡ false → StandsAt xs x n → StandsAt (y ∷ xs) x (suc n)
next_there y xs x n e at = record { others = rw (e, at.others) (omega arith); within = omega (arith, at.within) }

-- ---- a visit

-- where one has none yet, it is the last
pub visited_there : (xs : List ℕ) (x : ℕ) (more : List ℕ) → StandsAt (with_number xs x ++ more) x (position_or_len (λ y. eqb x y) xs)
visited_there [] x more = first_there x more
visited_there (y ∷ xs) x more = by (visited_there xs x more) (eqb y x) refl
  where
    by : StandsAt (with_number xs x ++ more) x (position_or_len (λ z. eqb x z) xs) → (b : Bool) → eqb y x ≡ b → StandsAt (with_number (y ∷ xs) x ++ more) x (position_or_len (λ z. eqb x z) (y ∷ xs))
    by at true e = rw (nat_eq_equiv.symm x y, e) (record { others = rw e refl; within = omega arith })
    by at false e = rw (nat_eq_equiv.symm x y, e)
        (elim (has xs x) as (λ b. StandsAt (cond b xs (xs ++ x ∷ []) ++ more) x (position_or_len (λ z. eqb x z) xs)
        → StandsAt (cond b (y ∷ xs) (y ∷ (xs ++ x ∷ [])) ++ more) x (1 + position_or_len (λ z. eqb x z) xs)) [
          | true ↦ λ there. record { others = rw (e, there.others) refl; within = omega (arith, there.within) }
          | false ↦ λ there. record { others = rw (e, there.others) refl; within = omega (arith, there.within) }
        ] at)

pub visited_number : (xs : List ℕ) (x : ℕ) (more : List ℕ) → number_of (with_number xs x ++ more) x ≡ position_or_len (λ y. eqb x y) xs
visited_number xs x more = number_there _ x _ (visited_there xs x more)

-- ---- of numbers that differ

apart_at : (y : ℕ) (xs : List ℕ) (n x : ℕ) → AllByRecursion (λ z. eqb y z ≡ false) xs → slice_get xs n ≡ Some x → eqb y x ≡ false
apart_at y [] n x all e = let bad : None ≡ Some x = sym (slice_get_past [] n (omega arith)) ∙ e in cc
apart_at y (z ∷ xs) zero x all e = subst (λ q. eqb y q ≡ false) (same_Some _ _ e) all.0
apart_at y (z ∷ xs) (suc n) x all e = apart_at y xs n x all.1 e

distinct_there : (xs : List ℕ) (n x : ℕ) (more : List ℕ) → IsDistinct eqb xs → slice_get xs n ≡ Some x → StandsAt (xs ++ more) x n
unfolding IsDistinct
distinct_there [] n x more d e = let bad : None ≡ Some x = sym (slice_get_past [] n (omega arith)) ∙ e in cc
distinct_there (y ∷ xs) zero x more d e = subst (λ q. StandsAt (y ∷ xs ++ more) q 0) (same_Some _ _ e) (first_there y (xs ++ more))
distinct_there (y ∷ xs) (suc n) x more d e = next_there y (xs ++ more) x n (apart_at y xs n x d.0 e) (distinct_there xs n x more d.1 e)

-- each has the number of its place
pub number_at : (xs : List ℕ) (n x : ℕ) (more : List ℕ) → IsDistinct eqb xs → slice_get xs n ≡ Some x → number_of (xs ++ more) x ≡ n
number_at xs n x more d e = number_there _ x n (distinct_there xs n x more d e)
