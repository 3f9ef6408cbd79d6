-- The first line of some bytes.
use Rattle.std.proofs.Common.{◌≡◌, ℕ, zero, suc, ◌+◌, ◌<◌, ◌≤◌, ◌==◌, not, nat_lt, true, false, cond, List, [], ◌∷◌, take, drop, length, get_or, position, Some, None, refl, sym, ap, ◌∙◌, add-one, arith, inl, inr}
use Rattle.std.specs.List.{position_or_len}
use Rattle.std.proofs.lemmas.Bool.{cond-true, cond-false, cases_Bool, ltb-false}
use Rattle.std.proofs.lemmas.List.Quantifiers.{position-Some}
use Rattle.trace_types.specs.Lines.{lines_of, onto_first}

line_here : (xs : List ℕ) (i : ℕ) → i < length xs → (get_or xs i 0 == 10) ≡ true → ((k : ℕ) → k < i → (get_or xs k 0 == 10) ≡ false)
    → lines_of xs ≡ take i xs ∷ lines_of (drop (suc i) xs)
unfolding lines_of
line_here [] i less here before = absurd (omega arith)
line_here (x ∷ xs) zero less here before = cond-true (x == 10) ([] ∷ lines_of xs) (onto_first x (lines_of xs)) here
line_here (x ∷ xs) (suc i) less here before =
    cond-false (x == 10) ([] ∷ lines_of xs) (onto_first x (lines_of xs)) (before 0 (omega arith))
    ∙ ap (onto_first x) (line_here xs i (omega arith) here (λ k below. before (suc k) (omega arith)))

-- a line with its end
pub line_ended : (xs : List ℕ) (i : ℕ) → position (λ b. b == 10) xs ≡ Some i → lines_of xs ≡ take i xs ∷ lines_of (drop (i + 1) xs)
line_ended xs i e =
    let found = position-Some (λ b. b == 10) xs i 0 e in
    rw add-one (line_here xs i found.0 found.1 found.2)

whole : (x : ℕ) (xs : List ℕ) → length (x ∷ xs) ≤ position_or_len (λ b. b == 10) (x ∷ xs) → lines_of (x ∷ xs) ≡ (x ∷ xs) ∷ []
unfolding lines_of
whole x [] l =
    elim (x == 10) as (λ b. 1 ≤ cond (not b) (1 + 0) 0 → cond b ([] ∷ []) ((x ∷ []) ∷ []) ≡ (x ∷ []) ∷ []) [
      | true ↦ λ no_room. absurd (omega arith)
      | false ↦ λ _. refl
    ] l
whole x (y ∷ xs) l =
    elim (x == 10) as (λ b. suc (length (y ∷ xs)) ≤ cond (not b) (1 + position_or_len (λ c. c == 10) (y ∷ xs)) 0
    → cond b ([] ∷ lines_of (y ∷ xs)) (onto_first x (lines_of (y ∷ xs))) ≡ (x ∷ y ∷ xs) ∷ []) [
      | true ↦ λ no_room. absurd (omega arith)
      | false ↦ λ more. ap (onto_first x) (whole y xs (omega arith))
    ] l

-- a last line without its end
pub line_left : (xs : List ℕ) → 0 < length xs → position (λ b. b == 10) xs ≡ None → lines_of xs ≡ xs ∷ lines_of (drop (length xs) xs)
unfolding lines_of
line_left [] some e = absurd (omega arith)
line_left (x ∷ xs) some e =
    whole x xs (elim (cases_Bool (nat_lt (position_or_len (λ b. b == 10) (x ∷ xs)) (length (x ∷ xs)))) [
      | inl less ↦ absurd (not_none (position_or_len (λ b. b == 10) (x ∷ xs)) (sym (cond-true _ _ _ less) ∙ e))
      | inr not_less ↦ ltb-false (position_or_len (λ b. b == 10) (x ∷ xs)) (length (x ∷ xs)) not_less
    ])
    ∙ ap (λ rest. (x ∷ xs) ∷ lines_of rest) (sym (nothing_left xs))
  where
    not_none : (n : ℕ) → Some n ≡ None → ⊥
    not_none n h = cc

    nothing_left : (ys : List ℕ) → drop (length ys) ys ≡ []
    nothing_left [] = refl
    nothing_left (y ∷ ys) = nothing_left ys
