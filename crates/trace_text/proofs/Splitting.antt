-- The fields of a line, taken off one by one.
use Rattle.std.proofs.Common.{◌≡◌, ℕ, suc, ◌+◌, ◌≤◌, ◌==◌, Bool, true, false, not, nat_lt, List, [], ◌∷◌, take, drop, length, cond, Some, None, position, refl, sym, ap, subst, ◌∙◌, inl, inr, arith, Option, IsTrue, is_some, rules}
use Rattle.std.specs.Borrow.{Bor}
use Rattle.trace_text.specs.Fields.{fields_left}
use Rattle.std.specs.List.{slice_split, onto_first, position_or_len}
use Rattle.std.proofs.lemmas.Bool.{cond-true, cond-false, cases_Bool, ltb-true, ltb-false}
use Rattle.std.proofs.lemmas.List.Splits.{slice_split_first}

-- the first field ends where the first element passes
pub slice_split-position-Some : (p : ℕ → Bool) (xs : List ℕ) (i : ℕ) → position p xs ≡ Some i → slice_split p xs ≡ take i xs ∷ slice_split p (drop (i + 1) xs)
slice_split-position-Some p xs i e =
    elim (cases_Bool (nat_lt (position_or_len p xs) (length xs))) [
      | inl less ↦
          let here : Some (position_or_len p xs) ≡ Some i = sym (cond-true _ _ _ less) ∙ e in
          let same : position_or_len p xs ≡ i = cc in
          subst (λ (n : ℕ). slice_split p xs ≡ take n xs ∷ slice_split p (drop (n + 1) xs)) same (slice_split_first p xs 0 (ltb-true _ _ less))
      | inr not_less ↦ let none : None ≡ Some i = sym (cond-false _ _ _ not_less) ∙ e in cc
    ]

whole : (p : ℕ → Bool) (xs : List ℕ) → length xs ≤ position_or_len p xs → slice_split p xs ≡ xs ∷ []
whole p [] l = refl
whole p (x ∷ xs) l =
    elim (p x) as (λ b. suc (length xs) ≤ cond (not b) (1 + position_or_len p xs) 0 → cond b ([] ∷ slice_split p xs) (onto_first x (slice_split p xs)) ≡ (x ∷ xs) ∷ []) [
      | true ↦ λ no_room. absurd (omega arith)
      | false ↦ λ more. ap (onto_first x) (whole p xs (omega arith))
    ] l

-- where no element passes there is one field
pub slice_split-position-None : (p : ℕ → Bool) (xs : List ℕ) → position p xs ≡ None → slice_split p xs ≡ xs ∷ []
slice_split-position-None p xs e =
    elim (cases_Bool (nat_lt (position_or_len p xs) (length xs))) [
      | inl less ↦ let here : Some (position_or_len p xs) ≡ None = sym (cond-true _ _ _ less) ∙ e in cc
      | inr not_less ↦ whole p xs (ltb-false _ _ not_less)
    ]

onto_first-not_empty : (x : ℕ) (parts : List (List ℕ)) → onto_first x parts ≡ [] → ⊥
onto_first-not_empty x [] e = cc
onto_first-not_empty x (part ∷ parts) e = cc

-- there is at least one field
pub slice_split-not_empty : (p : ℕ → Bool) (xs : List ℕ) → slice_split p xs ≡ [] → ⊥
slice_split-not_empty p [] e = cc
slice_split-not_empty p (x ∷ xs) e =
    elim (p x) as (λ b. cond b ([] ∷ slice_split p xs) (onto_first x (slice_split p xs)) ≡ [] → ⊥) [
      | true ↦ λ h. cc
      | false ↦ onto_first-not_empty x (slice_split p xs)
    ] e

-- no field is left exactly where there is no rest
pub fields_left-empty : (rest : Option (Bor (List ℕ))) (empty : Bool) → is_some rest ≡ not empty → (IsTrue empty → fields_left rest ≡ []) × (fields_left rest ≡ [] → IsTrue empty)
fields_left-empty None true e = (λ _. refl, λ _. search rules)
fields_left-empty None false e = cc
fields_left-empty (Some text) true e = cc
fields_left-empty (Some text) false e = (λ t. search rules, λ h. absurd (slice_split-not_empty (λ b. b == 32) text.now h))
