-- A list of numbers without its last one.
use Rattle.std.proofs.Common.{◌≡◌, ◌≢◌, ℕ, false, not, ◌==◌, List, [], ◌∷◌, ◌++◌, filter, cond, Contains, refl, ap, ◌∙◌}
use Rattle.std.proofs.lemmas.Bool.{eq-eqb, eqb-true, false_from_ne_true, ne_eqb}
use Rattle.trace_types.specs.Rules.{has}
use Rattle.owned_core.proofs.Lists.{any_some, contains_here, contains_there}

-- a list without its last number, which is there once
pub filter_last : (x : ℕ) (ys : List ℕ) → ((y : ℕ) → Contains ys y → y ≢ x)
    → filter (λ y. not (y == x)) (ys ++ x ∷ []) ≡ ys
filter_last x [] f = ap (λ z. cond (not z) (x ∷ []) []) (eq-eqb x x refl)
filter_last x (y ∷ ys) f =
    ap (λ z. cond (not z) (y ∷ filter (λ v. not (v == x)) (ys ++ x ∷ [])) (filter (λ v. not (v == x)) (ys ++ x ∷ [])))
    (ne_eqb y x (f y (contains_here y ys)))
    ∙ ap (λ l. y ∷ l) (filter_last x ys (λ z c. f z (contains_there y ys z c)))

-- what differs from each number of a list is not in it
pub has_not : (x : ℕ) (ys : List ℕ) → ((y : ℕ) → Contains ys y → y ≢ x) → has ys x ≡ false
has_not x ys f = false_from_ne_true (has ys x) (λ h.
    let r = any_some (λ y. y == x) ys h in
    f r.0 r.1 (eqb-true r.0 x r.2))
