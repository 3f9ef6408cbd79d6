-- Members of lists of births, and the objects among values that are read.
use Rattle.std.proofs.Common.{◌≡◌, ℕ, zero, suc, ◌==◌, false, List, [], ◌∷◌, map, slice_get, Contains, IsTrue, Some, refl, sym, subst, inl, inr}
use Rattle.std.specs.List.{AllByRecursion}
use Rattle.std.proofs.lemmas.Bool.{eq-eqb, eqb-true, false≢true, or_cases, or_left, or_right}
use Rattle.std.proofs.lemmas.Option.{none-some, same_Some}
use Rattle.trace_types.specs.Values.{Value, object_in, objects_in}
use Rattle.trace_types.specs.Rules.{has}
use Rattle.trace_types.proofs.Least.{has-append}
use Rattle.owned_core.proofs.Lists.{any_some, map_some, some_any, some_map}

-- ---- a list as a set

pub has_contains : (xs : List ℕ) (x : ℕ) → IsTrue (has xs x) → Contains xs x
has_contains xs x h =
    let r = any_some (λ y. y == x) xs h in
    subst (Contains xs) (eqb-true r.0 x r.2) r.1

pub contains_has : (xs : List ℕ) (x : ℕ) → Contains xs x → IsTrue (has xs x)
contains_has xs x c = some_any (λ y. y == x) xs x c (eq-eqb x x refl)

pub has_one : (x : ℕ) → IsTrue (has (x ∷ []) x)
has_one x = or_left (x == x) false (eq-eqb x x refl)

-- what each gives is there
pub has_mapped : {X : Type 0} (g : X → ℕ) (xs : List X) (x : X) → Contains xs x
    → IsTrue (has (map g xs) (g x))
has_mapped g xs x c = contains_has (map g xs) (g x) (some_map g xs x c)

-- and what is there, one gives
pub mapped_from : {X : Type 0} (g : X → ℕ) (xs : List X) (y : ℕ) → IsTrue (has (map g xs) y)
    → (x : X) × Contains xs x × (g x ≡ y)
mapped_from g xs y h = map_some g xs y (has_contains (map g xs) y h)

-- ---- elements by index

-- what holds of each holds of the one at an index
pub each_at : {X : Type 0} (P : X → Type 0) (xs : List X) (i : ℕ) (x : X) → AllByRecursion P xs
    → slice_get xs i ≡ Some x → P x
each_at P [] i x all e = absurd (none-some x e)
each_at P (y ∷ xs) zero x all e = subst P (same_Some y x e) all.0
each_at P (y ∷ xs) (suc i) x all e = each_at P xs i x all.1 e

-- an object among the values that elements give is of one of them
pub object_from : {X : Type 0} (g : X → Value) (xs : List X) (y : ℕ) → IsTrue (has (objects_in (map g xs)) y)
    → (i : ℕ) × (x : X) × (slice_get xs i ≡ Some x) × IsTrue (has (object_in (g x)) y)
object_from g [] y h = absurd (false≢true h)
object_from g (x ∷ xs) y h =
    elim (or_cases (has (object_in (g x)) y) (has (objects_in (map g xs)) y)
    (subst IsTrue (has-append (object_in (g x)) (objects_in (map g xs)) y) h)) [
      | inl here ↦ (0, x, refl, here)
      | inr later ↦ let r = object_from g xs y later in (suc r.0, r.1, r.2, r.3)
    ]

-- and each is among them
pub object_there : {X : Type 0} (g : X → Value) (xs : List X) (i : ℕ) (x : X) (y : ℕ)
    → slice_get xs i ≡ Some x → IsTrue (has (object_in (g x)) y) → IsTrue (has (objects_in (map g xs)) y)
object_there g [] i x y e h = absurd (none-some x e)
object_there g (z ∷ xs) zero x y e h =
    subst IsTrue (sym (has-append (object_in (g z)) (objects_in (map g xs)) y))
    (or_left _ (has (objects_in (map g xs)) y)
    (subst (λ v. IsTrue (has (object_in (g v)) y)) (sym (same_Some z x e)) h))
object_there g (z ∷ xs) (suc i) x y e h =
    subst IsTrue (sym (has-append (object_in (g z)) (objects_in (map g xs)) y))
    (or_right (has (object_in (g z)) y) _ (object_there g xs i x y e h))
