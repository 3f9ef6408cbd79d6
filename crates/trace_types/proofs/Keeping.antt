-- What a collection keeps.
use Rattle.std.proofs.Common.{◌≡◌, ℕ, Bool, true, false, not, ◌||◌, ◌&&◌, List, [], ◌∷◌, filter, IsTrue, refl, subst, inl, inr, cond}
use Rattle.std.specs.List.{AllByRecursion}
use Rattle.std.proofs.lemmas.Bool.{and_from, or_right, or_left, false≢true, cases_Bool, both_ways, not_from_false}
use Rattle.std.proofs.lemmas.List.Elements.{recursion_from_All}
use Rattle.trace_types.specs.Values.{Value, objects_in}
use Rattle.trace_types.specs.States.{State, Registration}
use Rattle.trace_types.specs.Rules.{has, ◌⊆◌, meets}
use Rattle.trace_types.specs.Kept.{rules_to, is_outside, is_dead, is_unordered, is_ordered, is_candidate, is_ready, is_given, accessible, waited_for, kept}
use Rattle.trace_types.specs.Closed.{IsIn}
use Rattle.trace_types.proofs.Least.{each_weaker}
use Rattle.trace_types.proofs.Meeting.{each_in_flat_map, met_use, in_from, in_use}
use Rattle.trace_types.proofs.Phases.{accessible_kept, kept_meets}

pub each_filter : {X : Type 0} (P : X → Type 0) (p : X → Bool) (xs : List X) → AllByRecursion P (filter p xs) → AllByRecursion (λ x. IsTrue (p x) → P x) xs
each_filter P p [] h = tt
each_filter P p (x ∷ xs) h =
    elim (p x) as (λ b. AllByRecursion P (cond b (x ∷ filter p xs) (filter p xs)) → (IsTrue b → P x) × AllByRecursion (λ y. IsTrue (p y) → P y) xs) [
      | true ↦ λ g. ((λ _. g.0), each_filter P p xs g.1)
      | false ↦ λ g. ((λ e. absurd (false≢true e)), each_filter P p xs g)
    ] h

pub each_filtered : {X : Type 0} (P : X → Type 0) (p : X → Bool) (xs : List X) → AllByRecursion (λ x. IsTrue (p x) → P x) xs → AllByRecursion P (filter p xs)
each_filtered P p [] h = tt
each_filtered P p (x ∷ xs) h =
    elim (p x) as (λ b. (IsTrue b → P x) → AllByRecursion P (cond b (x ∷ filter p xs) (filter p xs))) [
      | true ↦ λ g. (g refl, each_filtered P p xs h.1)
      | false ↦ λ g. each_filtered P p xs h.1
    ] h.0

pub in_weaker : (set other : List ℕ) → set ⊆ other → (v : Value) → IsIn set v → IsIn other v
in_weaker set other sub v h = in_from other v (λ x there. sub x (in_use set v h x there))

pub each_pair : {X : Type 0} (P Q R : X → Type 0) → ((x : X) → P x → Q x → R x) → (xs : List X) → AllByRecursion P xs → AllByRecursion Q xs → AllByRecursion R xs
each_pair P Q R f [] p q = tt
each_pair P Q R f (x ∷ xs) p q = (f x p.0 q.0, each_pair P Q R f xs p.1 q.1)

-- A registration that stays has an object that is kept, or an immediate. Its guardian is of a guardian kind.
stays_kept : (s : State) (cg : ℕ) (r : Registration)
    → (IsTrue (is_dead s cg r && is_ordered s r && not (is_candidate s cg r)) → IsTrue (has (kept s cg) r.guardian) → IsIn (kept s cg) r.object)
    → IsTrue (is_unordered s r || is_ordered s r)
    → IsTrue (has (kept s cg) r.guardian) → is_given s cg r ≡ false → IsIn (kept s cg) r.object
stays_kept s cg r unready guard there stays =
    elim (cases_Bool (is_dead s cg r)) [
      | inr alive ↦ in_weaker (accessible s cg) (kept s cg) (accessible_kept s cg) r.object alive
      | inl died ↦ elim (cases_Bool (is_unordered s r)) [
        | inl unordered ↦ absurd (both_ways (is_given s cg r) stays
            (or_left (is_dead s cg r && is_unordered s r && has (kept s cg) r.guardian) (is_ready s cg r)
            (and_from (is_dead s cg r && is_unordered s r) (has (kept s cg) r.guardian) (and_from (is_dead s cg r) (is_unordered s r) died unordered) there)))
        | inr other ↦
            let ordered : IsTrue (is_ordered s r) = subst (λ b. IsTrue (b || is_ordered s r)) other guard in
            elim (cases_Bool (is_candidate s cg r)) [
              | inr no_candidate ↦ unready (and_from (is_dead s cg r && is_ordered s r) (not (is_candidate s cg r)) (and_from (is_dead s cg r) (is_ordered s r) died ordered) (not_from_false (is_candidate s cg r) no_candidate)) there
              | inl candidate ↦ elim (cases_Bool (is_outside (waited_for s cg) r.object)) [
                | inr waited ↦ in_weaker (waited_for s cg) (kept s cg) (kept_meets s cg).waited r.object waited
                | inl ready ↦ absurd (both_ways (is_given s cg r) stays
                    (or_right (is_dead s cg r && is_unordered s r && has (kept s cg) r.guardian) (is_ready s cg r) (and_from (is_candidate s cg r) (is_outside (waited_for s cg) r.object) candidate ready)))
              ]
            ]
      ]
    ]

pub stay_kept : (s : State) (cg : ℕ) → AllByRecursion (λ r. IsTrue (is_unordered s r || is_ordered s r)) s.registrations
    → AllByRecursion (λ r. IsTrue (has (kept s cg) r.guardian) → is_given s cg r ≡ false → IsIn (kept s cg) r.object) s.registrations
stay_kept s cg guards =
    each_pair _ (λ r. IsTrue (is_unordered s r || is_ordered s r)) _ (λ r unready guard. stays_kept s cg r unready guard) s.registrations
    (each_weaker _ (λ r. IsTrue (is_dead s cg r && is_ordered s r && not (is_candidate s cg r)) → IsTrue (has (kept s cg) r.guardian) → IsIn (kept s cg) r.object)
    (λ r m is there. in_from (kept s cg) r.object (met_use (kept s cg) (r.guardian ∷ []) (objects_in (r.object ∷ [])) (m is) (and_from (has (kept s cg) r.guardian) true there refl)))
    s.registrations
    (each_filter _ (λ r. is_dead s cg r && is_ordered s r && not (is_candidate s cg r)) s.registrations
    (each_in_flat_map (λ r. IsTrue (meets (kept s cg) r)) (λ r. rules_to r.object (r.guardian ∷ [])) _ (recursion_from_All _ _ (kept_meets s cg).unready))))
    guards
