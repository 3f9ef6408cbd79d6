-- When a set meets the rules of a state.
use Rattle.std.proofs.Common.{◌≡◌, ℕ, Bool, true, false, not, ◌||◌, ◌==◌, List, [], ◌∷◌, ◌++◌, map, flat_map, IsTrue, refl, sym, ap, subst, ◌∙◌, Some, None, nat_cmp, inl, inr, cond, nat_lt, is_lt, arith}
use Rattle.std.specs.List.{list_all, AllByRecursion}
use Rattle.std.specs.FinMap.{is_sorted}
use Rattle.std.specs.FinMap.Entries.{below_all}
use Rattle.std.specs.declared.cmp.Ordering.TheVariants.{Less, Equal, Greater}
use Rattle.std.proofs.lemmas.Grind.{flat_map-append}
use Rattle.std.proofs.lemmas.List.{map-append}
use Rattle.trace_types.proofs.Graphs.{find_first}
use Rattle.std.proofs.lemmas.Bool.{and_parts, and_from, or_right, or_cases, eq-eqb, eqb-true, false≢true, true≢false, cases_Bool, cond-true, cond-false, ltb-true, ne_eqb}
use Rattle.std.proofs.lemmas.List.Elements.{All-from_recursion, recursion_from_All}
use Rattle.trace_types.specs.Values.{Value, fixnum, nil, true_value, false_value, bwp, object, objects_in, Object, object_at, is_ephemeron, strong_references, strong_values, object_in, key_of, value_of}
use Rattle.trace_types.specs.States.{State, Registration}
use Rattle.trace_types.specs.Rules.{Rule, has, ◌⊆◌, meets, MeetsAll, least}
use Rattle.trace_types.specs.Kept.{rules_to, strong_rules, ephemeron_rules, object_rules, registration_rules, rules, roots, accessible}
use Rattle.trace_types.specs.Closed.{IsIn, IsClosed}
use Rattle.trace_types.specs.WellFormed.{IsWellFormed}
use Rattle.trace_types.specs.Laws.{IsAccessible}
use Rattle.trace_types.proofs.Least.{meets_use, meets_from, each_weaker, MeetsAll-append, has_all_from, has_all_at, least_meets, least_below, facts_there, facts_met}

abbrev pub Met : List ℕ → List Rule → Type 0
Met set rs = AllByRecursion (λ r. IsTrue (meets set r)) rs

pub each_append : {X : Type 0} (P : X → Type 0) (xs ys : List X) → AllByRecursion P xs → AllByRecursion P ys → AllByRecursion P (xs ++ ys)
each_append P [] ys h k = k
each_append P (x ∷ xs) ys h k = (h.0, each_append P xs ys h.1 k)

pub each_left : {X : Type 0} (P : X → Type 0) (xs ys : List X) → AllByRecursion P (xs ++ ys) → AllByRecursion P xs
each_left P [] ys h = tt
each_left P (x ∷ xs) ys h = (h.0, each_left P xs ys h.1)

pub each_right : {X : Type 0} (P : X → Type 0) (xs ys : List X) → AllByRecursion P (xs ++ ys) → AllByRecursion P ys
each_right P [] ys h = h
each_right P (x ∷ xs) ys h = each_right P xs ys h.1

-- of each element of joined lists
pub each_flat_map : {X Y : Type 0} (P : Y → Type 0) (g : X → List Y) (xs : List X) → AllByRecursion (λ x. AllByRecursion P (g x)) xs → AllByRecursion P (flat_map g xs)
each_flat_map P g [] h = tt
each_flat_map P g (x ∷ xs) h = each_append P (g x) (flat_map g xs) h.0 (each_flat_map P g xs h.1)

pub each_in_flat_map : {X Y : Type 0} (P : Y → Type 0) (g : X → List Y) (xs : List X) → AllByRecursion P (flat_map g xs) → AllByRecursion (λ x. AllByRecursion P (g x)) xs
each_in_flat_map P g [] h = tt
each_in_flat_map P g (x ∷ xs) h = (each_left P (g x) (flat_map g xs) h, each_in_flat_map P g xs (each_right P (g x) (flat_map g xs) h))

-- rules with the same premises and the conclusions of a list
pub met_from : (set premises : List ℕ) (ys : List ℕ) → (IsTrue (list_all (has set) premises) → ys ⊆ set) → Met set (map (λ y. record { premises = premises; conclusion = y }) ys)
met_from set premises [] h = tt
met_from set premises (y ∷ ys) h = (
  meets_from set (record { premises = premises; conclusion = y }) (λ p. h p y (ap (λ b. b || has ys y) (eq-eqb y y refl))),
  met_from set premises ys (λ p z there. h p z (or_right (y == z) (has ys z) there)),
)

pub met_use : (set premises : List ℕ) (ys : List ℕ) → Met set (map (λ y. record { premises = premises; conclusion = y }) ys) → IsTrue (list_all (has set) premises) → ys ⊆ set
met_use set premises [] m p z there = absurd (false≢true there)
met_use set premises (y ∷ ys) m p z there =
    elim (or_cases (y == z) (has ys z) there) [
      | inl e ↦ subst (λ x. IsTrue (has set x)) (eqb-true y z e) (meets_use set (record { premises = premises; conclusion = y }) m.0 p)
      | inr e ↦ met_use set premises ys m.1 p z e
    ]

-- the rules to each of some values are those to the objects among them
pub rules_flat : (premises : List ℕ) (vs : List Value) → flat_map (λ v. rules_to v premises) vs ≡ map (λ y. record { premises = premises; conclusion = y }) (objects_in vs)
rules_flat premises [] = refl
rules_flat premises (v ∷ vs) =
    ap (λ rs. map rule (objects_in (v ∷ [])) ++ rs) (rules_flat premises vs)
    ∙ sym (map-append rule (objects_in (v ∷ [])) (objects_in vs))
    ∙ ap (map rule) (sym (flat_map-append object_in (v ∷ []) vs))
  where
    rule : ℕ → Rule
    rule y = record { premises = premises; conclusion = y }

-- ---- a value is in a set

pub in_from : (set : List ℕ) (v : Value) → objects_in (v ∷ []) ⊆ set → IsIn set v
in_from set (object x) h = ap not (h x (ap (λ b. b || false) (eq-eqb x x refl)))
in_from set (fixnum n) h = refl
in_from set nil h = refl
in_from set true_value h = refl
in_from set false_value h = refl
in_from set bwp h = refl

pub in_use : (set : List ℕ) (v : Value) → IsIn set v → objects_in (v ∷ []) ⊆ set
in_use set (object x) h y there =
    elim (or_cases (x == y) false there) [
      | inl e ↦ subst (λ z. IsTrue (has set z)) (eqb-true x y e) (not_false (has set x) h)
      | inr e ↦ absurd (false≢true e)
    ]
  where
    not_false : (b : Bool) → not b ≡ false → b ≡ true
    not_false true e = refl
    not_false false e = absurd (true≢false e)
in_use set (fixnum n) h y there = absurd (false≢true there)
in_use set nil h y there = absurd (false≢true there)
in_use set true_value h y there = absurd (false≢true there)
in_use set false_value h y there = absurd (false≢true there)
in_use set bwp h y there = absurd (false≢true there)

pub first_and : (set : List ℕ) (x : ℕ) (v : Value) → IsTrue (has set x) → IsIn set v → IsTrue (list_all (has set) (x ∷ objects_in (v ∷ [])))
first_and set x v h k = and_from (has set x) (list_all (has set) (objects_in (v ∷ []))) h (has_all_from set (objects_in (v ∷ [])) (in_use set v k))

-- ---- the objects of a graph in order

pub each_found : (P : ℕ → Object → Type 0) (graph : List (ℕ × Object)) → AllByRecursion (λ entry. P entry.0 entry.1) graph → (x : ℕ) (o : Object) → object_at graph x ≡ Some o → P x o
each_found P [] h x o e = absurd (not_found o e)
  where
    not_found : (o : Object) → None ≡ Some o → ⊥
    not_found o e = cc
each_found P (entry ∷ graph) h x o e =
    elim (cases_Bool (x == entry.0)) [
      | inl same ↦
          let value : entry.1 ≡ o = same_Some (sym (cond-true (x == entry.0) (Some entry.1) (object_at graph x) same) ∙ sym (find_first x entry graph) ∙ e) in
          subst (λ q. P x q) value (subst (λ y. P y entry.1) (sym (eqb-true x entry.0 same)) h.0)
      | inr other ↦ each_found P graph h.1 x o (sym (cond-false (x == entry.0) (Some entry.1) (object_at graph x) other) ∙ sym (find_first x entry graph) ∙ e)
    ]
  where
    same_Some : {a b : Object} → Some a ≡ Some b → a ≡ b
    same_Some e = cc

above : (a b : ℕ) → IsTrue (is_lt (nat_cmp a b)) → (b == a) ≡ false
above a b h =
    elim (cases_Bool (nat_lt a b)) [
      | inl less ↦ let l = ltb-true a b less in ne_eqb b a (λ same. omega arith)
      | inr more ↦ absurd (elim (a == b) as (λ r. is_lt (cond r Equal Greater) ≡ true → ⊥) [ true ↦ false≢true | false ↦ false≢true ] (ap is_lt (sym (cond-false (nat_lt a b) Less (cond (a == b) Equal Greater) more)) ∙ h))
    ]

pub each_above : (a : ℕ) (graph : List (ℕ × Object)) → IsTrue (below_all nat_cmp a graph) → AllByRecursion (λ entry. (entry.0 == a) ≡ false) graph
each_above a [] h = tt
each_above a (e ∷ g) h = let parts = and_parts (is_lt (nat_cmp a e.0)) (below_all nat_cmp a g) h in (above a e.0 parts.0, each_above a g parts.1)

pub found_each : (P : ℕ → Object → Type 0) (graph : List (ℕ × Object)) → IsTrue (is_sorted nat_cmp graph) → ((x : ℕ) (o : Object) → object_at graph x ≡ Some o → P x o) → AllByRecursion (λ entry. P entry.0 entry.1) graph
found_each P [] ordered h = tt
found_each P (entry ∷ graph) ordered h =
    let parts = and_parts (below_all nat_cmp entry.0 graph) (is_sorted nat_cmp graph) ordered in (
      h entry.0 entry.1 (find_first entry.0 entry graph ∙ cond-true (entry.0 == entry.0) (Some entry.1) (object_at graph entry.0) (eq-eqb entry.0 entry.0 refl)),
      found_each P graph parts.1
          (λ x o e. h x o (find_first x entry graph ∙ cond-false (x == entry.0) (Some entry.1) (object_at graph x) (each_found (λ y q. (y == entry.0) ≡ false) graph (each_above entry.0 graph parts.0) x o e) ∙ e)),
    )

-- ---- closed

abbrev Represents : List ℕ → Registration → Type 0
Represents set r = IsTrue (has set r.guardian) → IsIn set r.object → IsIn set r.representative

-- a set meets the rules of a state exactly where it is closed
pub met_closed : (s : State) (set : List ℕ) → MeetsAll set (rules s) → IsClosed s set
met_closed s set met =
    let parts = (MeetsAll-append (flat_map (λ entry. object_rules entry.0 entry.1) s.graph) (flat_map registration_rules s.registrations) set).0 met in
    let objects = each_in_flat_map (λ r. IsTrue (meets set r)) (λ entry. object_rules entry.0 entry.1) s.graph (recursion_from_All _ _ parts.0) in
    record {
      strong = each_found (λ x o. IsTrue (has set x) → strong_references o ⊆ set) s.graph
          (each_weaker _ _ (λ entry m there. met_use set (entry.0 ∷ []) (strong_references entry.1) (subst (Met set) (rules_flat (entry.0 ∷ []) (strong_values entry.1)) (each_left _ (strong_rules entry.0 entry.1) (ephemeron_rules entry.0 entry.1) m)) (and_from _ true there refl)) s.graph objects);
      ephemerons = each_found (λ x o. IsTrue (is_ephemeron o.kind) → IsTrue (has set x) → IsIn set (key_of o) → IsIn set (value_of o)) s.graph
          (each_weaker _ _ (λ entry m is there key. in_from set (value_of entry.1)
          (met_use set (entry.0 ∷ objects_in (key_of entry.1 ∷ [])) (objects_in (value_of entry.1 ∷ []))
          (subst (λ b. Met set (cond b (rules_to (value_of entry.1) (entry.0 ∷ objects_in (key_of entry.1 ∷ []))) [])) is (each_right _ (strong_rules entry.0 entry.1) (ephemeron_rules entry.0 entry.1) m))
          (first_and set entry.0 (key_of entry.1) there key))) s.graph objects);
      registrations = All-from_recursion (Represents set) s.registrations
          (each_weaker (λ r. Met set (registration_rules r)) (Represents set)
          (λ r m there kept. in_from set r.representative (met_use set (r.guardian ∷ objects_in (r.object ∷ [])) (objects_in (r.representative ∷ [])) m (first_and set r.guardian r.object there kept))) s.registrations
          (each_in_flat_map (λ r. IsTrue (meets set r)) registration_rules s.registrations (recursion_from_All _ _ parts.1)));
    }

pub closed_met : (s : State) (set : List ℕ) → IsTrue (is_sorted nat_cmp s.graph) → IsClosed s set → MeetsAll set (rules s)
closed_met s set ordered closed =
    (MeetsAll-append (flat_map (λ entry. object_rules entry.0 entry.1) s.graph) (flat_map registration_rules s.registrations) set).1 (
      All-from_recursion _ _ (each_flat_map (λ r. IsTrue (meets set r)) (λ entry. object_rules entry.0 entry.1) s.graph
          (found_each (λ x o. Met set (object_rules x o)) s.graph ordered (λ x o found.
          each_append _ (strong_rules x o) (ephemeron_rules x o)
          (subst (Met set) (sym (rules_flat (x ∷ []) (strong_values o))) (met_from set (x ∷ []) (strong_references o) (λ p. closed.strong x o found (and_parts (has set x) true p).0)))
          (elim (is_ephemeron o.kind) as (λ b. is_ephemeron o.kind ≡ b → Met set (cond b (rules_to (value_of o) (x ∷ objects_in (key_of o ∷ []))) [])) [
            | true ↦ λ is. met_from set (x ∷ objects_in (key_of o ∷ [])) (objects_in (value_of o ∷ [])) (λ p.
                let both = and_parts (has set x) (list_all (has set) (objects_in (key_of o ∷ []))) p in
                in_use set (value_of o) (closed.ephemerons x o found is both.0 (in_from set (key_of o) (has_all_at set (objects_in (key_of o ∷ [])) both.1))))
            | false ↦ λ _. tt
          ] refl)))),
      All-from_recursion _ _ (each_flat_map (λ r. IsTrue (meets set r)) registration_rules s.registrations
          (each_weaker (Represents set) (λ r. Met set (registration_rules r))
          (λ r h. met_from set (r.guardian ∷ objects_in (r.object ∷ [])) (objects_in (r.representative ∷ [])) (λ p.
          let both = and_parts (has set r.guardian) (list_all (has set) (objects_in (r.object ∷ []))) p in
          in_use set r.representative (h both.0 (in_from set r.object (has_all_at set (objects_in (r.object ∷ [])) both.1)))))
          s.registrations (recursion_from_All (Represents set) s.registrations closed.registrations))),
    )

-- A is the least closed set with the roots
pub accessible_is_least : (s : State) (cg : ℕ) → IsWellFormed s → IsAccessible s cg (accessible s cg)
unfolding accessible
accessible_is_least s cg well = record {
  closed = met_closed s (least (rules s ++ roots s cg)) ((MeetsAll-append (rules s) (roots s cg) _).0 (least_meets (rules s ++ roots s cg))).0;
  roots = facts_there _ _ ((MeetsAll-append (rules s) (roots s cg) _).0 (least_meets (rules s ++ roots s cg))).1;
  below_each = λ other closed rooted. least_below (rules s ++ roots s cg) other
      ((MeetsAll-append (rules s) (roots s cg) other).1 (closed_met s other well.ordered closed, facts_met _ other rooted));
}
