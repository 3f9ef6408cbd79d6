-- What is named in a state, and that only objects of the graph are kept.
use Rattle.std.proofs.Common.{ℕ, Bool, true, false, not, ◌||◌, ◌&&◌, ◌==◌, List, [], ◌∷◌, ◌++◌, map, flat_map, filter, IsTrue, refl, sym, ap, subst, inl, inr, cond, slice_index_or, zero, suc}
use Rattle.std.specs.List.{AllByRecursion}
use Rattle.std.proofs.lemmas.Bool.{or_cases, or_right, or_left, eq-eqb, false≢true}
use Rattle.std.proofs.lemmas.List.Elements.{All-from_recursion}
use Rattle.std.proofs.lemmas.Grind.{flat_map-append}
use Rattle.trace_types.specs.declared.kind.Kind.{Kind}
use Rattle.trace_types.specs.declared.kind.Kind.TheVariants.{Pair, Weak, Eph, Boxed, Vector, Bytes, ImmVector, ImmBytes, Guard, OrderedGuard, Cell}
use Rattle.trace_types.specs.Values.{Value, nil, object_in, objects_in, Object, is_ephemeron, strong_references, strong_values, strong_fields, queue_values, key_of, value_of}
use Rattle.trace_types.specs.States.{State, Registration, locked}
use Rattle.trace_types.specs.Rules.{Rule, has, ◌⊆◌, MeetsAll}
use Rattle.trace_types.specs.Kept.{rules_to, strong_rules, ephemeron_rules, object_rules, registration_rules, rules, roots, older, served, as_though, as_though_member, without_premise, is_dead, is_unordered, is_ordered, is_candidate, is_ready, unready_rules, waited_for, kept}
use Rattle.trace_types.specs.WellFormed.{births, named, named_by_object, named_by_registration, noted}
use Rattle.trace_types.proofs.Least.{meets_from, each_weaker, MeetsAll-append, has-append, facts_met, least_below}
use Rattle.trace_types.proofs.Meeting.{rules_flat, each_append, each_flat_map}
use Rattle.trace_types.proofs.Keeping.{each_filtered}
use Rattle.trace_types.proofs.Phases.{kept_below}

-- ---- parts of a list

pub append_left_sub : (s t set : List ℕ) → (s ++ t) ⊆ set → s ⊆ set
append_left_sub s t set h x there = h x (subst IsTrue (sym (has-append s t x)) (or_left (has s x) (has t x) there))

pub append_right_sub : (s t set : List ℕ) → (s ++ t) ⊆ set → t ⊆ set
append_right_sub s t set h x there = h x (subst IsTrue (sym (has-append s t x)) (or_right (has s x) (has t x) there))

pub append_sub : (s t set : List ℕ) → s ⊆ set → t ⊆ set → (s ++ t) ⊆ set
append_sub s t set h k x there = elim (or_cases (has s x) (has t x) (subst IsTrue (has-append s t x) there)) [ inl e ↦ h x e | inr e ↦ k x e ]

pub each_sub : {X : Type 0} (g : X → List ℕ) (set : List ℕ) (xs : List X) → flat_map g xs ⊆ set → AllByRecursion (λ x. g x ⊆ set) xs
each_sub g set [] h = tt
each_sub g set (x ∷ xs) h = (append_left_sub (g x) (flat_map g xs) set h, each_sub g set xs (append_right_sub (g x) (flat_map g xs) set h))

pub sub_each : {X : Type 0} (g : X → List ℕ) (set : List ℕ) (xs : List X) → AllByRecursion (λ x. g x ⊆ set) xs → flat_map g xs ⊆ set
sub_each g set [] h = λ x there. absurd (false≢true there)
sub_each g set (y ∷ xs) h = append_sub (g y) (flat_map g xs) set h.0 (sub_each g set xs h.1)

pub objects_left : (vs ws : List Value) (set : List ℕ) → objects_in (vs ++ ws) ⊆ set → objects_in vs ⊆ set
objects_left vs ws set h = append_left_sub (objects_in vs) (objects_in ws) set (subst (λ xs. xs ⊆ set) (flat_map-append object_in vs ws) h)

pub objects_right : (vs ws : List Value) (set : List ℕ) → objects_in (vs ++ ws) ⊆ set → objects_in ws ⊆ set
objects_right vs ws set h = append_right_sub (objects_in vs) (objects_in ws) set (subst (λ xs. xs ⊆ set) (flat_map-append object_in vs ws) h)

pub objects_both : (vs ws : List Value) (set : List ℕ) → objects_in vs ⊆ set → objects_in ws ⊆ set → objects_in (vs ++ ws) ⊆ set
objects_both vs ws set h k = subst (λ xs. xs ⊆ set) (sym (flat_map-append object_in vs ws)) (append_sub (objects_in vs) (objects_in ws) set h k)

-- what is named, part by part
pub record Names (s : State) (set : List ℕ) : Type 0 where
  pub objects : AllByRecursion (λ entry. named_by_object entry ⊆ set) s.graph
  pub registers : objects_in s.registers ⊆ set
  pub locks : locked s ⊆ set
  pub notes : flat_map noted s.notes ⊆ set
  pub registrations : AllByRecursion (λ r. named_by_registration r ⊆ set) s.registrations

pub names_parts : (s : State) (set : List ℕ) → named s ⊆ set → Names s set
names_parts s set h =
    let a = flat_map named_by_object s.graph in
    let b = objects_in s.registers in
    let c = locked s in
    let d = flat_map noted s.notes in
    let e = flat_map named_by_registration s.registrations in
    let abcd = append_left_sub (a ++ b ++ c ++ d) e set h in
    let abc = append_left_sub (a ++ b ++ c) d set abcd in
    let ab = append_left_sub (a ++ b) c set abc in
    record {
      objects = each_sub named_by_object set s.graph (append_left_sub a b set ab);
      registers = append_right_sub a b set ab;
      locks = append_right_sub (a ++ b) c set abc;
      notes = append_right_sub (a ++ b ++ c) d set abcd;
      registrations = each_sub named_by_registration set s.registrations (append_right_sub (a ++ b ++ c ++ d) e set h);
    }

pub names_whole : (s : State) (set : List ℕ) → Names s set → named s ⊆ set
names_whole s set n =
    append_sub _ _ set
    (append_sub _ _ set
    (append_sub _ _ set
    (append_sub _ _ set (sub_each named_by_object set s.graph n.objects) n.registers)
    n.locks)
    n.notes)
    (sub_each named_by_registration set s.registrations n.registrations)

-- ---- rules whose conclusions are in a set

abbrev Concludes : List ℕ → List Rule → Type 0
Concludes set rs = AllByRecursion (λ r. IsTrue (has set r.conclusion)) rs

concludes_met : (set : List ℕ) (rs : List Rule) → Concludes set rs → MeetsAll set rs
concludes_met set rs h = All-from_recursion _ rs (each_weaker _ _ (λ r there. meets_from set r (λ _. there)) rs h)

concludes_map : (set premises ys : List ℕ) → ys ⊆ set → Concludes set (map (λ y. record { premises = premises; conclusion = y }) ys)
concludes_map set premises [] h = tt
concludes_map set premises (y ∷ ys) h =
    (h y (ap (λ b. b || has ys y) (eq-eqb y y refl)), concludes_map set premises ys (λ z there. h z (or_right (y == z) (has ys z) there)))

strong_field_objects : (kind : Kind) (fields : List Value) (set : List ℕ) → objects_in fields ⊆ set → objects_in (strong_fields kind fields) ⊆ set
strong_field_objects Weak [] set h = h
strong_field_objects Weak (v ∷ fields) set h = objects_right (v ∷ []) fields set h
strong_field_objects Eph fields set h = λ x there. absurd (false≢true there)
strong_field_objects Pair fields set h = h
strong_field_objects Boxed fields set h = h
strong_field_objects Vector fields set h = h
strong_field_objects Bytes fields set h = h
strong_field_objects ImmVector fields set h = h
strong_field_objects ImmBytes fields set h = h
strong_field_objects Guard fields set h = h
strong_field_objects OrderedGuard fields set h = h
strong_field_objects Cell fields set h = h

value_objects : (fields : List Value) (k : ℕ) (set : List ℕ) → objects_in fields ⊆ set → objects_in (slice_index_or fields k nil ∷ []) ⊆ set
value_objects [] k set h = λ x there. absurd (false≢true there)
value_objects (v ∷ fields) zero set h = objects_left (v ∷ []) fields set h
value_objects (v ∷ fields) (suc k) set h = value_objects fields k set (objects_right (v ∷ []) fields set h)

object_concludes : (set : List ℕ) (entry : ℕ × Object) → named_by_object entry ⊆ set → Concludes set (object_rules entry.0 entry.1)
object_concludes set entry h =
    let o = entry.1 in
    let fields = objects_left o.fields (queue_values o) set h in
    let queue = objects_right o.fields (queue_values o) set h in
    each_append _ (strong_rules entry.0 o) (ephemeron_rules entry.0 o)
    (subst (Concludes set) (sym (rules_flat (entry.0 ∷ []) (strong_values o))) (concludes_map set (entry.0 ∷ []) (strong_references o) (objects_both (queue_values o) (strong_fields o.kind o.fields) set queue (strong_field_objects o.kind o.fields set fields))))
    (elim (is_ephemeron o.kind) as (λ b. Concludes set (cond b (rules_to (value_of o) (entry.0 ∷ objects_in (key_of o ∷ []))) [])) [
      | true ↦ concludes_map set (entry.0 ∷ objects_in (key_of o ∷ [])) (objects_in (value_of o ∷ [])) (value_objects o.fields 1 set fields)
      | false ↦ tt
    ])

registered_object : (r : Registration) (set : List ℕ) → named_by_registration r ⊆ set → objects_in (r.object ∷ []) ⊆ set
registered_object r set h = objects_left (r.object ∷ []) (r.representative ∷ []) set (append_right_sub (r.guardian ∷ []) _ set h)

registered_representative : (r : Registration) (set : List ℕ) → named_by_registration r ⊆ set → objects_in (r.representative ∷ []) ⊆ set
registered_representative r set h = objects_right (r.object ∷ []) (r.representative ∷ []) set (append_right_sub (r.guardian ∷ []) _ set h)

module _ (s : State) (set : List ℕ) (names : Names s set) where
  rules_concluded : Concludes set (rules s)
  rules_concluded =
      each_append _ (flat_map (λ entry. object_rules entry.0 entry.1) s.graph) (flat_map registration_rules s.registrations)
      (each_flat_map _ (λ entry. object_rules entry.0 entry.1) s.graph (each_weaker _ _ (object_concludes set) s.graph names.objects))
      (each_flat_map _ registration_rules s.registrations (each_weaker _ _ (λ r n. concludes_map set (r.guardian ∷ objects_in (r.object ∷ [])) (objects_in (r.representative ∷ [])) (registered_representative r set n)) s.registrations names.registrations))

  -- representatives, or objects, of the registrations that pass a test
  representatives_concluded : (test : Registration → Bool) → Concludes set (flat_map (λ r. rules_to r.representative (r.guardian ∷ [])) (filter test s.registrations))
  representatives_concluded test =
      each_flat_map _ (λ r. rules_to r.representative (r.guardian ∷ [])) (filter test s.registrations)
      (each_filtered _ test s.registrations (each_weaker _ (λ r. IsTrue (test r) → Concludes set (rules_to r.representative (r.guardian ∷ []))) (λ r n _. concludes_map set (r.guardian ∷ []) (objects_in (r.representative ∷ [])) (registered_representative r set n)) s.registrations names.registrations))

  objects_concluded : (test : Registration → Bool) → Concludes set (flat_map (λ r. rules_to r.object (r.guardian ∷ [])) (filter test s.registrations))
  objects_concluded test =
      each_flat_map _ (λ r. rules_to r.object (r.guardian ∷ [])) (filter test s.registrations)
      (each_filtered _ test s.registrations (each_weaker _ (λ r. IsTrue (test r) → Concludes set (rules_to r.object (r.guardian ∷ []))) (λ r n _. concludes_map set (r.guardian ∷ []) (objects_in (r.object ∷ [])) (registered_object r set n)) s.registrations names.registrations))

  struck_concluded : (x : ℕ) (rs : List Rule) → Concludes set rs → Concludes set (without_premise x rs)
  struck_concluded x [] h = tt
  struck_concluded x (r ∷ rs) h = (h.0, struck_concluded x rs h.1)

  as_though_concluded : (x : ℕ) (graph : List (ℕ × Object)) → AllByRecursion (λ entry. named_by_object entry ⊆ set) graph → Concludes set (flat_map (λ entry. cond (x == entry.0) (without_premise x (object_rules x entry.1)) []) graph)
  as_though_concluded x graph h =
      each_flat_map _ (λ entry. cond (x == entry.0) (without_premise x (object_rules x entry.1)) []) graph
      (each_weaker (λ entry. named_by_object entry ⊆ set) (λ entry. Concludes set (cond (x == entry.0) (without_premise x (object_rules x entry.1)) [])) (λ (entry : ℕ × Object) n. elim (x == entry.0) as (λ b. Concludes set (cond b (without_premise x (object_rules x entry.1)) [])) [
        | true ↦ struck_concluded x (object_rules x entry.1) (object_concludes set (x, entry.1) n)
        | false ↦ tt
      ]) graph h)

  each_true : {X : Type 0} (P : X → Type 0) → ((x : X) → P x) → (xs : List X) → AllByRecursion P xs
  each_true P h [] = tt
  each_true P h (x ∷ xs) = (h x, each_true P h xs)

  all_as_though_concluded : (cg : ℕ) → Concludes set (as_though s cg)
  all_as_though_concluded cg =
      each_flat_map _ (λ r. flat_map (as_though_member s) (objects_in (r.object ∷ []))) (filter (is_candidate s cg) s.registrations)
      (each_true _ (λ r. each_flat_map _ (as_though_member s) (objects_in (r.object ∷ []))
      (each_true _ (λ x. as_though_concluded x s.graph names.objects) (objects_in (r.object ∷ [])))) (filter (is_candidate s cg) s.registrations))

  ready_in : (test : Registration → Bool) (rs : List Registration) → AllByRecursion (λ r. named_by_registration r ⊆ set) rs → objects_in (map (λ r. r.representative) (filter test rs)) ⊆ set
  ready_in test [] n = λ x there. absurd (false≢true there)
  ready_in test (r ∷ rs) n =
      elim (test r) as (λ b. objects_in (map (λ q. q.representative) (cond b (r ∷ filter test rs) (filter test rs))) ⊆ set) [
        | true ↦ objects_both (r.representative ∷ []) (map (λ q. q.representative) (filter test rs)) set (registered_representative r set n.0) (ready_in test rs n.1)
        | false ↦ ready_in test rs n.1
      ]

-- births of objects that pass a test are births
filter_births : (test : ℕ × Object → Bool) (graph : List (ℕ × Object)) → map (λ e. e.0) (filter test graph) ⊆ map (λ e. e.0) graph
filter_births test [] x there = there
filter_births test (e ∷ graph) x there =
    elim (test e) as (λ b. IsTrue (has (map (λ d. d.0) (cond b (e ∷ filter test graph) (filter test graph))) x) → IsTrue (has (map (λ d. d.0) (e ∷ graph)) x)) [
      | true ↦ λ h. elim (or_cases (e.0 == x) (has (map (λ d. d.0) (filter test graph)) x) h) [
        | inl same ↦ or_left (e.0 == x) (has (map (λ d. d.0) graph) x) same
        | inr more ↦ or_right (e.0 == x) (has (map (λ d. d.0) graph) x) (filter_births test graph x more)
      ]
      | false ↦ λ h. or_right (e.0 == x) (has (map (λ d. d.0) graph) x) (filter_births test graph x h)
    ] there

waited_born : (s : State) (cg : ℕ) → Names s (births s) → waited_for s cg ⊆ births s
unfolding waited_for
waited_born s cg names =
    least_below (rules s ++ roots s cg ++ served s cg ++ as_though s cg) (births s)
    ((MeetsAll-append (rules s ++ roots s cg ++ served s cg) (as_though s cg) (births s)).1 (
      (MeetsAll-append (rules s ++ roots s cg) (served s cg) (births s)).1 (
        (MeetsAll-append (rules s) (roots s cg) (births s)).1 (
          concludes_met (births s) (rules s) (rules_concluded s (births s) names),
          facts_met (objects_in s.registers ++ locked s ++ older s cg) (births s)
              (append_sub (objects_in s.registers ++ locked s) (older s cg) (births s)
              (append_sub (objects_in s.registers) (locked s) (births s) names.registers names.locks)
              (filter_births _ s.graph)),
        ),
        concludes_met (births s) (served s cg) (representatives_concluded s (births s) names (λ r. is_dead s cg r && is_unordered s r)),
      ),
      concludes_met (births s) (as_though s cg) (all_as_though_concluded s (births s) names cg),
    ))

-- only objects of the graph are kept
pub kept_born : (s : State) (cg : ℕ) → named s ⊆ births s → kept s cg ⊆ births s
kept_born s cg h =
    let names = names_parts s (births s) h in
    kept_below s cg (births s) (record {
      closed = concludes_met (births s) (rules s) (rules_concluded s (births s) names);
      serves = concludes_met (births s) (served s cg) (representatives_concluded s (births s) names (λ r. is_dead s cg r && is_unordered s r));
      waited = waited_born s cg names;
      representatives = ready_in s (births s) names (is_ready s cg) s.registrations names.registrations;
      unready = concludes_met (births s) (unready_rules s cg) (objects_concluded s (births s) names (λ r. is_dead s cg r && is_ordered s r && not (is_candidate s cg r)));
    })
