-- L, W and K are the least sets of their kind.
use Rattle.std.proofs.Common.{◌≡◌, ℕ, Bool, true, false, not, ◌||◌, ◌&&◌, ◌==◌, List, [], ◌∷◌, ◌++◌, map, filter, flat_map, cond, IsTrue, Some, refl, sym, ap, subst, ◌∙◌, nat_cmp}
use Rattle.std.specs.List.{AllByRecursion, list_all}
use Rattle.std.proofs.lemmas.Bool.{and_from, and_parts, eqb-true, eq-eqb, false≢true, not-false}
use Rattle.std.proofs.lemmas.List.{map-append}
use Rattle.std.specs.FinMap.{is_sorted}
use Rattle.std.proofs.lemmas.List.Elements.{All-from_recursion, recursion_from_All}
use Rattle.trace_types.specs.Values.{Value, fixnum, nil, true_value, false_value, bwp, object, objects_in, Object, object_at, is_ephemeron, key_of, value_of, strong_values, strong_references}
use Rattle.trace_types.specs.States.{State, Registration, locked}
use Rattle.trace_types.specs.Rules.{Rule, has, ◌⊆◌, meets, least, MeetsAll, IsLeastWith}
use Rattle.trace_types.specs.Kept.{rules_to, strong_rules, ephemeron_rules, object_rules, rules, roots, older, accessible, served, is_dead, is_unordered, is_ordered, accessible_or_served, is_candidate, without_premise, as_though_member, as_though, waited_for, is_ready, unready_rules, kept}
use Rattle.trace_types.specs.Closed.{IsIn, IsServed, HasAsked, IsAsked, HoldsServed, HoldsAsked, HoldsKept}
use Rattle.trace_types.specs.WellFormed.{IsWellFormed}
use Rattle.trace_types.specs.Laws.{PhasesAreLeast}
use Rattle.trace_types.proofs.Least.{each_weaker, MeetsAll-append, facts_met, least_meets, least_below}
use Rattle.trace_types.proofs.Meeting.{Met, each_append, each_left, each_right, each_flat_map, each_in_flat_map, met_from, met_use, in_from, in_use, found_each, each_found, met_closed, closed_met, rules_flat}
use Rattle.trace_types.proofs.Keeping.{each_filter, each_filtered}
use Rattle.trace_types.proofs.Named.{objects_left, objects_right, objects_both}
use Rattle.trace_types.proofs.Phases.{accessible_then_served, kept_meets, kept_below, roots_accessible}

-- ---- rules from guardians of the registrations that pass a test

module _ (set : List ℕ) (test : Registration → Bool) (aim : Registration → Value) (rs : List Registration) where
  abbrev guarded_rules : List Rule
  guarded_rules = flat_map (λ r. rules_to (aim r) (r.guardian ∷ [])) (filter test rs)

  abbrev Reaches : Registration → Type 0
  Reaches r = IsTrue (test r) → IsTrue (has set r.guardian) → IsIn set (aim r)

  guarded_use : AllByRecursion (λ q. IsTrue (meets set q)) guarded_rules → AllByRecursion Reaches rs
  guarded_use met =
      each_weaker (λ r. IsTrue (test r) → Met set (rules_to (aim r) (r.guardian ∷ []))) Reaches
      (λ r m is there. in_from set (aim r) (met_use set (r.guardian ∷ []) (objects_in (aim r ∷ [])) (m is) (and_from (has set r.guardian) true there refl)))
      rs
      (each_filter (λ r. Met set (rules_to (aim r) (r.guardian ∷ []))) test rs (each_in_flat_map (λ q. IsTrue (meets set q)) (λ r. rules_to (aim r) (r.guardian ∷ [])) (filter test rs) met))

  guarded_from : AllByRecursion Reaches rs → AllByRecursion (λ q. IsTrue (meets set q)) guarded_rules
  guarded_from h =
      each_flat_map (λ q. IsTrue (meets set q)) (λ r. rules_to (aim r) (r.guardian ∷ [])) (filter test rs)
      (each_filtered (λ r. Met set (rules_to (aim r) (r.guardian ∷ []))) test rs
      (each_weaker Reaches (λ r. IsTrue (test r) → Met set (rules_to (aim r) (r.guardian ∷ [])))
      (λ r reach is. met_from set (r.guardian ∷ []) (objects_in (aim r ∷ [])) (λ p. in_use set (aim r) (reach is (and_parts (has set r.guardian) true p).0)))
      rs h))

module _ (s : State) (cg : ℕ) (set : List ℕ) where
  served_use : MeetsAll set (served s cg) → IsServed s cg set
  served_use met = All-from_recursion _ s.registrations (guarded_use set (λ r. is_dead s cg r && is_unordered s r) (λ r. r.representative) s.registrations (recursion_from_All _ (served s cg) met))

  served_from : IsServed s cg set → MeetsAll set (served s cg)
  served_from h = All-from_recursion _ (served s cg) (guarded_from set (λ r. is_dead s cg r && is_unordered s r) (λ r. r.representative) s.registrations (recursion_from_All _ s.registrations h))

  unready_use : MeetsAll set (unready_rules s cg) → AllByRecursion (Reaches set (λ r. is_dead s cg r && is_ordered s r && not (is_candidate s cg r)) (λ r. r.object) s.registrations) s.registrations
  unready_use met = guarded_use set (λ r. is_dead s cg r && is_ordered s r && not (is_candidate s cg r)) (λ r. r.object) s.registrations (recursion_from_All _ (unready_rules s cg) met)

  unready_from : AllByRecursion (Reaches set (λ r. is_dead s cg r && is_ordered s r && not (is_candidate s cg r)) (λ r. r.object) s.registrations) s.registrations → MeetsAll set (unready_rules s cg)
  unready_from h = All-from_recursion _ (unready_rules s cg) (guarded_from set (λ r. is_dead s cg r && is_ordered s r && not (is_candidate s cg r)) (λ r. r.object) s.registrations h)

-- ---- L

pub served_is_least : (s : State) (cg : ℕ) → IsWellFormed s → IsLeastWith (HoldsServed s cg) (accessible_or_served s cg)
unfolding accessible_or_served accessible
served_is_least s cg well =
    let set = least (rules s ++ roots s cg ++ served s cg) in
    let parts = (MeetsAll-append (rules s ++ roots s cg) (served s cg) set).0 (least_meets (rules s ++ roots s cg ++ served s cg)) in
    record {
      holds = record {
        closed = met_closed s set ((MeetsAll-append (rules s) (roots s cg) set).0 parts.0).0;
        accessible = least_below (rules s ++ roots s cg) set parts.0;
        served = served_use s cg set parts.1;
      };
      below_each = λ other h. least_below (rules s ++ roots s cg ++ served s cg) other
          ((MeetsAll-append (rules s ++ roots s cg) (served s cg) other).1 (
            (MeetsAll-append (rules s) (roots s cg) other).1 (
              closed_met s other well.ordered h.closed,
              facts_met (objects_in s.registers ++ locked s ++ older s cg) other (λ x there. h.accessible x (roots_accessible s cg x there)),
            ),
            served_from s cg other h.served,
          ));
    }

-- ---- K

pub kept_is_least : (s : State) (cg : ℕ) → IsWellFormed s → IsLeastWith (HoldsKept s cg) (kept s cg)
kept_is_least s cg well = record {
  holds = record {
    closed = met_closed s (kept s cg) (kept_meets s cg).closed;
    before = (kept_meets s cg).waited;
    served = served_use s cg (kept s cg) (kept_meets s cg).serves;
    given = All-from_recursion _ s.registrations (given_use (kept s cg) s.registrations (kept_meets s cg).representatives);
    unready = All-from_recursion _ s.registrations (unready_use s cg (kept s cg) (kept_meets s cg).unready);
  };
  below_each = λ other h. kept_below s cg other (record {
    closed = closed_met s other well.ordered h.closed;
    serves = served_from s cg other h.served;
    waited = h.before;
    representatives = given_from other s.registrations (recursion_from_All _ s.registrations h.given);
    unready = unready_from s cg other (recursion_from_All _ s.registrations h.unready);
  });
}
  where
    given_use : (set : List ℕ) (rs : List Registration) → objects_in (map (λ r. r.representative) (filter (is_ready s cg) rs)) ⊆ set → AllByRecursion (λ r. IsTrue (is_ready s cg r) → IsIn set r.representative) rs
    given_use set [] h = tt
    given_use set (r ∷ rs) h =
        elim (is_ready s cg r) as (λ b. objects_in (map (λ (q : Registration). q.representative) (cond b (r ∷ filter (is_ready s cg) rs) (filter (is_ready s cg) rs))) ⊆ set → (IsTrue b → IsIn set r.representative) × AllByRecursion (λ q. IsTrue (is_ready s cg q) → IsIn set q.representative) rs) [
          | true ↦ λ g. ((λ _. in_from set r.representative (objects_left (r.representative ∷ []) (map (λ (q : Registration). q.representative) (filter (is_ready s cg) rs)) set g)), given_use set rs (objects_right (r.representative ∷ []) (map (λ (q : Registration). q.representative) (filter (is_ready s cg) rs)) set g))
          | false ↦ λ g. ((λ e. absurd (false≢true e)), given_use set rs g)
        ] h

    given_from : (set : List ℕ) (rs : List Registration) → AllByRecursion (λ r. IsTrue (is_ready s cg r) → IsIn set r.representative) rs → objects_in (map (λ r. r.representative) (filter (is_ready s cg) rs)) ⊆ set
    given_from set [] h = λ x there. absurd (false≢true there)
    given_from set (r ∷ rs) h =
        elim (is_ready s cg r) as (λ b. (IsTrue b → IsIn set r.representative) → objects_in (map (λ (q : Registration). q.representative) (cond b (r ∷ filter (is_ready s cg) rs) (filter (is_ready s cg) rs))) ⊆ set) [
          | true ↦ λ g. objects_both (r.representative ∷ []) (map (λ (q : Registration). q.representative) (filter (is_ready s cg) rs)) set (in_use set r.representative (g refl)) (given_from set rs h.1)
          | false ↦ λ g. given_from set rs h.1
        ] h.0

-- ---- W

abbrev strike : ℕ → List ℕ → List ℕ
strike x ps = filter (λ z. not (x == z)) ps

struck : (x : ℕ) (ps ys : List ℕ) → without_premise x (map (λ y. record { premises = ps; conclusion = y }) ys) ≡ map (λ y. record { premises = strike x ps; conclusion = y }) ys
struck x ps [] = refl
struck x ps (y ∷ ys) = ap (λ (qs : List Rule). record { premises = strike x ps; conclusion = y } ∷ qs) (struck x ps ys)

-- the object itself is no premise any more
strike-first : (x : ℕ) (ps : List ℕ) → strike x (x ∷ ps) ≡ strike x ps
strike-first x ps = ap (λ b. cond (not b) (x ∷ strike x ps) (strike x ps)) (eq-eqb x x refl)

-- what is left of the premises of an ephemeron is in the set exactly where its key is in, or is the ephemeron
key_in : (set : List ℕ) (x : ℕ) (key : Value) → IsIn (x ∷ set) key → IsTrue (list_all (has set) (strike x (objects_in (key ∷ []))))
key_in set x (object k) h = elim (x == k) as (λ b. not (b || has set k) ≡ false → IsTrue (list_all (has set) (cond (not b) (k ∷ []) []))) [
  | true ↦ λ g. refl
  | false ↦ λ g. and_from (has set k) true (not-false (has set k) g) refl
] h
key_in set x (fixnum n) h = refl
key_in set x nil h = refl
key_in set x true_value h = refl
key_in set x false_value h = refl
key_in set x bwp h = refl

in_key : (set : List ℕ) (x : ℕ) (key : Value) → IsTrue (list_all (has set) (strike x (objects_in (key ∷ [])))) → IsIn (x ∷ set) key
in_key set x (object k) h = elim (x == k) as (λ b. IsTrue (list_all (has set) (cond (not b) (k ∷ []) [])) → not (b || has set k) ≡ false) [
  | true ↦ λ g. refl
  | false ↦ λ g. ap not (and_parts (has set k) true g).0
] h
in_key set x (fixnum n) h = refl
in_key set x nil h = refl
in_key set x true_value h = refl
in_key set x false_value h = refl
in_key set x bwp h = refl

module _ (set : List ℕ) (x : ℕ) (o : Object) where
  -- the struck rules of the object's strong references, and of the object as an ephemeron
  strong_struck : without_premise x (strong_rules x o) ≡ map (λ y. record { premises = []; conclusion = y }) (strong_references o)
  strong_struck =
      ap (without_premise x) (rules_flat (x ∷ []) (strong_values o)) ∙ struck x (x ∷ []) (strong_references o)
      ∙ ap (λ (ps : List ℕ). map (λ (y : ℕ). record { premises = ps; conclusion = y }) (strong_references o)) (strike-first x [])

  value_struck : without_premise x (rules_to (value_of o) (x ∷ objects_in (key_of o ∷ []))) ≡ map (λ y. record { premises = strike x (objects_in (key_of o ∷ [])); conclusion = y }) (objects_in (value_of o ∷ []))
  value_struck =
      struck x (x ∷ objects_in (key_of o ∷ [])) (objects_in (value_of o ∷ []))
      ∙ ap (λ (ps : List ℕ). map (λ (y : ℕ). record { premises = ps; conclusion = y }) (objects_in (value_of o ∷ []))) (strike-first x (objects_in (key_of o ∷ [])))

  two_parts : without_premise x (object_rules x o) ≡ without_premise x (strong_rules x o) ++ without_premise x (ephemeron_rules x o)
  two_parts = map-append _ (strong_rules x o) (ephemeron_rules x o)

  member_use : Met set (without_premise x (object_rules x o)) → HasAsked set x o
  member_use met =
      let parts : Met set (without_premise x (strong_rules x o) ++ without_premise x (ephemeron_rules x o)) = subst (Met set) two_parts met in
      record {
        strong = met_use set [] (strong_references o) (subst (Met set) strong_struck (each_left _ (without_premise x (strong_rules x o)) (without_premise x (ephemeron_rules x o)) parts)) refl;
        ephemeron = λ is key. in_from set (value_of o)
            (met_use set (strike x (objects_in (key_of o ∷ []))) (objects_in (value_of o ∷ []))
            (subst (Met set) value_struck
            (subst (λ b. Met set (without_premise x (cond b (rules_to (value_of o) (x ∷ objects_in (key_of o ∷ []))) []))) is (each_right _ (without_premise x (strong_rules x o)) (without_premise x (ephemeron_rules x o)) parts)))
            (key_in set x (key_of o) key));
      }

  member_from : HasAsked set x o → Met set (without_premise x (object_rules x o))
  member_from asked =
      subst (Met set) (sym two_parts)
      (each_append _ (without_premise x (strong_rules x o)) (without_premise x (ephemeron_rules x o))
      (subst (Met set) (sym strong_struck) (met_from set [] (strong_references o) (λ _. asked.strong)))
      (elim (is_ephemeron o.kind) as (λ b. is_ephemeron o.kind ≡ b → Met set (without_premise x (cond b (rules_to (value_of o) (x ∷ objects_in (key_of o ∷ []))) []))) [
        | true ↦ λ is. subst (Met set) (sym value_struck) (met_from set (strike x (objects_in (key_of o ∷ []))) (objects_in (value_of o ∷ [])) (λ p. in_use set (value_of o) (asked.ephemeron is (in_key set x (key_of o) p))))
        | false ↦ λ _. tt
      ] refl))

module _ (s : State) (cg : ℕ) (set : List ℕ) where
  abbrev at_member : ℕ → ℕ → Object → List Rule
  at_member x y o = cond (x == y) (without_premise x (object_rules x o)) []

  asked_use : MeetsAll set (as_though s cg) → IsAsked s cg set
  asked_use met =
      All-from_recursion _ s.registrations
      (each_weaker (λ r. IsTrue (is_candidate s cg r) → Met set (flat_map (as_though_member s) (objects_in (r.object ∷ []))))
      (λ r. IsTrue (is_candidate s cg r) → (x : ℕ) (o : Object) → r.object ≡ object x → object_at s.graph x ≡ Some o → HasAsked set x o)
      (λ r m is x o e found.
      let whole : Met set (as_though_member s x ++ []) = subst (λ v. Met set (flat_map (as_though_member s) (objects_in (v ∷ [])))) e (m is) in
      let member = each_in_flat_map (λ q. IsTrue (meets set q)) (λ entry. at_member x entry.0 entry.1) s.graph (each_left _ (as_though_member s x) [] whole) in
      member_use set x o (subst (λ b. Met set (cond b (without_premise x (object_rules x o)) [])) (eq-eqb x x refl) (each_found (λ y p. Met set (at_member x y p)) s.graph member x o found)))
      s.registrations
      (each_filter (λ r. Met set (flat_map (as_though_member s) (objects_in (r.object ∷ [])))) (is_candidate s cg) s.registrations
      (each_in_flat_map (λ q. IsTrue (meets set q)) (λ r. flat_map (as_though_member s) (objects_in (r.object ∷ []))) (filter (is_candidate s cg) s.registrations) (recursion_from_All _ (as_though s cg) met))))

  asked_from : IsTrue (is_sorted nat_cmp s.graph) → IsAsked s cg set → MeetsAll set (as_though s cg)
  asked_from ordered asked =
      All-from_recursion _ (as_though s cg)
      (each_flat_map (λ q. IsTrue (meets set q)) (λ r. flat_map (as_though_member s) (objects_in (r.object ∷ []))) (filter (is_candidate s cg) s.registrations)
      (each_filtered (λ r. Met set (flat_map (as_though_member s) (objects_in (r.object ∷ [])))) (is_candidate s cg) s.registrations
      (each_weaker (λ r. IsTrue (is_candidate s cg r) → (x : ℕ) (o : Object) → r.object ≡ object x → object_at s.graph x ≡ Some o → HasAsked set x o)
      (λ r. IsTrue (is_candidate s cg r) → Met set (flat_map (as_though_member s) (objects_in (r.object ∷ []))))
      (λ r h is. by_value r.object (λ x o e found. h is x o e found))
      s.registrations (recursion_from_All _ s.registrations asked))))
    where
      by_value : (v : Value) → ((x : ℕ) (o : Object) → v ≡ object x → object_at s.graph x ≡ Some o → HasAsked set x o) → Met set (flat_map (as_though_member s) (objects_in (v ∷ [])))
      by_value (object x) h =
          each_append _ (as_though_member s x) []
          (each_flat_map (λ q. IsTrue (meets set q)) (λ entry. at_member x entry.0 entry.1) s.graph
          (found_each (λ y o. Met set (at_member x y o)) s.graph ordered (λ y o found.
          elim (x == y) as (λ b. (x == y) ≡ b → Met set (cond b (without_premise x (object_rules x o)) [])) [
            | true ↦ λ same. member_from set x o (h x o refl (ap (object_at s.graph) (eqb-true x y same) ∙ found))
            | false ↦ λ other. tt
          ] refl)))
          tt
      by_value (fixnum n) h = tt
      by_value nil h = tt
      by_value true_value h = tt
      by_value false_value h = tt
      by_value bwp h = tt

pub waited_is_least : (s : State) (cg : ℕ) → IsWellFormed s → IsLeastWith (HoldsAsked s cg) (waited_for s cg)
unfolding waited_for accessible_or_served accessible
waited_is_least s cg well =
    let set = least (rules s ++ roots s cg ++ served s cg ++ as_though s cg) in
    let all = (MeetsAll-append (rules s ++ roots s cg ++ served s cg) (as_though s cg) set).0 (least_meets (rules s ++ roots s cg ++ served s cg ++ as_though s cg)) in
    let parts = (MeetsAll-append (rules s ++ roots s cg) (served s cg) set).0 all.0 in
    record {
      holds = record {
        closed = met_closed s set ((MeetsAll-append (rules s) (roots s cg) set).0 parts.0).0;
        before = least_below (rules s ++ roots s cg ++ served s cg) set all.0;
        served = served_use s cg set parts.1;
        asked = asked_use s cg set all.1;
      };
      below_each = λ other h. least_below (rules s ++ roots s cg ++ served s cg ++ as_though s cg) other
          ((MeetsAll-append (rules s ++ roots s cg ++ served s cg) (as_though s cg) other).1 (
            (MeetsAll-append (rules s ++ roots s cg) (served s cg) other).1 (
              (MeetsAll-append (rules s) (roots s cg) other).1 (
                closed_met s other well.ordered h.closed,
                facts_met (objects_in s.registers ++ locked s ++ older s cg) other (λ x there. h.before x (accessible_then_served s cg x (roots_accessible s cg x there))),
              ),
              served_from s cg other h.served,
            ),
            asked_from s cg other well.ordered h.asked,
          ));
    }

-- L, W and K are the least sets of their kind
pub phases_are_least : (s : State) (cg : ℕ) → IsWellFormed s → PhasesAreLeast s cg
phases_are_least s cg well = record {
  served = served_is_least s cg well;
  waited = waited_is_least s cg well;
  kept = kept_is_least s cg well;
}
