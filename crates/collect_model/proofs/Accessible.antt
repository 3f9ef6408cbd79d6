-- Where nothing is registered, what is kept is accessible.
use Rattle.std.proofs.Common.{◌≡◌, Bool, ℕ, List, [], ◌++◌, map, filter, flat_map, sym, subst}
use Rattle.std.proofs.lemmas.Bool.{false≢true}
use Rattle.std.proofs.lemmas.List.Elements.{All-from_recursion}
use Rattle.trace_types.specs.Values.{objects_in}
use Rattle.trace_types.specs.States.{State, Registration}
use Rattle.trace_types.specs.Rules.{Rule, ◌⊆◌, MeetsAll}
use Rattle.trace_types.specs.Kept.{rules, roots, served, as_though, is_ready, unready_rules, accessible, waited_for, kept}
use Rattle.trace_types.proofs.Least.{least_below, least_meets, MeetsAll-append}
use Rattle.trace_types.proofs.Phases.{kept_below}

-- rules from no registration are none
none_met : (set : List ℕ) (test : Registration → Bool) (give : Registration → List Rule)
    (rs : List Registration) → rs ≡ [] → MeetsAll set (flat_map give (filter test rs))
none_met set test give rs none =
    subst (λ qs. MeetsAll set (flat_map give (filter test qs))) (sym none) (All-from_recursion _ [] tt)

module _ (s : State) (cg : ℕ) (none : s.registrations ≡ []) where
  abbrev A : List ℕ
  A = accessible s cg

  accessible_meets : MeetsAll A (rules s ++ roots s cg)
  unfolding accessible
  accessible_meets = least_meets (rules s ++ roots s cg)

  served_met : MeetsAll A (served s cg)
  served_met = none_met A _ _ s.registrations none

  as_though_met : MeetsAll A (as_though s cg)
  as_though_met = none_met A _ _ s.registrations none

  unready_met : MeetsAll A (unready_rules s cg)
  unready_met = none_met A _ _ s.registrations none

  waited_accessible : waited_for s cg ⊆ A
  unfolding waited_for
  waited_accessible =
      least_below (rules s ++ roots s cg ++ served s cg ++ as_though s cg) A
      ((MeetsAll-append (rules s ++ roots s cg ++ served s cg) (as_though s cg) A).1 (
        (MeetsAll-append (rules s ++ roots s cg) (served s cg) A).1 (accessible_meets, served_met),
        as_though_met,
      ))

  ready_accessible : objects_in (map (λ r. r.representative) (filter (is_ready s cg) s.registrations)) ⊆ A
  ready_accessible =
      subst (λ rs. objects_in (map (λ (r : Registration). r.representative) (filter (is_ready s cg) rs)) ⊆ A)
      (sym none) (λ x there. absurd (false≢true there))

  pub kept_accessible : kept s cg ⊆ accessible s cg
  kept_accessible = kept_below s cg A (record {
    closed = ((MeetsAll-append (rules s) (roots s cg) A).0 accessible_meets).0;
    serves = served_met;
    waited = waited_accessible;
    representatives = ready_accessible;
    unready = unready_met;
  })
