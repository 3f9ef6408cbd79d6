-- The sets of a collection, from phase to phase.
use Rattle.std.proofs.Common.{ℕ, List, ◌++◌, map}
use Rattle.trace_types.specs.States.{State, locked}
use Rattle.trace_types.specs.Values.{objects_in}
use Rattle.trace_types.specs.Rules.{Rule, ◌⊆◌, least, MeetsAll, facts}
use Rattle.trace_types.specs.Kept.{rules, roots, served, as_though, ready, unready_rules, older, accessible, accessible_or_served, waited_for, kept}
use Rattle.trace_types.specs.Laws.{PhasesGrow}
use Rattle.trace_types.proofs.Least.{least_among, least_meets, least_below, IsAmong-left, MeetsAll-append, facts_there, facts_met}

pub accessible_then_served : (s : State) (cg : ℕ) → accessible s cg ⊆ accessible_or_served s cg
unfolding accessible accessible_or_served
accessible_then_served s cg = least_among _ _ (IsAmong-left (rules s ++ roots s cg) (served s cg))

pub served_then_waited : (s : State) (cg : ℕ) → accessible_or_served s cg ⊆ waited_for s cg
unfolding accessible_or_served waited_for
served_then_waited s cg = least_among _ _ (IsAmong-left (rules s ++ roots s cg ++ served s cg) (as_though s cg))

abbrev kept_rules : State → ℕ → List Rule
kept_rules s cg =
    rules s ++ served s cg ++ facts (waited_for s cg)
    ++ facts (objects_in (map (λ r. r.representative) (ready s cg)))
    ++ unready_rules s cg

-- what K meets, part by part
pub record MeetsKept (s : State) (cg : ℕ) (set : List ℕ) : Type 0 where
  pub closed : MeetsAll set (rules s)
  pub serves : MeetsAll set (served s cg)
  pub waited : waited_for s cg ⊆ set
  pub representatives : objects_in (map (λ r. r.representative) (ready s cg)) ⊆ set
  pub unready : MeetsAll set (unready_rules s cg)

pub kept_meets : (s : State) (cg : ℕ) → MeetsKept s cg (kept s cg)
unfolding kept
kept_meets s cg =
    let set = least (kept_rules s cg) in
    let all = least_meets (kept_rules s cg) in
    let four = (MeetsAll-append (rules s ++ served s cg ++ facts (waited_for s cg) ++ facts (objects_in (map (λ r. r.representative) (ready s cg)))) (unready_rules s cg) set).0 all in
    let three = (MeetsAll-append (rules s ++ served s cg ++ facts (waited_for s cg)) (facts (objects_in (map (λ r. r.representative) (ready s cg)))) set).0 four.0 in
    let two = (MeetsAll-append (rules s ++ served s cg) (facts (waited_for s cg)) set).0 three.0 in
    let one = (MeetsAll-append (rules s) (served s cg) set).0 two.0 in
    record {
      closed = one.0;
      serves = one.1;
      waited = facts_there (waited_for s cg) set two.1;
      representatives = facts_there _ set three.1;
      unready = four.1;
    }

pub kept_below : (s : State) (cg : ℕ) (set : List ℕ) → MeetsKept s cg set → kept s cg ⊆ set
unfolding kept
kept_below s cg set m =
    least_below (kept_rules s cg) set
    ((MeetsAll-append _ (unready_rules s cg) set).1 (
      (MeetsAll-append _ _ set).1 (
        (MeetsAll-append _ (facts (waited_for s cg)) set).1
            ((MeetsAll-append (rules s) (served s cg) set).1 (m.closed, m.serves), facts_met (waited_for s cg) set m.waited),
        facts_met _ set m.representatives,
      ),
      m.unready,
    ))

pub accessible_kept : (s : State) (cg : ℕ) → accessible s cg ⊆ kept s cg
accessible_kept s cg x h = (kept_meets s cg).waited x (served_then_waited s cg x (accessible_then_served s cg x h))

-- the roots are accessible
pub roots_accessible : (s : State) (cg : ℕ) → (objects_in s.registers ++ locked s ++ older s cg) ⊆ accessible s cg
unfolding accessible
roots_accessible s cg = facts_there _ (least (rules s ++ roots s cg)) ((MeetsAll-append (rules s) (roots s cg) _).0 (least_meets (rules s ++ roots s cg))).1

-- each phase has the one before it
pub phases_grow : (s : State) (cg : ℕ) → PhasesGrow s cg
phases_grow s cg = record {
  served = accessible_then_served s cg;
  waited = served_then_waited s cg;
  kept = (kept_meets s cg).waited;
}
