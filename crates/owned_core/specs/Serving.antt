-- The four phases of a collection, over every schedule.
use Rattle.std.specs.Prelude.{◌≡◌, ℕ, Bool, not, ◌&&◌, List, [], ◌++◌}
use Rattle.trace_types.specs.States.{State as TraceState}
use Rattle.trace_types.specs.Rules.{has}
use Rattle.trace_types.specs.Kept.{older, accessible, accessible_or_served, waited_for, kept}
use Rattle.owned_core.specs.Changes.{begins, drops_none, next_phase}
use Rattle.owned_core.specs.Dues.{as_though_dues, base_dues, ready_dues, served_dues, setting, unready_dues}
use Rattle.owned_core.specs.Events.{Event, Reaches}
use Rattle.owned_core.specs.Invariants.{IsConfirmed, IsIdle}
use Rattle.owned_core.specs.Owned.{State, in_list, nothing_yet, with_slots}
use Rattle.owned_core.specs.Settings.{HasPlaces, Setting}
use Rattle.owned_core.specs.Slots.{Slot}

-- whatever the sweepers did, the phase ended idle, and what was believed is in the lists
pub record Ends (w : Setting) (begun ended : State) : Type 0 where
  pub events : List Event
  pub reached : Reaches w begun events ended
  pub idle : IsIdle ended
  pub known : IsConfirmed w ended

-- What sweepers may believe in each phase, and the Watch slots that are taken out before the last one.
pub record Course : Type 0 where
  pub first : ℕ → ℕ → Bool
  pub second : ℕ → ℕ → Bool
  pub third : ℕ → ℕ → Bool
  pub fourth : ℕ → ℕ → Bool
  pub dropped : Slot → Bool

abbrev pub first_phase : Setting → TraceState → ℕ → ℕ → Course → Setting
first_phase places s cg n c = record (setting places s cg n (base_dues s n)) { believed = c.first }

abbrev pub second_phase : Setting → TraceState → ℕ → ℕ → Course → Setting
second_phase places s cg n c =
    next_phase (first_phase places s cg n c) drops_none (base_dues s n ++ served_dues s cg n) [] c.second

abbrev pub third_phase : Setting → TraceState → ℕ → ℕ → Course → Setting
third_phase places s cg n c =
    next_phase (second_phase places s cg n c) drops_none ((base_dues s n ++ served_dues s cg n) ++ as_though_dues s cg n) [] c.third

abbrev pub fourth_phase : Setting → TraceState → ℕ → ℕ → Course → Setting
fourth_phase places s cg n c =
    next_phase (third_phase places s cg n c) c.dropped
    (((base_dues s n ++ served_dues s cg n) ++ ready_dues s cg n) ++ unready_dues s cg n) (waited_for s cg) c.fourth

-- exactly the objects of the set that are not older are in the lists
abbrev pub HasForwarded : TraceState → ℕ → State → List ℕ → Type 0
HasForwarded s cg t set = (x : ℕ) → in_list t x ≡ (not (has (older s cg) x) && has set x)

pub record AllForwarded (s : TraceState) (cg : ℕ) (a l t k : State) : Type 0 where
  pub first : HasForwarded s cg a (accessible s cg)
  pub second : HasForwarded s cg l (accessible_or_served s cg)
  pub third : HasForwarded s cg t (waited_for s cg)
  pub fourth : HasForwarded s cg k (kept s cg)

-- the four phases have forwarded the accessible objects, the served, those that are waited for, and the kept
abbrev pub PhasesForward : Type 0
PhasesForward =
    (places : Setting) → HasPlaces places → (s : TraceState) (cg n : ℕ) (c : Course) (a l t k : State)
    → Ends (first_phase places s cg n c) (with_slots (first_phase places s cg n c) nothing_yet) a
    → Ends (second_phase places s cg n c) (begins (second_phase places s cg n c) drops_none a) l
    → Ends (third_phase places s cg n c) (begins (third_phase places s cg n c) drops_none l) t
    → Ends (fourth_phase places s cg n c) (begins (fourth_phase places s cg n c) c.dropped t) k
    → AllForwarded s cg a l t k
