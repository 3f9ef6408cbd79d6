-- The laws of the whole state.
use Rattle.std.specs.Prelude.{◌≡◌, ℕ, Bool, false, ◌&&◌, Some, List, [], ◌++◌, Contains, IsTrue}
use Rattle.trace_types.specs.Rules.{has, least}
use Rattle.owned_core.specs.Slots.{Slot, Standing, Due, same_slot}
use Rattle.owned_core.specs.Settings.{Setting, HasPlaces, is_collected, rules_of, all_dues}
use Rattle.owned_core.specs.Owned.{State, nothing_yet, in_list, is_swept, is_there, is_due, with_slots}
use Rattle.owned_core.specs.Events.{Event, run, Reaches}
use Rattle.owned_core.specs.Invariants.{Invariant, StatedParts, IsIdle, HasWatches, IsConfirmed}
use Rattle.owned_core.specs.Changes.{next_phase, begins, drops_none}

-- ---- events

-- every list of events, in any order and by any sweepers, keeps the invariant
abbrev pub EventsKeepInvariant : Type 0
EventsKeepInvariant = (w : Setting) → HasPlaces w → (s : State) (events : List Event) → Invariant w s → Invariant w (run w s events)

-- so it does where new slots come in any order
abbrev pub StepsKeepInvariant : Type 0
StepsKeepInvariant = (w : Setting) → HasPlaces w → (s : State) (events : List Event) (t : State) → Invariant w s → Reaches w s events t → Invariant w t

-- who believes more keeps the invariant
abbrev pub BelievingMoreKeepsInvariant : Type 0
BelievingMoreKeepsInvariant =
    (w : Setting) (s : State) (believed : ℕ → ℕ → Bool) → ((x p : ℕ) → IsTrue (w.believed x p) → IsTrue (believed x p))
    → Invariant w s → Invariant (record w { believed = believed }) s

-- the five parts follow from it
abbrev pub InvariantHasParts : Type 0
InvariantHasParts = (w : Setting) (s : State) → Invariant w s → StatedParts w s

-- ---- an idle state

-- in an idle state the objects in the lists are exactly the collected members of the least set
abbrev pub IdleIsExact : Type 0
IdleIsExact = (w : Setting) (s : State) → Invariant w s → HasWatches w → IsConfirmed w s → IsIdle s → (x : ℕ) → in_list s x ≡ (is_collected w x && has (least (rules_of w)) x)

-- ---- phases

-- the first phase begins with the invariant
abbrev pub StartHasInvariant : Type 0
StartHasInvariant = (w : Setting) → w.given ≡ [] → Invariant w (with_slots w nothing_yet)

-- an idle state begins the next phase, where the least set of its rules has what is in the lists
abbrev pub PhaseKeepsInvariant : Type 0
PhaseKeepsInvariant =
    (w : Setting) (s : State) (dues : List Due) (given : List ℕ) (believed : ℕ → ℕ → Bool) (dropped : Slot → Bool)
    → Invariant w s → HasWatches w → IsConfirmed w s → IsIdle s
    → ((x : ℕ) → IsTrue (in_list s x) → IsTrue (has (least (rules_of (next_phase w dropped dues given believed))) x))
    → ((x : ℕ) → IsTrue (has given x) → IsTrue (is_collected w x) → IsTrue (has (least (rules_of w)) x))
    → Invariant (next_phase w dropped dues given believed) (begins (next_phase w dropped dues given believed) dropped s)

-- more rules: nothing else is asked
abbrev pub MoreRulesKeepInvariant : Type 0
MoreRulesKeepInvariant =
    (w : Setting) (s : State) (more : List Due) (believed : ℕ → ℕ → Bool)
    → Invariant w s → HasWatches w → IsConfirmed w s → IsIdle s
    → Invariant (next_phase w drops_none (w.dues ++ more) w.given believed) (begins (next_phase w drops_none (w.dues ++ more) w.given believed) drops_none s)

-- other rules, and what was reached as given: nothing else is asked
abbrev pub GivenKeepsInvariant : Type 0
GivenKeepsInvariant =
    (w : Setting) (s : State) (dues : List Due) (believed : ℕ → ℕ → Bool) (dropped : Slot → Bool)
    → Invariant w s → HasWatches w → IsConfirmed w s → IsIdle s
    → Invariant (next_phase w dropped dues (least (rules_of w)) believed) (begins (next_phase w dropped dues (least (rules_of w)) believed) dropped s)

-- ---- no slot stands twice

-- no slot is at two stages
abbrev pub SlotsStandOnce : Type 0
SlotsStandOnce = (w : Setting) (s : State) → Invariant w s → (t u : Standing) → Contains s.slots t → Contains s.slots u → IsTrue (same_slot t.slot u.slot) → t ≡ u

-- where each due of the slot has the member x, and x is collected and not swept, the slot is not there yet
abbrev pub UnsweptIsAbsent : Type 0
UnsweptIsAbsent =
    (w : Setting) (s : State) → Invariant w s → (a : Slot) (x : ℕ)
    → ((d : Due) → Contains (all_dues w) d → d.slot ≡ a → d.member ≡ Some x)
    → IsTrue (is_collected w x) → is_swept s x ≡ false → is_there s.slots a ≡ false

-- where no due of the slot is met, as no watch that it waits for is fixed, the slot is not there yet
abbrev pub UnmetIsAbsent : Type 0
UnmetIsAbsent =
    (w : Setting) (s : State) → Invariant w s → (a : Slot)
    → ((d : Due) → Contains (all_dues w) d → d.slot ≡ a → is_due w s d ≡ false) → is_there s.slots a ≡ false
