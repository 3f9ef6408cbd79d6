-- From phase to phase: the same objects and places, with other rules and some Watch slots taken out.
use Rattle.std.specs.Prelude.{ℕ, Bool, false, not, ◌||◌, List, map, filter}
use Rattle.owned_core.specs.Slots.{Slot, Due, is_keep}
use Rattle.owned_core.specs.Settings.{Setting, all_dues}
use Rattle.owned_core.specs.Owned.{State, with_slots}

-- the due without the watched premises whose slots are taken out
abbrev pub forgets : (Slot → Bool) → Due → Due
forgets dropped d = record d { watched = filter (λ a. not (dropped a)) d.watched }

-- what the next phase is given: its dues, what is given, and what is believed
abbrev pub next_phase : Setting → (Slot → Bool) → List Due → List ℕ → (ℕ → ℕ → Bool) → Setting
next_phase w dropped dues given believed =
    record w { dues = dues; past = map (forgets dropped) (all_dues w); given = given; believed = believed }

-- the Watch slots of these names are taken out
abbrev pub without_watches : (Slot → Bool) → State → State
without_watches dropped s = record s { slots = filter (λ t. is_keep t.slot.want || not (dropped t.slot)) s.slots }

-- the state in which a phase begins: some Watch slots are taken out, and what is due has its slots
abbrev pub begins : Setting → (Slot → Bool) → State → State
begins w dropped s = with_slots w (without_watches dropped s)

-- no slot is taken out
abbrev pub drops_none : Slot → Bool
drops_none _ = false
