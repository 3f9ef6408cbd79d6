-- The state of the owned core: what each sweeper has forwarded, what of it is unswept, and the slots.
use Rattle.std.specs.Prelude.{ℕ, Bool, true, not, ◌||◌, ◌&&◌, ◌==◌, Option, None, Some, List, [], ◌∷◌, ◌++◌, if◌then◌else◌}
use Rattle.std.specs.List.{list_any, list_all}
use Rattle.trace_types.specs.Rules.{has}
use Rattle.owned_core.specs.Slots.{Asked, Heard, Slot, Standing, Due, is_keep, same_slot, is_fixed}
use Rattle.owned_core.specs.Settings.{Setting, is_collected}
-- one pair of the list of a sweeper: the sweeper, the object, and the place that it was forwarded to
pub use Rattle.owned_core.specs.declared.machine.Entry.{Entry}

-- the lists of all sweepers, the objects in them that are unswept, and each slot with its stage
pub record State : Type 0 where
  pub own : List Entry
  pub unswept : List ℕ
  pub slots : List Standing

-- the state before the first phase
abbrev pub nothing_yet : State
nothing_yet = record { own = []; unswept = []; slots = [] }

-- ---- objects and places

abbrev pub in_list : State → ℕ → Bool
in_list s x = list_any (λ e. e.object == x) s.own

-- whether the place is in a list
abbrev pub is_taken : State → ℕ → Bool
is_taken s p = list_any (λ e. e.place == p) s.own

-- whether the pair is in the list of the sweeper
abbrev pub is_listed : State → ℕ → ℕ → ℕ → Bool
is_listed s k x p = list_any (λ e. e.sweeper == k && e.object == x && e.place == p) s.own

abbrev pub is_swept : State → ℕ → Bool
is_swept s x = in_list s x && not (has s.unswept x)

-- ---- slots

-- whether the object is the target of a Keep slot
abbrev pub is_kept : State → ℕ → Bool
is_kept s x = list_any (λ t. is_keep t.slot.want && t.slot.target == x) s.slots

-- whether the slot is there, at any stage
abbrev pub is_there : List Standing → Slot → Bool
is_there ts a = list_any (λ t. same_slot t.slot a) ts

-- ---- what is due

abbrev pub is_fixed_watch : Slot → Standing → Bool
is_fixed_watch a t = same_slot t.slot a && not (is_keep t.slot.want) && is_fixed t.stage

-- a watched premise is met where it is older or its Watch slot is fixed
abbrev pub is_met : Setting → State → Slot → Bool
is_met w s a = has w.older a.target || list_any (is_fixed_watch a) s.slots

-- a member is met where it is older or swept
abbrev pub is_opened : Setting → State → Option ℕ → Bool
is_opened w s None = true
is_opened w s (Some x) = has w.older x || is_swept s x

abbrev pub is_due : Setting → State → Due → Bool
is_due w s d = is_collected w d.slot.target && is_opened w s d.member && list_all (is_met w s) d.watched

-- a new slot: its holder hears of it at once where it owns the target
abbrev pub begun : Setting → Slot → Standing
begun w a = record { slot = a; stage = if w.owner a.target == a.holder then Heard else Asked }

-- each slot that is due, and not there yet, comes last
abbrev pub with_due : Setting → (Due → Bool) → List Standing → List Due → List Standing
with_due w due ts [] = ts
with_due w due ts (d ∷ ds) =
    with_due w due (if due d && not (is_there ts d.slot) then ts ++ begun w d.slot ∷ [] else ts) ds

abbrev pub with_slots : Setting → State → State
with_slots w s = record s { slots = with_due w (is_due w s) s.slots w.dues }
