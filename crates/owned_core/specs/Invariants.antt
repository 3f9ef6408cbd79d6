-- What every event keeps, and what an idle state is.
use Rattle.std.specs.Prelude.{◌≡◌, ℕ, Bool, true, false, not, ◌||◌, ◌&&◌, ◌==◌, nat_eq, None, Some, [], map, Contains, IsTrue, ◌⊎◌, if◌then◌else◌}
use Rattle.std.specs.List.{IsDistinct}
use Rattle.trace_types.specs.Rules.{has, least}
use Rattle.owned_core.specs.Slots.{Stage, Asked, Heard, Answered, Told, Fixed, Slot, Standing, Due, is_keep, same_slot, keeps, is_at}
use Rattle.owned_core.specs.Settings.{Setting, is_collected, rules_of, all_dues}
use Rattle.owned_core.specs.Owned.{Entry, State, nothing_yet, in_list, is_listed, is_swept, is_kept, is_there, is_met, is_opened, is_due}

-- collected, in the list of its owner, and at a place that it may have
abbrev pub is_sound_entry : Setting → Entry → Bool
is_sound_entry w e =
    is_collected w e.object && w.owner e.object == e.sweeper
    && (if w.stays e.object then e.place == w.old_place e.object else not (w.was_place e.place))

-- the pair is in the list of the owner, or is one that a Keep slot believed
abbrev pub is_vouched : Setting → State → Slot → ℕ → Bool
is_vouched w s a p = is_listed s (w.owner a.target) a.target p || (is_keep a.want && w.believed a.target p)

-- the slot is that of a due which was met
pub record IsOfDue (w : Setting) (s : State) (a : Slot) : Type 0 where
  pub of : Due
  pub known : Contains (all_dues w) of
  pub slot : of.slot ≡ a
  pub met : IsTrue (is_due w s of)

pub record Invariant (w : Setting) (s : State) : Type 0 where
  -- 1: what is in a list is collected, owned by that list's sweeper and at its place, once
  pub entries : (e : Entry) → Contains s.own e → IsTrue (is_sound_entry w e)
  pub objects_once : IsDistinct nat_eq (map (λ e. e.object) s.own)
  pub places_once : IsDistinct nat_eq (map (λ e. e.place) s.own)
  -- 2: a slot with a place has the pair in the list of its target's owner
  pub placed : (t : Standing) → Contains s.slots t → (p : ℕ) → IsTrue (is_at t.stage p) → IsTrue (is_vouched w s t.slot p)
  -- 3: Keep slots are for members, and what is given has one
  pub members : (t : Standing) → Contains s.slots t → IsTrue (is_keep t.slot.want) → IsTrue (has (least (rules_of w)) t.slot.target)
  pub given_kept : (x : ℕ) → IsTrue (has w.given x) → IsTrue (is_collected w x) → IsTrue (is_kept s x)
  -- 3 and 4: each slot that is due is there, and a slot is there only where it was due
  pub due : (d : Due) → Contains w.dues d → IsTrue (is_due w s d) → IsTrue (is_there s.slots d.slot)
  pub was_due : (t : Standing) → Contains s.slots t → IsOfDue w s t.slot
  -- 5: what is in a list is the target of a Keep slot
  pub kept : (x : ℕ) → IsTrue (in_list s x) → IsTrue (is_kept s x)
  -- what belongs to the state itself: no slot is at two stages, and what is unswept is in a list
  pub slots_once : (t u : Standing) → Contains s.slots t → Contains s.slots u → IsTrue (same_slot t.slot u.slot) → t ≡ u
  pub unswept_listed : (x : ℕ) → IsTrue (has s.unswept x) → IsTrue (in_list s x)

-- ---- the invariant in the words of its five parts

-- all watched premises of the due are met
abbrev pub MeetsWatched : Setting → State → Due → Type 0
MeetsWatched w s d = (a : Slot) → Contains d.watched a → IsTrue (is_met w s a)

pub record StatedParts (w : Setting) (s : State) : Type 0 where
  pub one : (e : Entry) → Contains s.own e → IsTrue (is_sound_entry w e)
  pub one_object : IsDistinct nat_eq (map (λ e. e.object) s.own)
  pub one_place : IsDistinct nat_eq (map (λ e. e.place) s.own)
  pub two : (t : Standing) → Contains s.slots t → (p : ℕ) → IsTrue (is_at t.stage p) → IsTrue (is_vouched w s t.slot p)
  pub three_targets : (t : Standing) → Contains s.slots t → IsTrue (is_keep t.slot.want) → IsTrue (has (least (rules_of w)) t.slot.target)
  -- where a rule is met its own slot is there, so its conclusion is the target of a Keep slot
  pub three_slots : (d : Due) → Contains w.dues d → IsTrue (is_opened w s d.member) → MeetsWatched w s d → IsTrue (has w.older d.slot.target) ⊎ IsTrue (is_there s.slots d.slot)
  pub three_rules : (d : Due) → Contains w.dues d → IsTrue (keeps d) → IsTrue (is_opened w s d.member) → MeetsWatched w s d → IsTrue (has w.older d.slot.target) ⊎ IsTrue (is_kept s d.slot.target)
  pub three_given : (x : ℕ) → IsTrue (has w.given x) → IsTrue (has w.older x) ⊎ IsTrue (is_kept s x)
  pub four : (x : ℕ) → IsTrue (in_list s x) → IsTrue (has s.unswept x) ⊎ IsTrue (is_swept s x)
  pub four_swept : (x : ℕ) → IsTrue (is_swept s x) → (d : Due) → Contains w.dues d → d.member ≡ Some x → MeetsWatched w s d → IsTrue (is_collected w d.slot.target) → IsTrue (is_there s.slots d.slot)
  pub four_begun : (d : Due) → Contains w.dues d → IsTrue (is_opened w nothing_yet d.member) → MeetsWatched w s d → IsTrue (is_collected w d.slot.target) → IsTrue (is_there s.slots d.slot)
  pub five : (x : ℕ) → IsTrue (in_list s x) → IsTrue (is_kept s x)

-- ---- at rest

-- Where a slot may be when nothing is left to do. A Watch slot whose target went stays at Heard, and so does a
-- Keep slot that has no place.
abbrev pub rests : State → Slot → Stage → Bool
rests s a Asked = false
rests s a Heard = if is_keep a.want then not a.has_place && in_list s a.target else not (in_list s a.target)
rests s a (Answered p) = false
rests s a (Told p) = false
rests s a (Fixed p) = true

pub record IsIdle (s : State) : Type 0 where
  pub all_swept : s.unswept ≡ []
  pub all_rest : (t : Standing) → Contains s.slots t → IsTrue (rests s t.slot t.stage)

-- the Watch slot a is one that is due no later than d
pub record IsWatchFor (d : Due) (a : Slot) (v : Due) : Type 0 where
  pub slot : v.slot ≡ a
  pub watch : is_keep a.want ≡ false
  pub alone : v.watched ≡ []
  pub member : (v.member ≡ None) ⊎ (v.member ≡ d.member)

-- each watched premise has its Watch slot
abbrev pub HasWatches : Setting → Type 0
HasWatches w = (d : Due) → Contains w.dues d → (a : Slot) → Contains d.watched a → IsTrue (has w.older a.target) ⊎ ((v : Due) × Contains w.dues v × IsWatchFor d a v)

-- what was believed is in the lists
abbrev pub IsConfirmed : Setting → State → Type 0
IsConfirmed w s = (x p : ℕ) → IsTrue (w.believed x p) → IsTrue (is_listed s (w.owner x) x p)
