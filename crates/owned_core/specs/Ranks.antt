-- Why every phase ends: each event makes a rank fall.
use Rattle.std.specs.Prelude.{◌≡◌, ℕ, ◌+◌, ◌*◌, ◌<◌, ◌≤◌, Bool, true, false, Option, None, Some, List, [], ◌∷◌, length, Contains, IsTrue, ◌⊎◌, if◌then◌else◌}
use Rattle.trace_types.specs.Rules.{has}
use Rattle.owned_core.specs.Slots.{Stage, Asked, Heard, Answered, Told, Fixed, Slot, Standing, Due, keeps, same_slot}
use Rattle.owned_core.specs.Settings.{Setting, HasPlaces, all_dues}
use Rattle.owned_core.specs.Owned.{State, in_list}
use Rattle.owned_core.specs.Events.{Event, Deliver, Learn, is_place_for, can_happen, Becomes}
use Rattle.owned_core.specs.Invariants.{Invariant, IsIdle}

-- how far the slot is, where it is there
abbrev pub stage_of : List Standing → Slot → Option Stage
stage_of [] a = None
stage_of (t ∷ ts) a = if same_slot t.slot a then Some t.stage else stage_of ts a

-- how much is left to do for a slot: absent above Asked above Heard above Answered above Told above Fixed
abbrev pub slot_rank : Option Stage → ℕ
slot_rank None = 5
slot_rank (Some Asked) = 4
slot_rank (Some Heard) = 3
slot_rank (Some (Answered p)) = 2
slot_rank (Some (Told p)) = 1
slot_rank (Some (Fixed p)) = 0

-- how many messages the slot may still take: to the owner, and back
abbrev pub message_rank : Option Stage → ℕ
message_rank None = 2
message_rank (Some Asked) = 2
message_rank (Some Heard) = 1
message_rank (Some (Answered p)) = 1
message_rank (Some (Told p)) = 0
message_rank (Some (Fixed p)) = 0

-- how much is left to do for an object: in no list above unswept above swept
abbrev pub object_rank : State → ℕ → ℕ
object_rank s x = if in_list s x then (if has s.unswept x then 1 else 0) else 2

abbrev pub sum_over : (Slot → ℕ) → List Slot → ℕ
sum_over f [] = 0
sum_over f (a ∷ rest) = f a + sum_over f rest

-- how much is left to do for these slots and their targets
abbrev pub rank : List Slot → State → ℕ
rank names s = sum_over (λ a. slot_rank (stage_of s.slots a) + object_rank s a.target) names

-- how many messages these slots may still take
abbrev pub messages : List Slot → State → ℕ
messages names s = sum_over (λ a. message_rank (stage_of s.slots a)) names

-- each slot that may be due has its name in the list
abbrev pub Covers : Setting → List Slot → Type 0
Covers w names = (d : Due) → Contains (all_dues w) d → Contains names d.slot

-- an event that can happen makes the rank fall, and no event makes it rise
abbrev pub EventsLowerRank : Type 0
EventsLowerRank =
    (w : Setting) → HasPlaces w → (names : List Slot) → Covers w names → (s t : State) (e : Event) → Invariant w s → Becomes w s e t
    → (rank names t ≤ rank names s) × (IsTrue (can_happen w s e) → rank names t < rank names s)

-- the state t is reached by the events, each of which could happen
abbrev pub Works : Setting → State → List Event → State → Type 0
Works w s [] t = t ≡ s
Works w s (e ∷ es) t = (u : State) × IsTrue (can_happen w s e) × Becomes w s e u × Works w u es t

abbrev pub deliveries : List Event → ℕ
deliveries [] = 0
deliveries (Deliver a ∷ es) = 1 + deliveries es
deliveries (_ ∷ es) = deliveries es

-- Events that can happen are at most as many as the rank falls, so every phase ends; it is at most 7 for each slot.
abbrev pub EventsEnd : Type 0
EventsEnd =
    (w : Setting) → HasPlaces w → (names : List Slot) → Covers w names → (s t : State) (es : List Event) → Invariant w s → Works w s es t
    → (length es + rank names t ≤ rank names s) × (rank names s ≤ 7 * length names)

-- and at most two messages are delivered for each slot
abbrev pub MessagesAreBounded : Type 0
MessagesAreBounded =
    (w : Setting) → HasPlaces w → (names : List Slot) → Covers w names → (s t : State) (es : List Event) → Invariant w s → Works w s es t
    → (deliveries es + messages names t ≤ messages names s) × (messages names s ≤ 2 * length names)

-- ---- the end of the rounds

-- what a sweeper does in a round, but for the words that it reads
abbrev pub is_work : Event → Bool
is_work (Deliver a) = false
is_work (Learn k a p) = false
is_work _ = true

-- there is a place for each object
abbrev pub HasRoom : Setting → State → Type 0
HasRoom w s = (x : ℕ) → (p : ℕ) × IsTrue (is_place_for w s x p)

-- who watches has a word for the place
abbrev pub WatchesHavePlaces : Setting → Type 0
WatchesHavePlaces w = (d : Due) → Contains (all_dues w) d → keeps d ≡ false → IsTrue d.slot.has_place

-- Where the sweepers have nothing left to do, the state is idle or some slot can be delivered. So each round but the
-- last is followed by a delivered message.
abbrev pub QuietIsIdleOrSends : Type 0
QuietIsIdleOrSends =
    (w : Setting) (s : State) → Invariant w s → HasRoom w s → WatchesHavePlaces w
    → ((e : Event) → IsTrue (is_work e) → can_happen w s e ≡ false)
    → IsIdle s ⊎ ((a : Slot) × IsTrue (can_happen w s (Deliver a)))
