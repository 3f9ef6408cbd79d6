-- Weak slots, and what settling makes of them.
use Rattle.std.specs.Prelude.{◌≡◌, ℕ, zero, suc, eqb, List, [], ◌∷◌, Option, Some, None, slice_get}
use Rattle.std.specs.Map.{lookup}
use Rattle.weak_eph.specs.declared.fields.WeakSlot.{WeakSlot}
use Rattle.weak_eph.specs.declared.fields.WeakState.{WeakState}
use Rattle.weak_eph.specs.declared.fields.WeakState.TheVariants.{Waiting, Fixed, Broken}

-- the slot waits
abbrev pub IsWaiting : WeakSlot → Type 0
IsWaiting s = s.state ≡ Waiting

-- slot n has this key
abbrev pub HasKey : List WeakSlot → ℕ → ℕ → Type 0
HasKey slots n key = (s : WeakSlot) × (slice_get slots n ≡ Some s) × (s.key ≡ key)

-- slot n is there, in this state
abbrev pub HasState : List WeakSlot → ℕ → WeakState → Type 0
HasState slots n state = (s : WeakSlot) × (slice_get slots n ≡ Some s) × (s.state ≡ state)

-- the slot, in another state
abbrev pub in_state : WeakState → WeakSlot → WeakSlot
in_state state s = record s { state = state }

-- the slots with slot n in another state
abbrev pub with_state : List WeakSlot → ℕ → WeakState → List WeakSlot
with_state [] n state = []
with_state (s ∷ slots) zero state = in_state state s ∷ slots
with_state (s ∷ slots) (suc n) state = s ∷ with_state slots n state

-- what becomes of a slot whose key has this new address, or none
abbrev pub fate : Option ℕ → WeakState
fate (Some new) = Fixed new
fate None = Broken

-- a slot at the end: fixed at its key's new address where the key is kept, and broken where it is not
abbrev pub settled : List (ℕ × ℕ) → WeakSlot → WeakSlot
settled kept s = in_state (fate (lookup (eqb s.key) kept)) s
