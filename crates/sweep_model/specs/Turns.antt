-- Why rounds come to an end: a number that falls with each exchange, and is no more than 7 for each slot.
use Rattle.std.specs.Prelude.{◌≡◌, ◌≢◌, ℕ, ◌+◌, ◌*◌, ◌<◌, ◌≤◌, List, [], ◌∷◌, ◌++◌, length, slice_index, Option, None, Some, Contains}
use Rattle.gc_words.specs.declared.value.Value.{Value}
use Rattle.gc_words.specs.Word.{value_of}
use Rattle.segment.specs.Segments.{Start}
use Rattle.gc_mail.specs.declared.message.Slot.{Slot as Back}
use Rattle.gc_mail.specs.declared.message.Slot.TheVariants as back
use Rattle.owned_core.specs.declared.slot.Want.TheVariants.{Keep}
use Rattle.owned_core.specs.declared.slot.Slot.{Slot}
use Rattle.owned_core.specs.Settings.{Setting}
use Rattle.owned_core.specs.Owned.{State}
use Rattle.owned_core.specs.Ranks.{Covers, rank}
use Rattle.sweep_model.specs.World.{World, IsWorld, asks, object_in}
use Rattle.sweep_model.specs.Settings.{IsSettingOf, slot_among}
use Rattle.sweep_model.specs.Hands.{Hand}
use Rattle.sweep_model.specs.Wholes.{After, AreMailed, Stand}

-- ---- each exchange but of nothing makes the rank fall

-- Where a message goes, the exchange leaves less to do, of whatever slots are counted: the slot of the
-- message lies at its recipient then. A round leaves no more to do, as `After` says.
abbrev pub ExchangeLowersRank : Type 0
ExchangeLowersRank =
    (world : World) (w : Setting) (before after : ℕ → Hand) (s : State) → IsWorld world → IsSettingOf world w
    → Stand world w before s → AreMailed world.sweepers before after
    → (k : ℕ) → k < world.sweepers → (before k).outbox ≢ []
    → (then : After world w after s)
    × ((names : List Slot) → Covers w names → rank names then.state < rank names s)

-- how much is left to do is no more than 7 for each slot that is counted
abbrev pub RankIsBounded : Type 0
RankIsBounded = (names : List Slot) (s : State) → rank names s ≤ 7 * length names

-- ---- slots to count
-- Who repeats rounds needs a number that is there before the first one. So the slots are counted from what
-- the sweepers have then: the entries of their territories, and their registers. Words that ask for nothing
-- are counted too, since a larger number does no harm.

-- the slot, where an object stands in it
abbrev pub name_if : ℕ → Back → Option ℕ → List Slot
name_if sweepers b None = []
name_if sweepers b (Some t) = slot_among sweepers b Keep t ∷ []

-- the slots of these words of the object at x, the first of which has this index
abbrev pub names_of_words : ℕ → ℕ → ℕ → List ℕ → List Slot
names_of_words sweepers x index [] = []
names_of_words sweepers x index (word ∷ words) =
    name_if sweepers (back.Field index x) (object_in (value_of word))
    ++ names_of_words sweepers x (index + 1) words

abbrev pub names_of_starts : ℕ → List (ℕ × Start) → List Slot
names_of_starts sweepers [] = []
names_of_starts sweepers (e ∷ entries) =
    names_of_words sweepers e.0 0 e.1.words ++ names_of_starts sweepers entries

abbrev pub names_of_registers : ℕ → List (ℕ × Value) → List Slot
names_of_registers sweepers [] = []
names_of_registers sweepers (e ∷ registers) =
    name_if sweepers (back.Register e.0) (object_in (Some e.1)) ++ names_of_registers sweepers registers

-- the slots of these starts, each with its address, and of these registers, each with its number
abbrev pub names_of : ℕ → List (ℕ × Start) → List (ℕ × Value) → List Slot
names_of sweepers starts registers = names_of_starts sweepers starts ++ names_of_registers sweepers registers

-- The lists have what the world has: each start, of which the fields that ask have their words, and each
-- register. There may be more in them.
pub record AreOfWorld (world : World) (starts : List (ℕ × Start))
    (registers : List (ℕ × Value)) : Type 0 where
  pub has_starts : (x : ℕ) (s : Start) → world.image x ≡ Some s
      → (now : Start) × Contains starts (x, now)
      × ((i t : ℕ) → asks world (back.Field i x) ≡ Some t
      → slice_index now.words i ≡ slice_index s.words i)
  pub has_registers : (r : ℕ) (v : Value) → world.registers r ≡ Some v → Contains registers (r, v)

-- then all slots of the world are counted
abbrev pub NamesCover : Type 0
NamesCover =
    (world : World) (w : Setting) (starts : List (ℕ × Start)) (registers : List (ℕ × Value))
    → IsSettingOf world w → AreOfWorld world starts registers
    → Covers w (names_of world.sweepers starts registers)
