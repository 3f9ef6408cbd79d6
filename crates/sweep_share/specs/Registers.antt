-- What contracts see of a sweeper's registers.
use Rattle.std.specs.Prelude.{◌≡◌, ◌≢◌, ℕ, ◌%◌, ◌<◌, List, length, slice_index_or, Option, Some}
use Rattle.std.specs.FinMap.{find}
use Rattle.std.specs.Ordering.{nat_cmp}
use Rattle.gc_words.specs.declared.value.Value.{Value}
use Rattle.gc_words.specs.declared.value.Value.TheVariants.{Nil, Object}

-- registers of sweeper `number`, each with what it holds
pub record RegistersView : Type 0 where
  pub number : ℕ
  pub sweepers : ℕ
  pub items : List (ℕ × Value)

-- the register at an index, and what it holds
abbrev pub item_at : List (ℕ × Value) → ℕ → ℕ × Value
item_at items i = slice_index_or items i (0, Nil)

-- they are the sweeper's by their numbers, which ascend
pub record AreRegistersOf (number sweepers : ℕ) (items : List (ℕ × Value)) : Type 0 where
  pub number_in : number < sweepers
  pub numbers : (i : ℕ) → i < length items → (item_at items i).0 % sweepers ≡ number
  pub ascend : (i j : ℕ) → i < j → j < length items → (item_at items i).0 < (item_at items j).0

-- what register r holds, where it is one of these
abbrev pub register_in : RegistersView → ℕ → Option Value
register_in s r = find nat_cmp r s.items

-- register r holds the object at a place, and nothing else changed
pub record IsSet (old new : RegistersView) (r place : ℕ) : Type 0 where
  pub number : new.number ≡ old.number
  pub sweepers : new.sweepers ≡ old.sweepers
  pub count : length new.items ≡ length old.items
  pub here : register_in new r ≡ Some (Object place)
  pub others : (s : ℕ) → s ≢ r → register_in new s ≡ register_in old s
