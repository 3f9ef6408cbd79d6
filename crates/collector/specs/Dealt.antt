-- How territories and registers are dealt out to n sweepers, and gathered again.
use Rattle.std.specs.Prelude.{◌≡◌, ℕ, ◌+◌, ◌*◌, ◌/◌, ◌%◌, ◌<◌, ◌≤◌, List, [], length, slice_get, slice_index_or, None}
use Rattle.std.specs.FinMap.{find}
use Rattle.std.specs.Ordering.{nat_cmp}
use Rattle.gc_words.specs.declared.value.Value.{Value}
use Rattle.territory.specs.Territories.{TerritoryView}
use Rattle.sweep_model.specs.World.{object_in}
use Rattle.sweep_share.specs.Registers.{AreRegistersOf}
use Rattle.collect_model.specs.Worlds.{objects_only}

-- the territories of sweeper k
abbrev pub own_at : List (List TerritoryView) → ℕ → List TerritoryView
own_at owns k = slice_index_or owns k []

-- item i of sweeper k is number k + i n of all, and there are no more
abbrev pub IsDealtTo : ℕ → ℕ → List TerritoryView → List TerritoryView → Type 0
IsDealtTo n k all own = (i : ℕ) → slice_get own i ≡ slice_get all (k + i * n)

-- each sweeper has its own
pub record AreDealt (n : ℕ) (all : List TerritoryView) (owns : List (List TerritoryView)) : Type 0 where
  pub count : length owns ≡ n
  pub each : (k : ℕ) → k < n → IsDealtTo n k all (own_at owns k)

-- the registers of sweeper k that hold objects, each with its number
pub record AreRegistersDealtTo (n k : ℕ) (all : List Value) (own : List (ℕ × Value)) : Type 0 where
  pub are : AreRegistersOf k n own
  pub held : (r : ℕ) → r % n ≡ k → find nat_cmp r own ≡ objects_only (slice_get all r)

-- values, each with the number of the register that holds it
abbrev pub NumberedValues : Type 0
NumberedValues = List (ℕ × Value)

-- those of sweeper k
abbrev pub registers_at : List NumberedValues → ℕ → NumberedValues
registers_at owns k = slice_index_or owns k []

-- each sweeper has those of its registers that hold objects
pub record AreRegistersDealt (n : ℕ) (all : List Value) (owns : List NumberedValues) : Type 0 where
  pub count : length owns ≡ n
  pub each : (k : ℕ) → k < n → AreRegistersDealtTo n k all (registers_at owns k)

-- no register from one on and below another holds an object
abbrev pub HoldNone : List Value → ℕ → ℕ → Type 0
HoldNone all from end = (r : ℕ) → from ≤ r → r < end → object_in (slice_get all r) ≡ None

-- the territories of threads 0 to 63 again
pub record AreGathered (n : ℕ) (owns : List (List TerritoryView)) (all : List TerritoryView) : Type 0 where
  pub count : length all ≡ 64
  pub each : (t : ℕ) → t < 64 → slice_get all t ≡ slice_get (own_at owns (t % n)) (t / n)

-- sweeper k has as many as there are threads for it
abbrev pub AreWhole : ℕ → List (List TerritoryView) → Type 0
AreWhole n owns = (k i : ℕ) → k < n → (i < length (own_at owns k) → k + i * n < 64) × (k + i * n < 64 → i < length (own_at owns k))
