-- An empty heap.
use Rattle.std.specs.Prelude.{◌≡◌, ℕ, ◌<◌, List, length, slice_get, Some}
use Rattle.territory.specs.Territories.{TerritoryView, no_territory}

-- the territories of the first n threads, without starts
pub record AreNew (territories : List TerritoryView) (n : ℕ) : Type 0 where
  pub count : length territories ≡ n
  pub each : (i : ℕ) → i < n → slice_get territories i ≡ Some (no_territory i)
