-- The territories so far have begun, and the others are as they were.
use Rattle.std.proofs.Common.{◌≡◌, ℕ, ◌<◌, ◌≤◌, length, Some}
use Rattle.std.specs.List.{slice_get}
use Rattle.territory.specs.Territories.{TerritoryView}
use Rattle.collector.specs.Begun.{HasBegun}
use Rattle.collector.proofs.sweeping.begin_all.Given as goal

abbrev pub invariant-loop-i : goal.invariant-loop-i
invariant-loop-i l = record {
  count : length l.territories.items ≡ length l.initial.territories.items;
  begun : (j : ℕ) (t u : TerritoryView) → j < l.i → slice_get l.initial.territories.items j ≡ Some t
      → slice_get l.territories.items j ≡ Some u → HasBegun t u l.targets;
  others : (j : ℕ) → l.i ≤ j → slice_get l.territories.items j ≡ slice_get l.initial.territories.items j;
}
