use Rattle.std.proofs.Common.{◌≡◌, ℕ, length, Some}
use Rattle.std.specs.List.{slice_get}
use Rattle.territory.specs.Territories.{TerritoryView}
use Rattle.sweep_rounds.proofs.tests.all_territories.Given as goal

abbrev pub invariant-loop-thread : goal.invariant-loop-thread
invariant-loop-thread l = record {
  count : length l.territories.items ≡ l.thread;
  each : (i : ℕ) (t : TerritoryView) → slice_get l.territories.items i ≡ Some t
      → (t.thread ≡ i) × (t.targets ≡ record { cg = 0; min = 0; max = 0 });
}
