use Rattle.std.proofs.Common.{◌≡◌, ℕ, ◌+◌, ◌-◌, ◌*◌, ◌<◌, length, slice_index_or}
use Rattle.std.specs.FinMap.{empty}
use Rattle.territory.specs.Territories.{no_territory}
use Rattle.sweep_rounds.proofs.tests.own_territories.Given as goal

abbrev pub invariant-loop-thread : goal.invariant-loop-thread
invariant-loop-thread l = record {
  next : l.thread ≡ l.number + length l.territories.items * l.sweepers;
  threads : (i : ℕ) → i < length l.territories.items
      → (slice_index_or l.territories.items i (no_territory 0)).thread ≡ l.number + i * l.sweepers;
  nothing : (i : ℕ) → i < length l.territories.items
      → (slice_index_or l.territories.items i (no_territory 0)).starts ≡ empty;
}

abbrev pub decreases-loop-thread : goal.decreases-loop-thread
decreases-loop-thread l = 64 - l.thread
