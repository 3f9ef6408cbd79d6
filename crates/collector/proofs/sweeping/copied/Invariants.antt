-- Each sweeper so far is counted.
use Rattle.std.proofs.Common.{◌≡◌, ℕ, ◌<◌, length, get_or}
use Rattle.sweeper.specs.Sweepers.{SweeperView}
use Rattle.sweep_rounds.specs.Turns.{sweeper_at}
use Rattle.collector.proofs.sweeping.copied.Given as goal

abbrev pub invariant-loop-sweeper : goal.invariant-loop-sweeper
invariant-loop-sweeper l = record {
  count : length l.counts.items ≡ l.sweeper-index;
  each : (k : ℕ) (e : SweeperView) → k < l.sweeper-index
      → get_or l.counts.items k 0 ≡ length (sweeper_at l.sweepers e k).places.own;
}
