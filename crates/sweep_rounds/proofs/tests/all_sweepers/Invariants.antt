use Rattle.std.proofs.Common.{◌≡◌, ℕ, ◌<◌, length}
use Rattle.sweeper.specs.Sweepers.{SweeperView}
use Rattle.sweeper.specs.Starting.{IsBegun}
use Rattle.sweep_rounds.specs.Turns.{sweeper_at}
use Rattle.sweep_rounds.proofs.Nothing.{nothing}
use Rattle.sweep_rounds.proofs.tests.all_sweepers.Given as goal

abbrev pub invariant-loop-number : goal.invariant-loop-number
invariant-loop-number l = record {
  count : length l.sweepers.items ≡ l.number;
  begun : (k : ℕ) (d : SweeperView) → k < l.number → IsBegun (nothing l.directory) (sweeper_at l.sweepers.items d k);
  numbers : (k : ℕ) (d : SweeperView) → k < l.number → (sweeper_at l.sweepers.items d k).share.number ≡ k;
  directory : (k : ℕ) (d : SweeperView) → k < l.number
      → (sweeper_at l.sweepers.items d k).places.directory ≡ l.directory;
}
