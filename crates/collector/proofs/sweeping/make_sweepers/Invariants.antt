-- The sweepers so far are made, and the registers of the others are still there.
use Rattle.std.proofs.Common.{◌≡◌, ℕ, ◌<◌, ◌≤◌, length}
use Rattle.directory.specs.Directories.{sweeper_count}
use Rattle.sweeper.specs.Sweepers.{SweeperView}
use Rattle.sweep_rounds.specs.Turns.{sweeper_at}
use Rattle.collector.specs.Begun.{IsMade}
use Rattle.collector.specs.Dealt.{AreRegistersDealtTo, own_at, registers_at}
use Rattle.collector.proofs.sweeping.make_sweepers.Given as goal

abbrev pub invariant-loop-own : goal.invariant-loop-own
invariant-loop-own l = record {
  at : l.number ≡ length l.yielded;
  count : length l.sweepers.items ≡ l.number;
  made : (k : ℕ) (e : SweeperView) → k < l.number
      → IsMade l.directory (own_at l.yielded k) l.registers k (sweeper_at l.sweepers.items e k);
  dealt_count : length l.dealt.items ≡ sweeper_count l.directory;
  left : (k : ℕ) → l.number ≤ k → k < sweeper_count l.directory
      → AreRegistersDealtTo (sweeper_count l.directory) k l.registers (registers_at l.dealt.items k);
}
