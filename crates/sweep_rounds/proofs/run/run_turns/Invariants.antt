use Rattle.std.proofs.Common.{◌≡◌, ◌+◌, ◌-◌, ◌*◌, ◌≤◌, length}
use Rattle.sweeper.specs.Sweepers.{SweeperView}
use Rattle.sweep_rounds.specs.Turns.{Leads, sweeper_at}
use Rattle.sweep_rounds.proofs.Slots.{names_of}
use Rattle.sweep_rounds.proofs.Turning.{CountsOn, IsLeft}
use Rattle.sweep_rounds.proofs.run.run_turns.Given as goal

abbrev pub invariant-loop-count : goal.invariant-loop-count
invariant-loop-count g l = record {
  left : (d : SweeperView) → IsLeft (length l.initial.sweepers) l.directory (names_of l.initial.sweepers)
      l.done.rounds (sweeper_at l.sweepers d);
  leads : (d : SweeperView) → Leads (length l.initial.sweepers) (sweeper_at l.initial.sweepers d)
      (sweeper_at l.sweepers d);
  counts : (d : SweeperView) → CountsOn (length l.initial.sweepers) (sweeper_at l.initial.sweepers d)
      (sweeper_at l.sweepers d) l.done.rounds;
  mail : l.mail ≡ l.initial.mail + l.done.rounds + l.done.messages;
  few : l.done.rounds ≤ l.done.messages;
}

-- no more is left to do than 7 for each slot, and each turn but the last leaves less
abbrev pub decreases-loop-count : goal.decreases-loop-count
decreases-loop-count g l = 7 * length (names_of l.initial.sweepers) - l.done.rounds
