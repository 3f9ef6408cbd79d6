use Rattle.std.proofs.Common.{◌≡◌, ℕ, ◌<◌, ◌≤◌, length}
use Rattle.sweeper.specs.Sweepers.{SweeperView}
use Rattle.sweep_rounds.specs.Turns.{sweeper_at}
use Rattle.sweep_rounds.specs.Mails.{box_at}
use Rattle.sweep_rounds.proofs.run.put_inboxes.Given as goal

abbrev pub invariant-loop-inbox : goal.invariant-loop-inbox
invariant-loop-inbox l = record {
  at : l.k ≡ length l.yielded;
  put : (j : ℕ) (d : SweeperView) → j < l.k
      → sweeper_at l.sweepers d j ≡ record (sweeper_at l.initial.sweepers d j) { inbox = box_at l.yielded j };
  left : (j : ℕ) (d : SweeperView) → l.k ≤ j → sweeper_at l.sweepers d j ≡ sweeper_at l.initial.sweepers d j;
}
