use Rattle.std.proofs.Common.{◌≡◌, ℕ, ◌<◌, ◌≤◌, [], length}
use Rattle.sweeper.specs.Sweepers.{SweeperView}
use Rattle.sweep_rounds.specs.Turns.{sweeper_at}
use Rattle.sweep_rounds.specs.Mails.{box_at}
use Rattle.sweep_rounds.proofs.run.take_outboxes.Given as goal

abbrev pub invariant-loop-k : goal.invariant-loop-k
invariant-loop-k l = record {
  count : length l.outboxes.items ≡ l.k;
  taken : (j : ℕ) (d : SweeperView) → j < l.k
      → box_at l.outboxes.items j ≡ (sweeper_at l.initial.sweepers d j).outbox;
  emptied : (j : ℕ) (d : SweeperView) → j < l.k
      → sweeper_at l.sweepers d j ≡ record (sweeper_at l.initial.sweepers d j) { outbox = [] };
  left : (j : ℕ) (d : SweeperView) → l.k ≤ j → sweeper_at l.sweepers d j ≡ sweeper_at l.initial.sweepers d j;
}
