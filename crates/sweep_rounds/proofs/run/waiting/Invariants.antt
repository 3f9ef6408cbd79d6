use Rattle.std.proofs.Common.{◌≡◌, length, take}
use Rattle.std.specs.List.{sum_by}
use Rattle.sweep_rounds.proofs.run.waiting.Given as goal

abbrev pub invariant-loop-outbox : goal.invariant-loop-outbox
invariant-loop-outbox l = l.count ≡ sum_by length (take l.outbox-index l.outboxes)
