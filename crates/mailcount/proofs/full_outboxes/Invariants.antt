use Rattle.std.proofs.Common.{◌≡◌}
use Rattle.std.specs.Vec.{vec_len}
use Rattle.mailcount.proofs.full_outboxes.Given as goal

abbrev pub invariant-loop : goal.invariant-loop
invariant-loop l = vec_len l.outboxes ≡ l.counter
