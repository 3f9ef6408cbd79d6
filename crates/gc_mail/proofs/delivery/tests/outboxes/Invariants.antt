use Rattle.std.proofs.Common.{◌≡◌, vec_len}
use Rattle.gc_mail.proofs.delivery.tests.outboxes.Given as goal

abbrev pub invariant-loop-sender : goal.invariant-loop-sender
invariant-loop-sender l = vec_len l.outboxes ≡ l.sender
