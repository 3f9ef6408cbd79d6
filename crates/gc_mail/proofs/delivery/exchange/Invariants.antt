use Rattle.std.proofs.Common.{◌≡◌, ◌+◌, length}
use Rattle.gc_mail.specs.Recipients.{IsDelivered, all_of}
use Rattle.gc_mail.proofs.delivery.exchange.Given as goal

abbrev pub invariant-loop-outbox : goal.invariant-loop-outbox
invariant-loop-outbox g l = (length l.inboxes.items ≡ l.sweepers) × IsDelivered l.sweepers (all_of l.yielded) l.inboxes.items × (l.mail ≡ l.initial.mail + length (all_of l.yielded))
