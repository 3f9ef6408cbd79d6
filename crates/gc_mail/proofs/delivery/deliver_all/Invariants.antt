use Rattle.std.proofs.Common.{◌≡◌, length}
use Rattle.gc_mail.proofs.Delivered.{IsDeliveredUpTo}
use Rattle.gc_mail.proofs.delivery.deliver_all.Given as goal

abbrev pub invariant-loop-message : goal.invariant-loop-message
invariant-loop-message g l = (length l.inboxes.items ≡ l.sweepers) × IsDeliveredUpTo l.sweepers l.fn.outbox l.message-iterator l.initial.inboxes.items l.inboxes.items l.initial.mail l.mail
