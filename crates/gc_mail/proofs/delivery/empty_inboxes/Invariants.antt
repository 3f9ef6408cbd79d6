use Rattle.std.proofs.Common.{◌≡◌, ℕ, ◌<◌, [], slice_index_or, length}
use Rattle.gc_mail.proofs.delivery.empty_inboxes.Given as goal

abbrev pub invariant-loop : goal.invariant-loop
invariant-loop l = (length l.inboxes.items ≡ l.counter) × ((k : ℕ) → k < l.counter → slice_index_or l.inboxes.items k [] ≡ [])
