use Rattle.std.proofs.Common.{◌≡◌, ◌++◌, take, map}
use Rattle.plain_model.proofs.state.State.push_locked.Given as goal

abbrev pub invariant-loop-entry : goal.invariant-loop-entry
invariant-loop-entry l = l.objects.items ≡ l.initial.objects.items ++ map (λ entry. entry.0) (take l.entry-index l.entry-items)
