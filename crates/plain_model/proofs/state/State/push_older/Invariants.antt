use Rattle.std.proofs.Common.{◌≡◌, ◌++◌, take, map, filter, nat_lt}
use Rattle.plain_model.proofs.state.State.push_older.Given as goal

abbrev pub invariant-loop-birth : goal.invariant-loop-birth
invariant-loop-birth l =
    l.objects.items ≡ l.initial.objects.items
    ++ map (λ entry. entry.0) (filter (λ entry. nat_lt l.cg entry.1.generation) (take l.birth-index l.birth-items))
