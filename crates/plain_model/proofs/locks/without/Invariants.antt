use Rattle.std.proofs.Common.{◌≡◌, ◌==◌, not, take, filter}
use Rattle.plain_model.proofs.locks.without.Given as goal

abbrev pub invariant-loop-other : goal.invariant-loop-other
invariant-loop-other l = l.others.items ≡ filter (λ entry. not (l.birth == entry.0)) (take l.other-index l.locks)
