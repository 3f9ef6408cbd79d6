use Rattle.std.proofs.Common.{◌≡◌, take, sum, ◌≤◌, ◌^◌, ◌-◌, ◌*◌}
use Rattle.plain_model.proofs.census.sum_of.Given as goal

abbrev pub invariant-loop-size : goal.invariant-loop-size
invariant-loop-size l = (l.total ≡ sum (take l.size-index l.sizes)) × (l.total ≤ (2 ^ 64 - 1) * l.size-index)
