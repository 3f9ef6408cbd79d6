use Rattle.std.proofs.Common.{◌≡◌, drop, nat_cmp}
use Rattle.std.specs.FinMap.{find}
use Rattle.plain_model.proofs.finder.walk_from.Given as goal

abbrev pub invariant-loop-walk : goal.invariant-loop-walk
invariant-loop-walk l = find nat_cmp l.from (drop l.walk-index l.walks) ≡ find nat_cmp l.from l.walks
