use Rattle.std.proofs.Common.{IsSome}
use Rattle.std.specs.FinMap.{get}
use Rattle.heapcount.proofs.copy_all.Given as goal

-- what is copied stays a start
abbrev pub invariant-loop : goal.invariant-loop
invariant-loop l = IsSome (get l.territory.starts l.at)
