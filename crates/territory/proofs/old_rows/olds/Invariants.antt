use Rattle.std.proofs.Common.{IfSome, Contains}
use Rattle.territory.specs.Olds.{olds_of}
use Rattle.territory.proofs.old_rows.olds.Given as goal

abbrev pub invariant-loop-count : goal.invariant-loop-count
invariant-loop-count l = IfSome l.at (Contains (olds_of l.territory l.cg))
