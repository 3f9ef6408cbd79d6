use Rattle.std.proofs.Common.{◌<◌}
use Rattle.collectcount.proofs.make_pairs.Given as goal

abbrev pub invariant-loop-line : goal.invariant-loop-line
invariant-loop-line l = l.heap.last < l.line
