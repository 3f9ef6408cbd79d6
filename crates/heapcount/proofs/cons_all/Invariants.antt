use Rattle.std.proofs.Common.{◌≤◌}
use Rattle.heapcount.proofs.cons_all.Given as goal

abbrev pub invariant-loop-line : goal.invariant-loop-line
invariant-loop-line l = l.heap.last ≤ l.line
