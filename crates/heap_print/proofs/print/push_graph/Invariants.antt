use Rattle.std.proofs.Common.{◌-◌}
use Rattle.heap_print.proofs.Going.{Printing}
use Rattle.heap_print.proofs.print.push_graph.Given as goal

abbrev pub invariant-loop-number : goal.invariant-loop-number
invariant-loop-number l = Printing l.heap l.value l.numbers l.fn.text.items l.text.items l.number

abbrev pub decreases-loop-number : goal.decreases-loop-number
decreases-loop-number l = 9223372036854775808 - l.number
