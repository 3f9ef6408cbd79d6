use Rattle.std.proofs.Common.{◌≡◌, ◌++◌, drop}
use Rattle.trace_types.specs.Printing.{census_lines}
use Rattle.heap_print.proofs.counts.census_text.Given as goal

abbrev pub invariant-loop-generation : goal.invariant-loop-generation
invariant-loop-generation l = l.text.items ++ census_lines l.generation (drop l.generation l.census) ≡ l.initial.text.items ++ census_lines 0 l.census
