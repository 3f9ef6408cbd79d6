use Rattle.std.proofs.Common.{◌≡◌}
use Rattle.trace_types.specs.Printing.{numbered}
use Rattle.plain_model.specs.Plain.{meaning}
use Rattle.plain_model.proofs.print.numbering.Given as goal

abbrev pub invariant-loop-at : goal.invariant-loop-at
invariant-loop-at l = l.births.items ≡ numbered l.state.graph (meaning l.fn.value) l.at
