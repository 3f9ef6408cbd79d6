use Rattle.std.proofs.Common.{◌≡◌, take, map, fold}
use Rattle.trace_types.specs.Values.{objects_in}
use Rattle.trace_types.specs.Printing.{with_number}
use Rattle.plain_model.specs.Plain.{meaning}
use Rattle.plain_model.proofs.print.number_values.Given as goal

abbrev pub invariant-loop-value : goal.invariant-loop-value
invariant-loop-value l = l.births.items ≡ fold with_number l.initial.births.items (objects_in (map meaning (take l.value-index l.values)))
