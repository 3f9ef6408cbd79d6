use Rattle.std.proofs.Common.{◌≡◌, ◌++◌, take, flat_map}
use Rattle.trace_types.specs.Values.{object_at}
use Rattle.trace_types.specs.Printing.{object_line}
use Rattle.plain_model.proofs.print.push_objects.Given as goal

abbrev pub invariant-loop-birth : goal.invariant-loop-birth
invariant-loop-birth l = l.text.items ≡ l.initial.text.items ++ flat_map (λ birth. object_line l.births birth (object_at l.state.graph birth)) (take l.birth-index l.births)
