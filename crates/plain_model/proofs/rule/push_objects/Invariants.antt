use Rattle.std.proofs.Common.{◌≡◌, ◌++◌, take, map}
use Rattle.trace_types.specs.Values.{objects_in}
use Rattle.plain_model.specs.Plain.{meaning}
use Rattle.plain_model.proofs.rule.push_objects.Given as goal

abbrev pub invariant-loop-value : goal.invariant-loop-value
invariant-loop-value l = l.objects.items ≡ l.initial.objects.items ++ objects_in (map meaning (take l.value-index l.values))
