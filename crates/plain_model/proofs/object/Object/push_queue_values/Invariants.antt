use Rattle.std.proofs.Common.{◌≡◌, ◌++◌, take, map}
use Rattle.plain_model.specs.Plain.{meaning}
use Rattle.plain_model.proofs.object.Object.push_queue_values.Given as goal

abbrev pub invariant-loop-entry : goal.invariant-loop-entry
invariant-loop-entry l =
    map meaning l.found.items ≡ map meaning l.initial.found.items ++ map (λ entry. meaning entry.0) (take l.entry-index l.entry-items)
