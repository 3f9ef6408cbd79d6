use Rattle.std.proofs.Common.{◌≡◌, ◌++◌, ◌∷◌, take, map, flat_map}
use Rattle.trace_types.specs.Printing.{value_text}
use Rattle.plain_model.specs.Plain.{meaning}
use Rattle.plain_model.proofs.print.push_values.Given as goal

abbrev pub invariant-loop-value : goal.invariant-loop-value
invariant-loop-value l = l.text.items ≡ l.initial.text.items ++ flat_map (λ v. 32 ∷ value_text l.births v) (map meaning (take l.value-index l.values))
