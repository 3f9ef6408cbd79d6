use Rattle.std.proofs.Common.{◌≡◌, take, map}
use Rattle.trace_types.specs.Values.{size_of}
use Rattle.trace_types.specs.Printing.{of_generation}
use Rattle.plain_model.proofs.census.sizes_in.Given as goal

abbrev pub invariant-loop-object : goal.invariant-loop-object
invariant-loop-object l = l.sizes.items ≡ map (λ entry. size_of entry.1.kind entry.1.fields) (of_generation l.generation (take l.object-index l.graph))
