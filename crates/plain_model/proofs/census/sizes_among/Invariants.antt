use Rattle.std.proofs.Common.{◌≡◌, take, map, filter}
use Rattle.trace_types.specs.Values.{size_of}
use Rattle.trace_types.specs.Rules.{has}
use Rattle.plain_model.proofs.census.sizes_among.Given as goal

abbrev pub invariant-loop-birth : goal.invariant-loop-birth
invariant-loop-birth l = l.sizes.items ≡ map (λ entry. size_of entry.1.kind entry.1.fields) (filter (λ entry. has l.set entry.0) (take l.birth-index l.graph))
