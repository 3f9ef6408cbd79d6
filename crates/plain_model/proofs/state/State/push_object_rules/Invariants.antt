use Rattle.std.proofs.Common.{◌≡◌, ◌++◌, take, flat_map}
use Rattle.trace_types.specs.Kept.{object_rules}
use Rattle.plain_model.proofs.state.State.push_object_rules.Given as goal

abbrev pub invariant-loop-birth : goal.invariant-loop-birth
invariant-loop-birth l =
    l.rules.items ≡ l.initial.rules.items ++ flat_map (λ entry. object_rules entry.0 entry.1) (take l.birth-index l.birth-items)
