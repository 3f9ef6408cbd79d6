use Rattle.std.proofs.Common.{◌≡◌, ◌++◌, take, flat_map}
use Rattle.trace_types.specs.Kept.{strong_rules}
use Rattle.plain_model.proofs.finder.push_strong_rules.Given as goal

abbrev pub invariant-loop-birth : goal.invariant-loop-birth
invariant-loop-birth l = l.rules.items ≡ l.initial.rules.items ++ flat_map (λ entry. strong_rules entry.0 entry.1) (take l.birth-index l.graph)
