use Rattle.std.proofs.Common.{◌≡◌, ◌++◌, take, map, flat_map}
use Rattle.trace_types.specs.Kept.{rules_to}
use Rattle.plain_model.specs.Plain.{meaning}
use Rattle.plain_model.proofs.rule.push_rules_to.Given as goal

abbrev pub invariant-loop-value : goal.invariant-loop-value
invariant-loop-value l =
    l.rules.items ≡ l.initial.rules.items ++ flat_map (λ v. rules_to v l.premises) (map meaning (take l.value-index l.values))
