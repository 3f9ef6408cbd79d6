use Rattle.std.proofs.Common.{◌≡◌, ◌++◌, take}
use Rattle.trace_types.specs.Kept.{without_premise}
use Rattle.plain_model.proofs.object.Object.push_rules_as_though.Given as goal

abbrev pub invariant-loop-rule : goal.invariant-loop-rule
invariant-loop-rule l =
    l.rules.items ≡ l.initial.rules.items ++ without_premise l.birth (take l.rule-index l.rule-items)
