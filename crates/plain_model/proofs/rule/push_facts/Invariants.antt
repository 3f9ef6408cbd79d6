use Rattle.std.proofs.Common.{◌≡◌, ◌++◌, take}
use Rattle.trace_types.specs.Rules.{facts}
use Rattle.plain_model.proofs.rule.push_facts.Given as goal

abbrev pub invariant-loop-object : goal.invariant-loop-object
invariant-loop-object l = l.rules.items ≡ l.initial.rules.items ++ facts (take l.object-index l.objects)
