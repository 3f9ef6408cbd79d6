use Rattle.std.proofs.Common.{◌≡◌, ◌==◌, not, take, filter}
use Rattle.plain_model.proofs.rule.Rule.without_premise.Given as goal

abbrev pub invariant-loop-premise : goal.invariant-loop-premise
invariant-loop-premise l =
    l.premises.items ≡ filter (λ y. not (l.birth == y)) (take l.premise-index l.premise-items)
