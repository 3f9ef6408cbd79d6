use Rattle.std.proofs.Common.{◌≡◌, ◌∷◌, [], ◌++◌, take, filter, flat_map}
use Rattle.trace_types.specs.Kept.{rules_to, is_unready}
use Rattle.plain_model.proofs.state.State.push_unready.Given as goal

abbrev pub invariant-loop-registration : goal.invariant-loop-registration
invariant-loop-registration l =
    l.rules.items ≡ l.initial.rules.items ++ flat_map (λ r. rules_to r.object (r.guardian ∷ [])) (filter (is_unready l.self l.sets.cg) (take l.registration-index l.registration-items))
