use Rattle.std.proofs.Common.{◌≡◌, ◌&&◌, ◌∷◌, [], ◌++◌, take, filter, flat_map}
use Rattle.trace_types.specs.Kept.{rules_to, is_dead, is_unordered}
use Rattle.plain_model.proofs.state.State.push_served.Given as goal

abbrev pub invariant-loop-registration : goal.invariant-loop-registration
invariant-loop-registration l =
    l.rules.items ≡ l.initial.rules.items ++ flat_map (λ r. rules_to r.representative (r.guardian ∷ []))
    (filter (λ r. is_dead l.self l.sets.cg r && is_unordered l.self r) (take l.registration-index l.registration-items))
