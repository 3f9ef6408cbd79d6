use Rattle.std.proofs.Common.{◌≡◌, ◌∷◌, [], ◌++◌, take, filter, flat_map}
use Rattle.trace_types.specs.Values.{objects_in}
use Rattle.trace_types.specs.Kept.{as_though_member, is_candidate}
use Rattle.plain_model.proofs.state.State.push_as_though.Given as goal

abbrev pub invariant-loop-registration : goal.invariant-loop-registration
invariant-loop-registration l =
    l.rules.items ≡ l.initial.rules.items ++ flat_map (λ r. flat_map (as_though_member l.self) (objects_in (r.object ∷ [])))
    (filter (is_candidate l.self l.sets.cg) (take l.registration-index l.registration-items))
