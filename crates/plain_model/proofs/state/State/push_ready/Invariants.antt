use Rattle.std.proofs.Common.{◌≡◌, ◌++◌, take, map, filter}
use Rattle.trace_types.specs.Values.{objects_in}
use Rattle.trace_types.specs.Kept.{is_ready}
use Rattle.plain_model.proofs.state.State.push_ready.Given as goal

abbrev pub invariant-loop-registration : goal.invariant-loop-registration
invariant-loop-registration l =
    l.objects.items ≡ l.initial.objects.items ++ objects_in (map (λ r. r.representative) (filter (is_ready l.self l.sets.cg) (take l.registration-index l.registration-items)))
