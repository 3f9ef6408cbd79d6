use Rattle.std.proofs.Common.{◌≡◌, ◌&&◌, ◌==◌, ◌++◌, take, map, filter}
use Rattle.trace_types.specs.Kept.{is_given}
use Rattle.plain_model.specs.Plain.{queued}
use Rattle.plain_model.proofs.state.State.push_given.Given as goal

abbrev pub invariant-loop-registration : goal.invariant-loop-registration
invariant-loop-registration l =
    map queued l.queue.items ≡ map queued l.initial.queue.items
    ++ map (λ r. (r.representative, r.line)) (filter (λ r. is_given l.self l.sets.cg r && (l.guardian == r.guardian)) (take l.registration-index l.registration-items))
