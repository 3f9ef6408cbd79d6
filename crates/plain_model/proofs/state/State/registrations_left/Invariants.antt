use Rattle.std.proofs.Common.{◌≡◌, ◌&&◌, not, take, filter}
use Rattle.trace_types.specs.Rules.{has}
use Rattle.trace_types.specs.Kept.{kept, is_given}
use Rattle.plain_model.proofs.state.State.registrations_left.Given as goal

abbrev pub invariant-loop-registration : goal.invariant-loop-registration
invariant-loop-registration l =
    l.left.items ≡ filter (λ r. has (kept l.self l.sets.cg) r.guardian && not (is_given l.self l.sets.cg r)) (take l.registration-index l.registration-items)
