use Rattle.std.proofs.Common.{◌≡◌, ◌++◌, take, flat_map}
use Rattle.trace_types.specs.Kept.{registration_rules}
use Rattle.plain_model.proofs.state.State.push_registration_rules.Given as goal

abbrev pub invariant-loop-registration : goal.invariant-loop-registration
invariant-loop-registration l =
    l.rules.items ≡ l.initial.rules.items ++ flat_map registration_rules (take l.registration-index l.registration-items)
