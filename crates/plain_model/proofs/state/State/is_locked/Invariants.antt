use Rattle.std.proofs.Common.{◌≡◌, drop, map}
use Rattle.trace_types.specs.Rules.{has}
use Rattle.plain_model.proofs.state.State.is_locked.Given as goal

abbrev pub invariant-loop-entry : goal.invariant-loop-entry
invariant-loop-entry l =
    has (map (λ entry. entry.0) (drop l.entry-index l.entry-items)) l.birth ≡ has (map (λ entry. entry.0) l.entry-items) l.birth
