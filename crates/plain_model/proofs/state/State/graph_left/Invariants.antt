use Rattle.std.proofs.Common.{◌≡◌, take, map, filter}
use Rattle.trace_types.specs.Rules.{has}
use Rattle.trace_types.specs.Kept.{kept}
use Rattle.trace_types.specs.Collections.{object_left}
use Rattle.plain_model.proofs.state.State.graph_left.Given as goal

abbrev pub invariant-loop-birth : goal.invariant-loop-birth
invariant-loop-birth l =
    l.graph.items ≡ map (λ entry. (entry.0, object_left l.self l.a entry.0 entry.1))
    (filter (λ entry. has (kept l.self l.a.cg) entry.0) (take l.birth-index l.birth-items))
