use Rattle.std.proofs.Common.{◌≡◌, ◌==◌, [], ◌++◌, take, flat_map, if◌then◌else◌}
use Rattle.trace_types.specs.Kept.{without_premise, object_rules}
use Rattle.plain_model.proofs.state.State.push_as_though_member.Given as goal

abbrev pub invariant-loop-birth : goal.invariant-loop-birth
invariant-loop-birth l =
    l.rules.items ≡ l.initial.rules.items
    ++ flat_map (λ entry. if l.member == entry.0 then without_premise l.member (object_rules l.member entry.1) else []) (take l.birth-index l.birth-items)
