use Rattle.std.proofs.Common.{◌≡◌, ℕ, [], ◌∷◌, ◌++◌, map, flat_map, refl, ap, ◌∙◌}
use Rattle.trace_types.specs.Values.{Object, size_of}
use Rattle.trace_types.specs.Rules.{facts, least}
use Rattle.trace_types.specs.Kept.{strong_rules}
use Rattle.trace_types.specs.Finder.{reach}
use Rattle.plain_model.proofs.Walking.{filter_alike}
use Rattle.plain_model.proofs.finder.reached_sizes.Goals as goal

pub returns : goal.returns
unfolding reach
returns c =
    let all : c.push_strong_rules.new.rules.items
    ≡ facts (c.args.birth ∷ []) ++ flat_map (λ entry. strong_rules entry.0 entry.1) c.args.state.now.graph =
    c.in_ok-push_strong_rules.ensures ∙ rw (c.graph.ensures, c.in_ok-push_facts.ensures, c.new-rules.ensures.items) refl in
    c.in_ok-sizes.ensures ∙ ap (map (λ (entry : ℕ × Object). size_of entry.1.kind entry.1.fields))
    (rw c.graph-2.ensures (filter_alike c.in_ok-set.set
    (least (facts (c.args.birth ∷ []) ++ flat_map (λ entry. strong_rules entry.0 entry.1) c.args.state.now.graph))
    (rw (c.deref.ensures.value, all) at c.in_ok-set.ensures) c.args.state.now.graph))
