use Rattle.std.proofs.Common.{◌≡◌, ℕ, ◌-◌, length, nat_cmp}
use Rattle.std.specs.FinMap.{find}
use Rattle.trace_types.specs.Finder.{walks, shortest}
use Rattle.plain_model.specs.Walks.{head_of}
use Rattle.plain_model.proofs.finder.path.Given as goal

abbrev pub invariant-loop-steps : goal.invariant-loop-steps
invariant-loop-steps l =
    ((x : ℕ) → find nat_cmp x l.walks.items ≡ head_of (walks l.state.graph l._steps x l.b))
    × (shortest l.state.graph (length l.state.graph - l._steps) l._steps l.a l.b ≡ shortest l.state.graph (length l.state.graph) 0 l.a l.b)
