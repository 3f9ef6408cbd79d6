use Rattle.std.proofs.Common.{refl}
use Rattle.heap_store.proofs.Commands.{moves, moved_valid}
use Rattle.heap_store.proofs.heap.Heap.mov.Goals as goal

pub invariant_of-self : goal.invariant_of-self
invariant_of-self c = λ alive. rw c.set.ensures (moved_valid _ _ c.self.view_is c.args.d c.args.d _ c.args.value refl c.operand-value.ensures c.requires (c.self.invariant alive))

pub returns-clause-step : goal.returns-clause-step
returns-clause-step c = rw c.set.ensures (moves _ _ c.self.view_is c.args.d c.args.d _ c.args.value refl c.operand-value.ensures c.requires)
