use Rattle.heap_store.proofs.Commands.{selects, selected_valid}
use Rattle.heap_store.proofs.heap.Heap.select_thread.Goals as goal

pub invariant_of-self : goal.invariant_of-self
invariant_of-self c = λ alive. selected_valid _ c.args.thread c.requires (c.self.invariant alive)

pub returns-clause-step : goal.returns-clause-step
returns-clause-step c = selects _ _ c.self.view_is c.args.thread c.requires
