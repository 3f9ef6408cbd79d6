use Rattle.heap_store.proofs.Generations.{generation_found}
use Rattle.heap_store.proofs.heap.Heap.generation_of.Goals as goal

pub returns-in-Object-clause-value : goal.returns-in-Object-clause-value
returns-in-Object-clause-value c = λ s stands. generation_found _ s stands c.args.value _ _ _ _ c.operand.ensures c.in-Object.is c.requires c.home.ensures.start c.generation.ensures.value
