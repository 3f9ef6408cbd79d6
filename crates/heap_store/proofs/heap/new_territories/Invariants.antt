use Rattle.heap_store.specs.Opening.{AreNew}
use Rattle.heap_store.proofs.heap.new_territories.Given as goal

abbrev pub invariant-loop-thread : goal.invariant-loop-thread
invariant-loop-thread l = AreNew l.territories.items l.thread
