use Rattle.heap_store.proofs.Opening.{pushed}
use Rattle.heap_store.proofs.heap.new_territories.Goals as goal

pub loop-thread-preserved : goal.loop-thread-preserved
loop-thread-preserved c = pushed _ _ _ _ c.loop-thread.invariant c.in_ok-new.ensures c.in_ok-push.ensures.items
