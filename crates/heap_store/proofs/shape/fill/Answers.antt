use Rattle.heap_store.proofs.Filling.{filled_next}
use Rattle.heap_store.proofs.shape.fill.Goals as goal

pub loop-index-preserved : goal.loop-index-preserved
loop-index-preserved c = filled_next _ _ _ _ _ _ _ _ c.loop-index.invariant c.loop-index-test.true c.put.ensures.after c.put.ensures.sound
