use Rattle.heap_store.proofs.Filling.{packed_is}
use Rattle.heap_store.proofs.shape.pack.Goals as goal

pub returns : goal.returns
returns c = packed_is _ _ c.args.count _ _ c.loop-index.invariant.0 c.loop-index.auto.index-end c.loop-index-test.false c.from_le_bytes.ensures
