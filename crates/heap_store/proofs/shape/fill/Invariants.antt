use Rattle.heap_store.proofs.Filling.{IsFilledTo}
use Rattle.heap_store.proofs.shape.fill.Given as goal

abbrev pub invariant-loop-index : goal.invariant-loop-index
invariant-loop-index l = IsFilledTo l.initial.territory l.territory l.at l.word l.index l.count
