use Rattle.heap_store.proofs.Consing.{boxes}
use Rattle.heap_store.proofs.heap.Heap.make_box.Goals as goal

pub returns-clause-step : goal.returns-clause-step
returns-clause-step c = λ s stands. boxes _ _ _ s c.args.line c.args.d c.args.value _ _ c.make.ensures.stands c.make.ensures.refused c.encode-word.ensures.round_trip c.operand.ensures stands
