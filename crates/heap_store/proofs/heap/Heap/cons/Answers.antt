use Rattle.heap_store.proofs.Consing.{conses}
use Rattle.heap_store.proofs.heap.Heap.cons.Goals as goal

pub returns-clause-step : goal.returns-clause-step
returns-clause-step c = λ s stands. conses _ _ _ s c.args.line c.args.d c.args.car c.args.cdr _ _ _ _ c.make.ensures.stands c.make.ensures.refused c.encode-first.ensures.round_trip c.encode-second.ensures.round_trip c.operand.ensures c.operand-2.ensures stands
