use Rattle.heap_store.proofs.Getting.{guardian_none}
use Rattle.heap_store.proofs.heap.Heap.fielded.Goals as goal

pub returns-in-Guard : goal.returns-in-Guard
returns-in-Guard c = guardian_none _ c.args.register _ _ _ _ c.object_in.ensures.place c.in-Some.is c.in-Some.ensures.there c.home.ensures.start c.kind.ensures.value c.in-Guard.is
