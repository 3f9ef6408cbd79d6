use Rattle.std.proofs.Common.{refl}
use Rattle.heap_store.proofs.Getting.{gets_nothing, gets_past, gets_seen, got_seen}
use Rattle.heap_store.proofs.heap.Heap.get.Goals as goal

pub returns-in_default-clause-step : goal.returns-in_default-clause-step
returns-in_default-clause-step c = λ s line stands. gets_nothing _ s stands c.args.d c.args.s c.args.index line c.in_default.ensures

pub returns-then-index-length-clause-step : goal.returns-then-index-length-clause-step
returns-then-index-length-clause-step c = λ s line stands. gets_past _ s line c.args.d c.args.s c.args.index _ _ _ c.in-Some.ensures c.home-territory.ensures.start c.length.ensures.value c.if-index-length.true stands

pub invariant_of-self : goal.invariant_of-self
invariant_of-self c = λ alive. rw c.set.ensures (got_seen _ _ c.self.view_is c.self.invariant c.args.d c.args.d c.args.s c.args.index _ _ _ _ refl c.in-Some.ensures c.home-territory.ensures.start c.length.ensures.value c.if-index-length.false c.field-value.ensures alive)

pub returns-clause-step : goal.returns-clause-step
returns-clause-step c = rw c.set.ensures (gets_seen _ _ c.self.view_is c.args.d c.args.d c.args.s c.args.index _ _ _ _ refl c.in-Some.ensures c.home-territory.ensures.start c.length.ensures.value c.if-index-length.false c.field-value.ensures)
