use Rattle.std.proofs.Common.{refl}
use Rattle.heap_store.proofs.Done.{done}
use Rattle.heap_store.proofs.heap.Heap.make.Goals as goal

pub invariant_of-self : goal.invariant_of-self
invariant_of-self c = λ _. rw c.set.ensures ((done _ _ c.self.view_is c.self.invariant c.requires.alive _ c.args.d c.args.d _ _ _ c.args.line c.args.shape c.from.ensures c.index_mut-territory.ensures.value refl c.in-Ok.ensures c.requires.plain c.requires.newer c.requires.line c.requires.laid_out).valid)

pub returns-in-Ok-clause-stands : goal.returns-in-Ok-clause-stands
returns-in-Ok-clause-stands c = rw c.set.ensures ((done _ _ c.self.view_is c.self.invariant c.requires.alive _ c.args.d c.args.d _ _ _ c.args.line c.args.shape c.from.ensures c.index_mut-territory.ensures.value refl c.in-Ok.ensures c.requires.plain c.requires.newer c.requires.line c.requires.laid_out).stands)

pub returns-in-Ok-clause-kept : goal.returns-in-Ok-clause-kept
returns-in-Ok-clause-kept c = (done _ _ c.self.view_is c.self.invariant c.requires.alive _ c.args.d c.args.d _ _ _ c.args.line c.args.shape c.from.ensures c.index_mut-territory.ensures.value refl c.in-Ok.ensures c.requires.plain c.requires.newer c.requires.line c.requires.laid_out).kept

pub returns-in-Ok-clause-cards : goal.returns-in-Ok-clause-cards
returns-in-Ok-clause-cards c = (done _ _ c.self.view_is c.self.invariant c.requires.alive _ c.args.d c.args.d _ _ _ c.args.line c.args.shape c.from.ensures c.index_mut-territory.ensures.value refl c.in-Ok.ensures c.requires.plain c.requires.newer c.requires.line c.requires.laid_out).cards
