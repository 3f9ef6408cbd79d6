use Rattle.std.proofs.lemmas.Bool.{ne_eqb}
use Rattle.heap_store.proofs.Commands.{versions, versioned_valid, no_version}
use Rattle.heap_store.proofs.heap.Heap.version_two.Goals as goal

pub invariant_of-self : goal.invariant_of-self
invariant_of-self c = λ alive. versioned_valid _ _ c.self.view_is c.args.line c.if-line-ne1.false c.requires.newer (c.self.invariant alive)

pub returns-clause-step : goal.returns-clause-step
returns-clause-step c = versions _ _ c.self.view_is c.args.line c.if-line-ne1.false c.requires.newer

pub returns-then-line-ne1-clause-step : goal.returns-then-line-ne1-clause-step
returns-then-line-ne1-clause-step c = no_version c.args.self.now c.args.line (ne_eqb c.args.line 1 c.if-line-ne1.true)
