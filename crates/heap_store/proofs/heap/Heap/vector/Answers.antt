use Rattle.std.proofs.Common.{arith}
use Rattle.heap_store.proofs.Consing.{vectors, vector_too_long, vector_laid_out}
use Rattle.heap_store.proofs.Seen.{valid_seen}
use Rattle.heap_store.proofs.heap.Heap.vector.Goals as goal

pub returns-then-length-greatest_length-clause-step : goal.returns-then-length-greatest_length-clause-step
returns-then-length-greatest_length-clause-step c = λ s stands. vector_too_long _ s c.args.line c.args.d c.args.length _ c.args.value c.greatest_length.ensures.value c.if-length-greatest_length.true stands

pub make-requires-clause-laid_out : goal.make-requires-clause-laid_out
make-requires-clause-laid_out c =
    vector_laid_out _ (valid_seen _ _ c.self.view_is c.self.invariant c.if-self.false) c.args.line c.args.length c.args.value _ _ (omega (arith, c.if-length-greatest_length.false, c.greatest_length.ensures.range))
    c.encode-word.ensures.round_trip c.operand.ensures c.requires.value

pub returns-clause-step : goal.returns-clause-step
returns-clause-step c = λ s stands. vectors _ _ _ s c.args.line c.args.d c.args.length _ c.args.value _ _ c.make.ensures.stands c.make.ensures.refused c.greatest_length.ensures.value (omega (arith, c.if-length-greatest_length.false))
    c.encode-word.ensures.round_trip c.operand.ensures stands
