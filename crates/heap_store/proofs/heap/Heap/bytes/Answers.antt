use Rattle.std.proofs.Common.{arith}
use Rattle.heap_store.proofs.Consing.{byte_objects, bytes_too_long, bytes_laid_out}
use Rattle.heap_store.proofs.heap.Heap.bytes.Goals as goal

pub returns-then-length-greatest_length-clause-step : goal.returns-then-length-greatest_length-clause-step
returns-then-length-greatest_length-clause-step c = λ s stands. bytes_too_long _ s c.args.line c.args.d c.args.length _ c.args.byte c.greatest_length.ensures.value c.if-length-greatest_length.true stands

pub make-requires-clause-laid_out : goal.make-requires-clause-laid_out
make-requires-clause-laid_out c = bytes_laid_out _ c.args.line c.args.length c.args.byte (omega (arith, c.if-length-greatest_length.false, c.greatest_length.ensures.range)) c.ranges.byte.fits

pub returns-clause-step : goal.returns-clause-step
returns-clause-step c = λ s stands. byte_objects _ _ _ s c.args.line c.args.d c.args.length _ c.args.byte c.make.ensures.stands c.make.ensures.refused c.greatest_length.ensures.value (omega (arith, c.if-length-greatest_length.false)) c.ranges.byte.fits stands
