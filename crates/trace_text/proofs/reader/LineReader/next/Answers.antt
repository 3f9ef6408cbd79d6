use Rattle.trace_text.proofs.Lasting.{long_lasts, end_lasts}
use Rattle.trace_text.proofs.Lining.{lines_given}
use Rattle.trace_text.proofs.reader.LineReader.next.Goals as goal

pub returns-clause-lines : goal.returns-clause-lines
returns-clause-lines g c = λ ends bytes e. lines_given bytes _ _ _ _ _ c.advance.ensures.next e (c.advance.ensures.ended ends)

pub returns-clause-long : goal.returns-clause-long
returns-clause-long g c = long_lasts _ _ _ _ _ c.advance.ensures.next

pub returns-clause-end : goal.returns-clause-end
returns-clause-end g c = λ end. end_lasts _ _ _ _ _ c.advance.ensures.next (c.advance.ensures.stays end.1) end
