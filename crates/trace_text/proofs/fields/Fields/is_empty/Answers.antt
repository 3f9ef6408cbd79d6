use Rattle.trace_text.proofs.Splitting.{fields_left-empty}
use Rattle.trace_text.proofs.fields.Fields.is_empty.Goals as goal

pub returns : goal.returns
returns c = rw (← c.self.view_is) (fields_left-empty c.self.inside.rest c.is_none.result c.is_none.ensures)
