use Rattle.std.proofs.Common.{◌∙◌, sym}
use Rattle.trace_types.specs.Tables.{holds_entry}
use Rattle.plain_model.specs.Plain.{meaning}
use Rattle.plain_model.proofs.Parts.{position-map}
use Rattle.plain_model.proofs.state.State.where_in.Goals as goal

pub returns : goal.returns
returns c =
    rw (← c.table.view_is)
    (rw c.deref.ensures.value at c.entry_slot.ensures
    ∙ sym (position-map (holds_entry c.args.self.now.graph (meaning c.args.key)) meaning c.table.inside.fields.items))
