use Rattle.std.proofs.Common.{◌∙◌, sym}
use Rattle.trace_types.specs.Tables.{is_free}
use Rattle.plain_model.specs.Plain.{meaning}
use Rattle.plain_model.proofs.Parts.{position-map}
use Rattle.plain_model.proofs.state.State.free_in.Goals as goal

pub returns : goal.returns
returns c =
    rw (← c.table.view_is)
    (rw c.deref.ensures.value at c.free_slot.ensures
    ∙ sym (position-map (is_free c.args.self.now.graph) meaning c.table.inside.fields.items))
