use Rattle.std.proofs.Common.{◌≡◌, ◌∷◌, [], Some, sym, ap, ◌∙◌}
use Rattle.trace_types.specs.Values.{object, object_at}
use Rattle.trace_types.specs.States.{State, silently, with_field, with_new, new_object}
use Rattle.plain_model.specs.Plain.{meaning}
use Rattle.plain_model.proofs.Parts.{still_there}
use Rattle.plain_model.proofs.state.State.put_new.Goals as goal

pub returns : goal.returns
returns c = λ t found.
    let made : c.with_new.new.self ≡ with_new c.args.self.now c.args.line c.args.d c.args.kind (meaning c.args.key ∷ meaning c.args.value ∷ []) =
    rw c.in_ok-fields.ensures at c.in_ok-with_new.ensures in
    let there : object_at c.with_new.new.self.graph c.args.table ≡ Some t =
    rw made (still_there c.args.self.now.graph c.args.line c.args.table
    (new_object c.args.self.now c.args.kind (meaning c.args.key ∷ meaning c.args.value ∷ [])) t c.requires found) in
    rw c.new.ensures.items (ap silently (sym (c.with_field.ensures t there
    ∙ ap (λ (s : State). with_field s c.args.table t c.args.slot (object c.args.line)) made)))
