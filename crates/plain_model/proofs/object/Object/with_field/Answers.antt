use Rattle.plain_model.proofs.States.{field_set}
use Rattle.plain_model.proofs.object.Object.with_field.Goals as goal

pub returns-then-index-len : goal.returns-then-index-len
returns-then-index-len c = rw (← c.self.view_is) (field_set c.self.inside c.args.index c.args.value)
