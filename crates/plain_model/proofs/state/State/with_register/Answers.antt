use Rattle.plain_model.proofs.States.{written}
use Rattle.plain_model.proofs.state.State.with_register.Goals as goal

pub returns : goal.returns
returns c = rw (← c.self.view_is) (written c.self.inside c.number-number.result c.args.d c.args.value c.number-number.ensures.is_it)
