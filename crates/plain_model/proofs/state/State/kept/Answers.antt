use Rattle.plain_model.proofs.Phases.{kept_alike}
use Rattle.plain_model.proofs.state.State.kept.Goals as goal

pub returns : goal.returns
returns c =
    kept_alike c.args.self.now c.args.sets.now.cg c.args.sets.now.waited_for c.in_ok-set.set c.requires.1
    (rw (c.deref.ensures.value, c.in_ok-rules.ensures) at c.in_ok-set.ensures)
