use Rattle.plain_model.proofs.Placing.{put_sorted}
use Rattle.plain_model.proofs.state.State.with_object.Goals as goal

pub invariant_of-self-2 : goal.invariant_of-self-2
invariant_of-self-2 c = (
  c.self.invariant.0,
  c.self.invariant.1,
  rw c.in_ok-put_entry.ensures.put (put_sorted c.self.inside.graph.items c.args.birth c.args.object c.self.invariant.2),
)
