use Rattle.plain_model.proofs.States.{sorted_again, field_written}
use Rattle.plain_model.proofs.state.State.with_field.Goals as goal

pub invariant_of-self : goal.invariant_of-self
invariant_of-self c = (
  c.self.invariant.0,
  c.self.invariant.1,
  sorted_again c.self.inside.graph.items c.in-Some.place c.args.birth c.with_field.new.self c.index_mut.result.now
      c.self.invariant.2 (rw c.deref.ensures.value at c.in-Some.ensures) c.index_mut.ensures.value,
)

pub returns-in-Some : goal.returns-in-Some
returns-in-Some c = λ o found.
    rw (← c.self.view_is)
    (field_written c.self.inside c.in-Some.place c.args.birth c.args.index c.args.value c.index_mut.result.now
    c.with_field.new.self o c.self.invariant.2 (rw c.deref.ensures.value at c.in-Some.ensures) c.index_mut.ensures.value
    c.with_field.ensures (rw (← c.self.view_is) at found))
