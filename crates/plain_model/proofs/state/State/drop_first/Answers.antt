use Rattle.std.proofs.Common.{drop}
use Rattle.trace_types.specs.Values as values
use Rattle.plain_model.proofs.States.{sorted_again}
use Rattle.plain_model.proofs.Parts.{object_written}
use Rattle.plain_model.proofs.state.State.drop_first.Goals as goal

pub invariant_of-self : goal.invariant_of-self
invariant_of-self c = (
  c.self.invariant.0,
  c.self.invariant.1,
  sorted_again c.self.inside.graph.items c.in-Some.place c.args.birth c.drop_first.new.self c.index_mut.result.now
      c.self.invariant.2 (rw c.deref.ensures.value at c.in-Some.ensures) c.index_mut.ensures.value,
)

pub returns-in-Some : goal.returns-in-Some
returns-in-Some c = λ o found.
    rw (← c.self.view_is)
    (object_written (λ (x : values.Object). record x { queue = drop 1 x.queue }) c.self.inside c.in-Some.place c.args.birth
    c.index_mut.result.now c.drop_first.new.self o c.self.invariant.2 (rw c.deref.ensures.value at c.in-Some.ensures)
    c.index_mut.ensures.value c.drop_first.ensures (rw (← c.self.view_is) at found))
