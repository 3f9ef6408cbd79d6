use Rattle.std.proofs.Common.{map, ◌∙◌, ap}
use Rattle.trace_types.specs.States.{State}
use Rattle.trace_types.specs.Collections.{Arguments}
use Rattle.plain_model.specs.Plain.{note_meaning}
use Rattle.plain_model.proofs.Collected.{collected, notes_counted, left_sorted}
use Rattle.plain_model.proofs.state.State.collect.Goals as goal

pub invariant_of-self : goal.invariant_of-self
invariant_of-self c = (
  c.self.invariant.0,
  notes_counted c.self.inside.notes.items c.in_ok-notes.notes.items c.args.self.now c.in_ok-sets.sets.cg
      (ap (λ (s : State). s.notes) c.self.view_is) c.in_ok-notes.ensures
      ∙ c.self.invariant.1,
  left_sorted c.in_ok-graph.graph.items c.args.self.now c.args.a c.in_ok-graph.ensures (rw (← c.self.view_is) c.self.invariant.2),
)

pub returns-clause-collects : goal.returns-clause-collects
returns-clause-collects c =
    collected c.self.inside c.args.self.now c.args.a c.in_ok-sets.sets.cg c.in_ok-graph.graph.items (map note_meaning c.in_ok-notes.notes.items)
    c.in_ok-registrations.registrations.items c.self.view_is
    (c.in_ok-sets.ensures.cg ∙ ap (λ (a : Arguments). a.cg) c.a.view_is) c.in_ok-graph.ensures c.in_ok-notes.ensures
    c.in_ok-registrations.ensures
