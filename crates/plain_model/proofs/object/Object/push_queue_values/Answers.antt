use Rattle.std.proofs.Common.{◌++◌, map, ap, ◌∙◌}
use Rattle.std.proofs.lemmas.List.{take_all}
use Rattle.plain_model.specs.Plain.{meaning}
use Rattle.plain_model.proofs.States.{queue_seen}
use Rattle.plain_model.proofs.object.Object.push_queue_values.Goals as goal

pub returns : goal.returns
returns c =
    rw (← c.self.view_is)
    (c.loop-entry.invariant
    ∙ ap (λ values. map meaning c.args.found.now.items ++ values)
    (ap (map (λ entry. meaning entry.0)) (take_all c.loop-entry.entry-index c.deref-entry-items.result.now c.loop-entry-test.false
    ∙ c.deref-entry-items.ensures.value)
    ∙ queue_seen c.self.inside.queue.items))
