use Rattle.std.proofs.Common.{rules, map, take, ap, ◌∙◌}
use Rattle.owned_core.specs.Machine.{setting_of, state_of, due_of, with_one}
use Rattle.owned_core.proofs.Machining.{due_steps, due_steps_push, dues_to}
use Rattle.owned_core.proofs.machine.Machine.add_due.Goals as goal

pub loop-i-preserved : goal.loop-i-preserved
loop-i-preserved c =
    c.in_ok-add_if_due.ensures
    ∙ ap (λ z. with_one (setting_of c.args.plan.now) z (due_of c.index.result.now)) c.loop-i.invariant
    ∙ due_steps_push (setting_of c.args.plan.now) (state_of c.args.self.now) (map due_of (take c.loop-i.i c.args.plan.now.dues.items)) (due_of c.index.result.now)
    ∙ ap (due_steps (setting_of c.args.plan.now) (state_of c.args.self.now)) (dues_to c.args.plan.now.dues.items c.loop-i.i c.index.result.now (search rules) c.index.ensures)
