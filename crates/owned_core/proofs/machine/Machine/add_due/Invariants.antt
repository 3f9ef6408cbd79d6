use Rattle.std.proofs.Common.{◌≡◌, map, take}
use Rattle.owned_core.specs.Machine.{setting_of, state_of, due_of}
use Rattle.owned_core.proofs.Machining.{due_steps}
use Rattle.owned_core.proofs.machine.Machine.add_due.Given as goal

abbrev pub invariant-loop-i : goal.invariant-loop-i
invariant-loop-i l = state_of l.self ≡ due_steps (setting_of l.plan) (state_of l.initial.self) (map due_of (take l.i l.plan.dues.items))
