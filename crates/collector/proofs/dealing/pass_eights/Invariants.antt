-- The registers that are passed hold no objects.
use Rattle.std.proofs.Common.{◌≤◌, ◌-◌, length}
use Rattle.collector.specs.Dealt.{HoldNone}
use Rattle.collector.proofs.dealing.pass_eights.Given as goal

abbrev pub invariant-loop-at : goal.invariant-loop-at
invariant-loop-at l = (l.from ≤ l.at) × HoldNone l.registers l.from l.at

abbrev pub decreases-loop-at : goal.decreases-loop-at
decreases-loop-at l = length l.registers - l.at
