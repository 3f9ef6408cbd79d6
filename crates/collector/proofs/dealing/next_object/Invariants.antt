-- The registers so far hold no objects.
use Rattle.collector.specs.Dealt.{HoldNone}
use Rattle.collector.proofs.dealing.next_object.Given as goal

abbrev pub invariant-loop-register : goal.invariant-loop-register
invariant-loop-register l = HoldNone l.registers l.from l.register
