-- None was found exactly where the registers so far hold no objects.
use Rattle.std.proofs.Common.{◌+◌}
use Rattle.std.specs.Prelude.{◌↔◌, IsFalse}
use Rattle.collector.specs.Dealt.{HoldNone}
use Rattle.collector.proofs.dealing.is_object_among.Given as goal

abbrev pub invariant-loop-i : goal.invariant-loop-i
invariant-loop-i l = IsFalse l.found ↔ HoldNone l.registers l.from (l.from + l.i)
