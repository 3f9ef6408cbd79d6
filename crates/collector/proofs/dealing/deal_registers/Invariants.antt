-- The registers below the next one are dealt out, as far as they hold objects.
use Rattle.std.proofs.Common.{◌-◌, length}
use Rattle.collector.proofs.DealtRegisters.{AreDealtBelow}
use Rattle.collector.proofs.dealing.deal_registers.Given as goal

abbrev pub invariant-loop-register : goal.invariant-loop-register
invariant-loop-register l = AreDealtBelow l.sweepers l.registers l.from l.owns.items

abbrev pub decreases-loop-register : goal.decreases-loop-register
decreases-loop-register l = length l.registers - l.from
