-- A register that is passed holds no object.
use Rattle.collector.proofs.DealtRegisters.{hold_none_more}
use Rattle.collector.proofs.dealing.next_object.Goals as goal

pub loop-register-preserved : goal.loop-register-preserved
loop-register-preserved c =
    hold_none_more c.args.registers.now c.args.from c.loop-register.register _ c.loop-register-test.true
    c.in_default.not-Object c.loop-register.invariant
