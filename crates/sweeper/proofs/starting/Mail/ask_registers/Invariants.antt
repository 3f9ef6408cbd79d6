use Rattle.sweeper.specs.Starting.{AreAsked, AsksOfRegisters}
use Rattle.sweeper.proofs.starting.Mail.ask_registers.Given as goal

abbrev pub invariant-loop-i : goal.invariant-loop-i
invariant-loop-i l = AreAsked l.share l.fn.self l.self (AsksOfRegisters l.directory l.registers l.i)
