use Rattle.sweeper.proofs.AskedOlds.{AreAllWalked}
use Rattle.sweeper.proofs.starting.Mail.ask_territories.Given as goal

abbrev pub invariant-loop-i : goal.invariant-loop-i
invariant-loop-i l = AreAllWalked l.share l.fn.self l.self l.directory l.i
