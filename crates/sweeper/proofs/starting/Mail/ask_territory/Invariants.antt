use Rattle.directory.proofs.Walk.{left}
use Rattle.directory.specs.Nears.{IsNear}
use Rattle.territory.specs.Olds.{olds_of}
use Rattle.sweeper.proofs.AskedOlds.{AreWalked}
use Rattle.sweeper.proofs.starting.Mail.ask_territory.Given as goal

abbrev pub invariant-loop-at : goal.invariant-loop-at
invariant-loop-at l = record {
  walked : AreWalked l.share l.fn.self l.self l.directory l.territory l.at;
  near : IsNear l.directory l.near;
}

abbrev pub decreases-loop-at : goal.decreases-loop-at
decreases-loop-at l = left (olds_of l.territory l.cg) l.at
