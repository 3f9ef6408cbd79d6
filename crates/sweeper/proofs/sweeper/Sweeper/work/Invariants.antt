use Rattle.std.proofs.Common.{length}
use Rattle.sweeper.specs.Ready.{Runs}
use Rattle.sweeper.proofs.sweeper.Sweeper.work.Given as goal

abbrev pub invariant-loop : goal.invariant-loop
invariant-loop l = Runs l.fn.self l.self

abbrev pub decreases-loop : goal.decreases-loop
decreases-loop l = length l.self.inbox
