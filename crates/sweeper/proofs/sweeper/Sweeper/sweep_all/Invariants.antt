use Rattle.std.proofs.Common.{◌≡◌}
use Rattle.directory.specs.Nears.{IsNear}
use Rattle.sweeper.specs.Sweepers.{left_of}
use Rattle.sweeper.specs.Ready.{Runs}
use Rattle.sweeper.proofs.sweeper.Sweeper.sweep_all.Given as goal

abbrev pub invariant-loop : goal.invariant-loop
invariant-loop l = record { runs : Runs l.fn.self l.self; inbox : l.self.inbox ≡ l.fn.self.inbox; near : IsNear l.directory l.near }

abbrev pub decreases-loop : goal.decreases-loop
decreases-loop l = left_of l.self
