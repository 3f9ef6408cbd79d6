use Rattle.std.proofs.Common.{◌≡◌, ◌+◌, length}
use Rattle.sweeper.specs.Ready.{Runs}
use Rattle.sweeper.proofs.sweeper.Sweeper.handle_some.Given as goal

abbrev pub invariant-loop : goal.invariant-loop
invariant-loop l = record {
  runs : Runs l.fn.self l.self;
  handled : length l.self.inbox + l.counter ≡ length l.fn.self.inbox;
}
