-- As many sweepers were ended as have been gone through.
use Rattle.std.proofs.Common.{length}
use Rattle.collector.proofs.Closing.{AreEndedSoFar}
use Rattle.collector.proofs.gathering.end_all.Given as goal

abbrev pub invariant-loop-sweeper : goal.invariant-loop-sweeper
invariant-loop-sweeper l =
    AreEndedSoFar l.fn.sweepers.items l.owns.items l.initial.registers.items l.registers.items
    (length l.yielded)
