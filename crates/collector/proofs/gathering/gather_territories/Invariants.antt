-- The territories of the last threads are taken, as many as have been gone through.
use Rattle.std.proofs.Common.{length}
use Rattle.collector.proofs.Taking.{AreTaken}
use Rattle.collector.proofs.gathering.gather_territories.Given as goal

abbrev pub invariant-loop-thread : goal.invariant-loop-thread
invariant-loop-thread l =
    AreTaken (length l.fn.owns.items) l.fn.owns.items l.owns.items l.territories.items l.thread

abbrev pub decreases-loop-thread : goal.decreases-loop-thread
decreases-loop-thread l = l.thread
