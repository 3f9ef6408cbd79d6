use Rattle.std.proofs.Common.{◌-◌}
use Rattle.directory.proofs.Owners.{IsShared}
use Rattle.directory.proofs.numbering.number_threads.Given as goal

abbrev pub invariant-loop-thread : goal.invariant-loop-thread
invariant-loop-thread l = IsShared l.territories l.fn.tables.items l.tables.items l.sweeper l.sweepers l.first l.next l.thread

abbrev pub decreases-loop-thread : goal.decreases-loop-thread
decreases-loop-thread l = 64 - l.thread
