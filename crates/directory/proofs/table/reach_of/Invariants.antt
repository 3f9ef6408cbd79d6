use Rattle.directory.specs.Reaches.{Spans}
use Rattle.directory.proofs.Reaching.{LiesBelow}
use Rattle.directory.proofs.table.reach_of.Given as goal

abbrev pub invariant-loop-thread : goal.invariant-loop-thread
invariant-loop-thread l = Spans l.reach (LiesBelow l.tables l.thread)
