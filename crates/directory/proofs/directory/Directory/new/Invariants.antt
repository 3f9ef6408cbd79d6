use Rattle.directory.proofs.Shared.{AreCut}
use Rattle.directory.proofs.directory.Directory.new.Given as goal

abbrev pub invariant-loop-sweeper : goal.invariant-loop-sweeper
invariant-loop-sweeper l = AreCut l.territories l.tables.items l.ranges.items l.firsts.items l.word l.sweepers l.sweeper
