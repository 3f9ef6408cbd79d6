use Rattle.directory.proofs.Reaching.{reached_all, reached_more}
use Rattle.directory.proofs.table.reach_of.Goals as goal

pub loop-thread-preserved : goal.loop-thread-preserved
loop-thread-preserved c =
    reached_more c.args.tables.now _ c.loop-thread.reach c.reach.result c.with-reach.result c.loop-thread.thread c.loop-thread-test.true c.index-tables-thread.is
    c.reach.ensures c.with-reach.ensures c.loop-thread.invariant

pub returns : goal.returns
returns c = reached_all c.args.tables.now c.loop-thread.reach c.loop-thread.thread c.loop-thread-test.false c.loop-thread.invariant
