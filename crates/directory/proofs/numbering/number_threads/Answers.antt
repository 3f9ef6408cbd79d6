use Rattle.directory.proofs.Owners.{shared_more, shared_all}
use Rattle.directory.proofs.numbering.number_threads.Goals as goal

pub loop-thread-preserved : goal.loop-thread-preserved
loop-thread-preserved c =
    shared_more _ _ _ _ _ _ _ _ _ _ _ c.requires.territories c.loop-thread-test.true c.index-territories-thread.is
    c.in_ok-table.ensures c.loop-thread.invariant

pub returns-clause-numbered : goal.returns-clause-numbered
returns-clause-numbered c = shared_all _ _ _ _ _ _ _ _ c.loop-thread-test.false c.loop-thread.invariant
