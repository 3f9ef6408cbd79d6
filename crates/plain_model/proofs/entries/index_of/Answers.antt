use Rattle.plain_model.proofs.Placing.{entry_here, entry_later}
use Rattle.plain_model.proofs.entries.index_of.Goals as goal

pub returns-then-entry-birth : goal.returns-then-entry-birth
returns-then-entry-birth g c =
    entry_here c.args.entries.now c.loop-index.index c.args.birth c.index-entries-index.result c.loop-index.invariant
    c.loop-index-test.true c.index-entries-index.is c.if-entry-birth.true

pub loop-index-preserved : goal.loop-index-preserved
loop-index-preserved g c =
    entry_later c.args.entries.now c.loop-index.index c.args.birth c.index-entries-index.result c.loop-index.invariant
    c.loop-index-test.true c.index-entries-index.is c.if-entry-birth.false
