-- The threads get their indices one by one; a number that is no remainder has none.
use Rattle.sweep_share.proofs.Indices.{filled_all, filled_more, filled_never, filled_none}
use Rattle.sweep_share.proofs.share.indices_of.Goals as goal

pub returns-then-number-sweepers : goal.returns-then-number-sweepers
returns-then-number-sweepers c =
    filled_never c.args.number c.args.sweepers c.in_ok-indices.indices.items c.requires c.if-number-sweepers.true
    c.in_ok-indices.ensures

pub loop-thread-init : goal.loop-thread-init
loop-thread-init c =
    filled_none c.args.number c.args.sweepers c.in_ok-indices.indices.items c.if-number-sweepers.false
    c.in_ok-indices.ensures

pub loop-thread-preserved : goal.loop-thread-preserved
loop-thread-preserved c =
    filled_more c.args.number c.args.sweepers c.loop-thread.indices.items c.loop-thread.thread c.loop-thread.index
    c.loop-thread-test.true c.loop-thread.invariant

pub returns : goal.returns
returns c =
    filled_all c.args.number c.args.sweepers c.loop-thread.indices.items c.loop-thread.thread c.loop-thread.index
    c.loop-thread-test.false c.loop-thread.invariant
