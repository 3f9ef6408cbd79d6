use Rattle.plain_model.proofs.Concluding.{way_more, way_done}
use Rattle.plain_model.proofs.rounds.least.Goals as goal

pub returns-then-not-added : goal.returns-then-not-added
returns-then-not-added c =
    way_done c.loop-round._round c.args.rules.now c.loop-round.set c.round.new.set c.loop-round.invariant
    (rw c.if-not-added.true at c.in_ok-added.ensures)

pub loop-round-preserved : goal.loop-round-preserved
loop-round-preserved c =
    way_more c.loop-round._round c.args.rules.now c.loop-round.set c.round.new.set c.in_ok-added.added c.loop-round.invariant
    c.in_ok-added.ensures
