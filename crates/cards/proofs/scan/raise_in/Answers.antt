use Rattle.cards.proofs.Raised.{raised_none, raised_more, raised_all}
use Rattle.cards.proofs.scan.raise_in.Goals as goal

pub loop-card-init : goal.loop-card-init
loop-card-init c = raised_none c.args.limit c.args.to c.args.bytes.now

pub loop-card-preserved : goal.loop-card-preserved
loop-card-preserved c = raised_more _ _ _ _ _ _ c.loop-card.invariant c.in-Some.ensures.dirty.0 c.in-Some.ensures.dirty.1 c.in-Some.ensures.least

pub returns : goal.returns
returns c = raised_all _ _ _ _ _ c.loop-card.invariant c.in_default.ensures.none
