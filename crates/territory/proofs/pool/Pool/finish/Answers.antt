use Rattle.territory.proofs.Finished.{is_first, finishing_start, finishing_more, finishing_less, finishing_end}
use Rattle.territory.proofs.pool.Pool.finish.Goals as goal

pub loop-n-init : goal.loop-n-init
loop-n-init c = record { settled = c.requires.settled; going = finishing_start _ _ }

pub finish_segment-requires-clause-aside : goal.finish_segment-requires-clause-aside
finish_segment-requires-clause-aside c = (is_first c.loop-n.self c.in-Some.n _ c.loop-n.invariant.settled c.first_aside.ensures c.in-Some.is).aside

pub loop-n-preserved : goal.loop-n-preserved
loop-n-preserved c = record {
  settled = c.finish_segment.ensures.settled;
  going = finishing_more _ _ _ _ _ (is_first c.loop-n.self c.in-Some.n _ c.loop-n.invariant.settled c.first_aside.ensures c.in-Some.is) c.loop-n.invariant.settled c.requires.greatest c.loop-n.invariant.going c.finish_segment.ensures.finished;
}

pub loop-n-smaller : goal.loop-n-smaller
loop-n-smaller c = finishing_less _ _ _ _ (is_first c.loop-n.self c.in-Some.n _ c.loop-n.invariant.settled c.first_aside.ensures c.in-Some.is) c.loop-n.invariant.settled c.requires.greatest c.finish_segment.ensures.finished

pub returns-clause-finished : goal.returns-clause-finished
returns-clause-finished c = finishing_end _ _ _ _ c.loop-n.invariant.settled c.loop-n.invariant.going c.first_aside.ensures c.in_default.is
