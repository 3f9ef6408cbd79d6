use Rattle.std.proofs.Common.{ap, arith}
use Rattle.seg_chain.specs.Lists.{link_count}
use Rattle.territory.specs.Pools.{PoolView}
use Rattle.territory.proofs.OldSegments.{walked_none, walked_here, walked_linked, walked_more, walked_found, walked_never, walked_over}
use Rattle.territory.proofs.pool.Pool.first_old.Goals as goal

pub loop-count-init : goal.loop-count-init
loop-count-init c = walked_none _ _ _ c.requires.dirty

pub returns-in_err-n : goal.returns-in_err-n
returns-in_err-n c = walked_never _ _ _ _ _ _ c.loop-count.invariant c.in_err-n.was c.from_residual.ensures

pub old_in-requires-clause-within : goal.old_in-requires-clause-within
old_in-requires-clause-within c = (walked_here _ _ _ _ _ _ c.requires.settled c.loop-count.invariant c.in_ok-n.was).within

pub returns-in-Some : goal.returns-in-Some
returns-in-Some c = walked_found _ _ _ _ _ _ _ c.loop-count.invariant c.in_ok-n.was c.in-Some.ensures.some.1 c.in-Some.ensures.least

pub next-at-requires : goal.next-at-requires
next-at-requires c = walked_linked _ _ _ _ _ _ _ c.self.view_is c.requires.settled c.loop-count.invariant c.in_ok-n.was

pub loop-count-preserved : goal.loop-count-preserved
loop-count-preserved c = walked_more _ _ _ _ _ _ _ _ c.self.view_is c.loop-count.invariant c.in_ok-n.was c.in_default.ensures.none c.next-at.ensures

pub returns : goal.returns
returns c = walked_over _ _ _ _ _ c.requires.settled c.loop-count.invariant (omega (arith, c.links-count-end.ensures.count, ap (λ (v : PoolView). link_count v.dirty) c.self.view_is))
