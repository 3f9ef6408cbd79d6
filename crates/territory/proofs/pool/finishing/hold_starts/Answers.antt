use Rattle.std.proofs.Common.{arith}
use Rattle.territory.proofs.Holding.{held_within, held_here, held_more, held_sound}
use Rattle.territory.proofs.pool.finishing.hold_starts.Goals as goal

pub index_mut-requires : goal.index_mut-requires
index_mut-requires c = omega (arith, held_within _ _ _ _ _ _ c.loop-at.invariant.held c.requires.holdable c.loop-at-test.true c.at-item.is c.segment.ensures.value)

pub loop-at-preserved : goal.loop-at-preserved
loop-at-preserved c =
    let h = (held_here _ _ _ _ _ _ _ c.loop-at.invariant.held c.requires.holdable c.loop-at-test.true c.at-item.is c.segment.ensures.value c.index_mut.ensures.value) in
    record {
      sound = held_sound _ _ _ _ _ _ _ h c.loop-at.invariant.sound c.hold.ensures;
      held = held_more _ _ _ _ _ _ _ _ _ c.loop-at.invariant.held h c.loop-at.invariant.sound c.loop-at-test.true c.at-item.is c.segment.ensures.value c.offset.ensures.value c.hold.ensures;
    }
