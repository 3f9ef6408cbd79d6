use Rattle.std.proofs.Common.{refl}
use Rattle.territory.proofs.Reeling.{underway_next}
use Rattle.territory.specs.FollowedSegments.{reel}
use Rattle.territory.proofs.pool.following.follow_from.Goals as goal

pub loop-words-preserved : goal.loop-words-preserved
loop-words-preserved c =
    underway_next _ _ _ _ _ _ (reel c.sweep_car.new.to c.sweep_car.new.places c.sweep_car.new.log.own.items c.sweep_car.new.log.waiting.items) _ c.loop-words.tip c.in-Some.next _ _ c.loop-words.invariant
    (c.loop-words-test.ensures.swept refl) c.loop-words-test.ensures.count c.loop-words-test.ensures.grows
    c.in-Some.ensures.swept c.in-Some.ensures.count c.in-Some.ensures.grows c.in-Some.ensures.between c.in-Some.ensures.tip c.in-Some.ensures.spare
