use Rattle.std.proofs.Common.{◌+◌, ◌-◌, length, vec_capacity}
use Rattle.territory.specs.FollowedSegments.{reel}
use Rattle.territory.proofs.Reeling.{IsUnderway}
use Rattle.territory.proofs.pool.following.follow_from.Given as goal

abbrev pub invariant-loop-words : goal.invariant-loop-words
invariant-loop-words l =
    IsUnderway l.between l.from (reel l.fn.to l.fn.places l.fn.log.own.items l.fn.log.waiting.items) l.fn.first.start l.fn.first.offset
    (reel l.to l.places l.log.own.items l.log.waiting.items) l.tip (vec_capacity l.log.waiting)

abbrev pub decreases-loop-words : goal.decreases-loop-words
decreases-loop-words l = length l.to.words + length l.log.waiting.items - l.to.top
