use Rattle.std.proofs.Common.{◌≡◌, false, length}
use Rattle.territory.specs.Following.{trail}
use Rattle.territory.proofs.Ending.{IsUnder, zeros}
use Rattle.territory.proofs.territory.Territory.follow.Given as goal

abbrev pub invariant-loop-end : goal.invariant-loop-end
invariant-loop-end l =
    IsUnder (zeros l.places) (trail l.fn.self l.fn.places l.fn.log.own.items l.fn.log.waiting.items) l.fn.object l.fn.copy
    (trail l.self l.places l.log.own.items l.log.waiting.items) l.object l.copy false
    × (length l.places ≡ 256)
    × (l.log.count ≡ length l.log.own.items)

abbrev pub decreases-loop-end : goal.decreases-loop-end
decreases-loop-end l = zeros l.places
