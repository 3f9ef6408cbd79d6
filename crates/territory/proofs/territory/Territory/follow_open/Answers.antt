use Rattle.std.proofs.Common.{◌/◌, ap, refl}
use Rattle.gc_words.specs.Layout.{offset_of}
use Rattle.territory.specs.Pools.{numbered}
use Rattle.territory.specs.FollowedSegments.{reel}
use Rattle.territory.proofs.Reading.{if_some}
use Rattle.territory.proofs.Trailing.{pair_in, trail_none, led, end_parts, trail_led}
use Rattle.territory.proofs.territory.Territory.follow_open.Goals as goal

pub can_follow-requires-clause-from_within : goal.can_follow-requires-clause-from_within
can_follow-requires-clause-from_within c = (pair_in _ _ _ _ _ _ _ c.self.invariant.1 c.self.view_is c.requires.object c.place-from.ensures.segment c.place-from.ensures.start).within

pub can_follow-requires-clause-to_within : goal.can_follow-requires-clause-to_within
can_follow-requires-clause-to_within c = (pair_in _ _ _ _ _ _ (offset_of c.args.copy / 2) c.self.invariant.1 c.self.view_is c.requires.copy c.segment.ensures.value refl).within

pub returns-then-not-can_follow-clause-trail : goal.returns-then-not-can_follow-clause-trail
returns-then-not-can_follow-clause-trail c =
    let y = pair_in _ _ _ _ _ _ (offset_of c.args.copy / 2) c.self.invariant.1 c.self.view_is c.requires.copy c.segment.ensures.value refl in
    if_some _ y.pair _ y.has (trail_none _ _ _ _ _ refl)

pub follow-end-requires-clause-start : goal.follow-end-requires-clause-start
follow-end-requires-clause-start c = (pair_in _ _ _ _ _ _ _ c.self.invariant.1 c.self.view_is c.requires.object c.place-from.ensures.segment c.place-from.ensures.start).start

pub follow-end-requires-clause-copy : goal.follow-end-requires-clause-copy
follow-end-requires-clause-copy c = (pair_in _ _ _ _ _ _ _ c.self.invariant.1 c.self.view_is c.requires.copy c.segment.ensures.value (ap (λ v. v / 2) c.offset.ensures.value)).start

pub object-requires : goal.object-requires
object-requires c = (end_parts _ _ _ _ _ (led c.self.inside.targets (record { thread = c.self.inside.thread; from = c.place-from.result.0; to = c.segment.result }) c.args.self.now c.self.inside.pool c.follow-end.new.self c.args.object c.args.copy c.place-from.result.1 c.offset.result
    (reel (numbered c.self.inside.pool.segments c.segment.result) c.args.places.now c.args.log.now.own.items c.reserve.new.self.items)
    (reel (numbered c.follow-end.new.self.segments c.segment.result) c.follow-end.new.places c.follow-end.new.log.own.items c.follow-end.new.log.waiting.items)
    c.follow-end.result.tip.start c.follow-end.result.tip.offset c.follow-end.result.car_swept
    c.self.invariant.0 c.self.invariant.1 c.self.invariant.2 c.self.invariant.3 c.self.view_is c.requires.object c.requires.copy c.place-from.ensures.segment c.place-from.ensures.start c.segment.ensures.value c.offset.ensures.value c.offset.ensures.even
    (c.can_follow.ensures c.if-not-can_follow.false) refl refl c.follow-end.ensures.others c.follow-end.ensures.followed).begin).0

pub copy-requires : goal.copy-requires
copy-requires c = (end_parts _ _ _ _ _ (led c.self.inside.targets (record { thread = c.self.inside.thread; from = c.place-from.result.0; to = c.segment.result }) c.args.self.now c.self.inside.pool c.follow-end.new.self c.args.object c.args.copy c.place-from.result.1 c.offset.result
    (reel (numbered c.self.inside.pool.segments c.segment.result) c.args.places.now c.args.log.now.own.items c.reserve.new.self.items)
    (reel (numbered c.follow-end.new.self.segments c.segment.result) c.follow-end.new.places c.follow-end.new.log.own.items c.follow-end.new.log.waiting.items)
    c.follow-end.result.tip.start c.follow-end.result.tip.offset c.follow-end.result.car_swept
    c.self.invariant.0 c.self.invariant.1 c.self.invariant.2 c.self.invariant.3 c.self.view_is c.requires.object c.requires.copy c.place-from.ensures.segment c.place-from.ensures.start c.segment.ensures.value c.offset.ensures.value c.offset.ensures.even
    (c.can_follow.ensures c.if-not-can_follow.false) refl refl c.follow-end.ensures.others c.follow-end.ensures.followed).begin).1

pub invariant_of-self : goal.invariant_of-self
invariant_of-self c =
    let e = led c.self.inside.targets (record { thread = c.self.inside.thread; from = c.place-from.result.0; to = c.segment.result }) c.args.self.now c.self.inside.pool c.follow-end.new.self c.args.object c.args.copy c.place-from.result.1 c.offset.result
    (reel (numbered c.self.inside.pool.segments c.segment.result) c.args.places.now c.args.log.now.own.items c.reserve.new.self.items)
    (reel (numbered c.follow-end.new.self.segments c.segment.result) c.follow-end.new.places c.follow-end.new.log.own.items c.follow-end.new.log.waiting.items)
    c.follow-end.result.tip.start c.follow-end.result.tip.offset c.follow-end.result.car_swept
    c.self.invariant.0 c.self.invariant.1 c.self.invariant.2 c.self.invariant.3 c.self.view_is c.requires.object c.requires.copy c.place-from.ensures.segment c.place-from.ensures.start c.segment.ensures.value c.offset.ensures.value c.offset.ensures.even
    (c.can_follow.ensures c.if-not-can_follow.false) refl refl c.follow-end.ensures.others c.follow-end.ensures.followed in
    (c.self.invariant.0, e.begin.steady.settled, e.begin.steady.used, e.begin.steady.unheld)

pub returns-clause-trail : goal.returns-clause-trail
returns-clause-trail c =
    trail_led _ _ _ _ _ _ _ _ _ _ _ c.args.log.now.waiting.items _ _ c.object.result c.copy.result c.follow-end.result.car_swept c.self.invariant.1 c.self.view_is c.requires.object c.requires.copy c.place-from.ensures.segment c.place-from.ensures.start c.segment.ensures.value c.offset.ensures.value c.offset.ensures.even
    c.reserve.ensures.items c.object.ensures c.copy.ensures (led c.self.inside.targets (record { thread = c.self.inside.thread; from = c.place-from.result.0; to = c.segment.result }) c.args.self.now c.self.inside.pool c.follow-end.new.self c.args.object c.args.copy c.place-from.result.1 c.offset.result
    (reel (numbered c.self.inside.pool.segments c.segment.result) c.args.places.now c.args.log.now.own.items c.reserve.new.self.items)
    (reel (numbered c.follow-end.new.self.segments c.segment.result) c.follow-end.new.places c.follow-end.new.log.own.items c.follow-end.new.log.waiting.items)
    c.follow-end.result.tip.start c.follow-end.result.tip.offset c.follow-end.result.car_swept
    c.self.invariant.0 c.self.invariant.1 c.self.invariant.2 c.self.invariant.3 c.self.view_is c.requires.object c.requires.copy c.place-from.ensures.segment c.place-from.ensures.start c.segment.ensures.value c.offset.ensures.value c.offset.ensures.even
    (c.can_follow.ensures c.if-not-can_follow.false) refl refl c.follow-end.ensures.others c.follow-end.ensures.followed)
