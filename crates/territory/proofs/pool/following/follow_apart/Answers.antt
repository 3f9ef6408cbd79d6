use Rattle.std.proofs.Common.{◌<◌, length, arith}
use Rattle.territory.proofs.Reeling.{at_front, at_back, set_front, set_back, set_seen, set_again, trail_seen}
use Rattle.territory.proofs.pool.following.follow_apart.Goals as goal

pub returns-then-between-clause-others : goal.returns-then-between-clause-others
returns-then-between-clause-others c = set_again _ _ _ _ (set_back _ _ _ _ _ c.split_at_mut-front.ensures.value c.split_at_mut-front.ensures.front_len) c.requires.to_within

pub returns-else-between-clause-followed : goal.returns-else-between-clause-followed
returns-else-between-clause-followed c =
    let lt : c.args.between.to < length c.split_at_mut-front-else-between.result.0.now = omega (arith, c.split_at_mut-front-else-between.ensures.front_len, c.requires.apart) in
    let made = set_front c.args.segments.now c.split_at_mut-front-else-between.result.0.now c.split_at_mut-front-else-between.result.1.now c.args.between.to c.follow_from-else-between.new.to c.split_at_mut-front-else-between.ensures.value lt in
    trail_seen c.args.between _ _ _ _ _ _ c.args.places.now c.follow_from-else-between.new.places c.args.log.now.own.items c.args.log.now.waiting.items c.follow_from-else-between.new.log.own.items c.follow_from-else-between.new.log.waiting.items
    c.args.first.start c.args.first.offset c.follow_from-else-between.result.tip.start c.follow_from-else-between.result.tip.offset c.follow_from-else-between.result.car_swept
    (at_back _ _ _ _ c.index-back-0-else-between.result c.split_at_mut-front-else-between.ensures.value c.split_at_mut-front-else-between.ensures.front_len c.requires.from_within)
    (at_front _ _ _ _ c.index-front-between-else-between.result c.split_at_mut-front-else-between.ensures.value lt)
    (set_seen _ _ _ _ made c.requires.to_within)
    c.follow_from-else-between.ensures.followed

pub returns-else-between-clause-others : goal.returns-else-between-clause-others
returns-else-between-clause-others c =
    let lt : c.args.between.to < length c.split_at_mut-front-else-between.result.0.now = omega (arith, c.split_at_mut-front-else-between.ensures.front_len, c.requires.apart) in
    set_again _ _ _ _ (set_front c.args.segments.now c.split_at_mut-front-else-between.result.0.now c.split_at_mut-front-else-between.result.1.now c.args.between.to c.follow_from-else-between.new.to c.split_at_mut-front-else-between.ensures.value lt) c.requires.to_within
