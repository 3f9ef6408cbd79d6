use Rattle.std.proofs.Common.{ap, ◌*◌, ◌+◌}
use Rattle.territory.proofs.Roomy.{room_large, room_open, room_small, settled_area}
use Rattle.territory.proofs.pool.Pool.room_for.Goals as goal

pub returns-then-size-gt-GREATEST_SHARED-clause-ok :
    goal.returns-then-size-gt-GREATEST_SHARED-clause-ok
returns-then-size-gt-GREATEST_SHARED-clause-ok c = room_large _ _ _ _ _ _ c.in_ok-n.ensures.ok c.if-size-gt-GREATEST_SHARED.true c.open.ensures.areas

pub returns-in-Some-clause-ok : goal.returns-in-Some-clause-ok
returns-in-Some-clause-ok c = room_open _ _ _ _ _ _ _ c.requires.settled c.in-Some.ensures c.index.ensures.value c.index.ensures.range c.requires.generation_in
    (ap (λ v. c.index.result * 9 + v) c.from.ensures) c.if-size-gt-GREATEST_SHARED.false

pub returns-clause-settled : goal.returns-clause-settled
returns-clause-settled c = settled_area _ _ _ _ _ _ _ _ _ _ c.self.view_is c.open-2.ensures.settled c.in_ok-n-2.ensures.ok c.index.ensures.value c.index.ensures.range c.requires.generation_in
    (ap (λ v. c.index.result * 9 + v) c.from.ensures) c.open_area-more.ensures.areas c.open_area-more.ensures.more

pub returns-clause-ok : goal.returns-clause-ok
returns-clause-ok c = room_small _ _ _ _ _ _ _ _ _ _ _ c.self.view_is c.in_ok-n-2.ensures.ok c.if-size-gt-GREATEST_SHARED.false c.open-2.ensures.areas c.index.ensures.value
    (ap (λ v. c.index.result * 9 + v) c.from.ensures) c.open_area-more.ensures.areas
