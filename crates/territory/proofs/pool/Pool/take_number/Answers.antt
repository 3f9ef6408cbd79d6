use Rattle.territory.proofs.Growing.{settled_more, taken_last, taken_more}
use Rattle.territory.proofs.pool.Pool.take_number.Goals as goal

pub returns-in-Some-clause-ok : goal.returns-in-Some-clause-ok
returns-in-Some-clause-ok c = taken_last _ _ _ _ c.self.view_is c.requires c.last.ensures c.in-Some.is

pub returns-clause-settled : goal.returns-clause-settled
returns-clause-settled c = settled_more _ _ _ _ c.self-2.view_is c.add_segment.ensures.settled c.in_ok-n.ensures.index c.in_ok-add_segment.ensures.ok c.in_ok-n.ensures.lists c.in_ok-n.ensures.links c.grow.ensures.each_once

pub returns-clause-ok : goal.returns-clause-ok
returns-clause-ok c = taken_more _ _ _ _ _ _ _ c.self.view_is c.last.ensures c.in_default.is c.add_segment.ensures.lists c.self-2.view_is c.add_segment.ensures.settled
    c.in_ok-n.ensures.index c.in_ok-add_segment.ensures.ok c.in_ok-n.ensures.lists
