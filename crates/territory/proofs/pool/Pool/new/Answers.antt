use Rattle.territory.proofs.Growing.{settled_new}
use Rattle.territory.proofs.pool.Pool.new.Goals as goal
use Rattle.std.proofs.Common.{refl}

pub returns-clause-settled : goal.returns-clause-settled
returns-clause-settled c = settled_new _ _ _ _ _ c.new-segments.ensures.items c.in_ok-areas.ensures c.in_ok-lists.ensures.lists c.in_ok-lists.ensures.each_once c.in_ok-dirty.ensures.lists c.in_ok-dirty.ensures.each_once refl
