use Rattle.territory.proofs.Allocated.{new_view}
use Rattle.territory.proofs.territory.Territory.new.Goals as goal

pub returns : goal.returns
returns c = new_view c.args.thread c.in_ok-pool.pool c.in_ok-pool.ensures.segments c.in_ok-pool.ensures.areas c.in_ok-pool.ensures.lists c.in_ok-pool.ensures.dirty
