use Rattle.territory.proofs.Growing.{settled_push}
use Rattle.territory.proofs.pool.Pool.add_segment.Goals as goal
use Rattle.std.proofs.Common.{arith}

pub returns-clause-settled : goal.returns-clause-settled
returns-clause-settled c = settled_push _ _ _ _ _ c.self.view_is c.requires.settled c.requires.room (omega arith)
    c.link_more.ensures.chains c.link_more.ensures.links c.link_more.ensures.each_once c.link_more.ensures.dirty (omega (arith, c.in_ok-link_more.ensures.ok)) c.in_ok-push.ensures.items c.in_ok-segment.ensures
