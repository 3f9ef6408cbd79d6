use Rattle.std.proofs.Common.{arith}
use Rattle.territory.proofs.Roomy.{area_read, open_within, open_found}
use Rattle.territory.proofs.pool.Pool.open_room.Goals as goal

pub index-requires-2 : goal.index-requires-2
index-requires-2 c = omega (arith, open_within _ _ _ _ c.self.view_is c.requires.settled (area_read _ _ _ _ _ c.self.view_is c.requires.settled c.requires.area_in c.index.ensures c.in_ok-n.was))

pub returns-then-has_room : goal.returns-then-has_room
returns-then-has_room c = open_found _ _ _ _ _ _ c.self.view_is c.requires.settled (area_read _ _ _ _ _ c.self.view_is c.requires.settled c.requires.area_in c.index.ensures c.in_ok-n.was)
    c.index-2.ensures (c.has_room.ensures.0 c.if-has_room.true)
