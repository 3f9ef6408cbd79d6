use Rattle.std.proofs.Common.{◌∙◌, ap, not}
use Rattle.territory.proofs.Beginning.{settled_set_aside, none_aside}
use Rattle.territory.proofs.pool.Pool.set_generation_aside.Goals as goal

pub returns-clause-settled : goal.returns-clause-settled
returns-clause-settled c = settled_set_aside _ _ _ _ _ _ _ _ _ c.self.view_is c.requires.settled c.requires.generation_in c.from-list.ensures c.from.ensures c.set_list_aside.ensures c.close_areas-closed.ensures
    c.splice.ensures.lists c.splice.ensures.links c.splice.ensures.each_once

pub returns-then-is_none-clause-lists : goal.returns-then-is_none-clause-lists
returns-then-is_none-clause-lists c =
    (none_aside _ _ _ _ _ c.self.view_is c.requires.settled c.from-list.ensures c.first.ensures (c.is_none.ensures ∙ ap not c.if-is_none.true)).0

pub returns-then-is_none-clause-areas : goal.returns-then-is_none-clause-areas
returns-then-is_none-clause-areas c =
    (0, (none_aside _ _ _ _ _ c.self.view_is c.requires.settled c.from-list.ensures c.first.ensures (c.is_none.ensures ∙ ap not c.if-is_none.true)).1)
