use Rattle.territory.proofs.Nexts.{none_if}
use Rattle.territory.proofs.Fromward.{told_inside, told_beyond}
use Rattle.territory.proofs.pool.Pool.next_from.Goals as goal

pub returns-then-is_some : goal.returns-then-is_some
returns-then-is_some c = told_inside _ _ _ _ c.self.view_is c.requires.settled c.requires.aside c.next-next.ensures c.if-is_some.ensures

pub returns : goal.returns
returns c = told_beyond _ _ _ _ _ _ _ c.self.view_is c.requires.settled c.requires.aside c.next-next.ensures (none_if _ c.if-is_some.ensures) c.index.ensures c.generation-generation.ensures c.first_from.ensures
