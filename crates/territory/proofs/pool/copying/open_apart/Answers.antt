use Rattle.territory.proofs.Large.{opened_up, opened_down}
use Rattle.territory.proofs.pool.copying.open_apart.Goals as goal

pub returns-then-from-n-clause-ok : goal.returns-then-from-n-clause-ok
returns-then-from-n-clause-ok c = opened_up _ _ _ _ _ _ _ _ _ _ c.split_at_mut-front.ensures.value c.split_at_mut-front.ensures.front_len c.requires.within c.if-from-n.true c.open_copy.ensures.ok

pub returns-else-from-n-clause-ok : goal.returns-else-from-n-clause-ok
returns-else-from-n-clause-ok c =
    opened_down _ _ _ _ _ _ _ _ _ _ c.split_at_mut-front-else-from-n.ensures.value c.split_at_mut-front-else-from-n.ensures.front_len c.requires.start c.requires.free c.if-from-n.false c.open_copy-else-from-n.ensures.ok
