use Rattle.territory.proofs.Copied.{copied_up, copied_down}
use Rattle.territory.proofs.pool.copying.copy_apart.Goals as goal

pub returns-then-from-n-clause-after : goal.returns-then-from-n-clause-after
returns-then-from-n-clause-after c = copied_up _ _ _ _ _ _ _ _ _ c.split_at_mut-front.ensures.value c.split_at_mut-front.ensures.front_len c.requires.within c.if-from-n.true c.copy_from.ensures.after

pub returns-else-from-n-clause-after : goal.returns-else-from-n-clause-after
returns-else-from-n-clause-after c = copied_down _ _ _ _ _ _ _ _ _ c.split_at_mut-front-else-from-n.ensures.value c.split_at_mut-front-else-from-n.ensures.front_len c.requires.start c.requires.apart c.if-from-n.false c.copy_from-else-from-n.ensures.after
