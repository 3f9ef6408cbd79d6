use Rattle.std.proofs.Common.{ap, ◌∙◌, cond, arith}
use Rattle.territory.specs.Pools.{is_cell_space}
use Rattle.territory.proofs.Grown.{cells_fit, at_most_one}
use Rattle.territory.proofs.Copied.{settled_copied}
use Rattle.territory.proofs.pool.Pool.copy.Goals as goal

pub overflow_add-self : goal.overflow_add-self
overflow_add-self c = omega (arith, cells_fit _ _ c.self.view_is c.requires.settled, at_most_one _ _ c.cells_of-cells.ensures)

pub returns-clause-settled : goal.returns-clause-settled
returns-clause-settled c = settled_copied _ _ _ _ _ _ _ _ _ c.self.view_is c.requires.settled c.requires.start c.requires.size_is c.requires.within c.requires.used c.requires.space c.requires.room
    c.copy_start-offset.ensures.after c.index.ensures (c.cells_of-cells.ensures ∙ ap (λ s. cond (is_cell_space s) 1 0) c.space.ensures)
