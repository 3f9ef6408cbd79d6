use Rattle.std.proofs.Common.{ap, ◌∙◌, cond, arith}
use Rattle.territory.specs.Pools.{is_cell_space}
use Rattle.territory.proofs.Grown.{cells_fit, at_most_one, settled_grown}
use Rattle.territory.proofs.pool.Pool.grow.Goals as goal

pub overflow_add-self : goal.overflow_add-self
overflow_add-self c = omega (arith, cells_fit _ _ c.self.view_is c.requires.settled, at_most_one _ _ c.cells_of-cells.ensures)

pub returns-clause-settled : goal.returns-clause-settled
returns-clause-settled c = settled_grown _ _ _ _ _ _ _ _ _ _ c.self.view_is c.requires.settled c.requires.within c.requires.used c.requires.room c.requires.size_is c.requires.born c.requires.bare c.requires.has_length
    c.index_mut.ensures.value c.grow-offset.ensures.after c.index.ensures (c.cells_of-cells.ensures ∙ ap (λ s. cond (is_cell_space s) 1 0) c.space.ensures)
