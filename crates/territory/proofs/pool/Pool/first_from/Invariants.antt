use Rattle.std.proofs.Common.{◌≡◌, ◌≤◌}
use Rattle.territory.specs.Territories.{from_on}
use Rattle.territory.proofs.pool.Pool.first_from.Given as goal

abbrev pub invariant-loop-later : goal.invariant-loop-later
invariant-loop-later l = record { rest : from_on l.self.lists l.later ≡ from_on l.self.lists l.generation; few : l.later ≤ 9 }
