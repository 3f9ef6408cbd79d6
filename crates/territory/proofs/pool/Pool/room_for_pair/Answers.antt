use Rattle.std.proofs.Common.{ap, ◌*◌, ◌+◌, arith}
use Rattle.territory.proofs.Roomy.{room_open}
use Rattle.territory.proofs.pool.Pool.room_for_pair.Goals as goal

pub returns-in-Some-clause-ok : goal.returns-in-Some-clause-ok
returns-in-Some-clause-ok c = room_open _ _ _ _ _ _ _ c.requires.settled c.in-Some.ensures c.index.ensures.value c.index.ensures.range c.requires.generation_in
    (ap (λ v. c.index.result * 9 + v) c.from.ensures) (omega arith)
