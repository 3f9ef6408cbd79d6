use Rattle.std.proofs.Common.{arith}
use Rattle.territory.proofs.Nexts.{none_if}
use Rattle.territory.proofs.Fromward.{first_here, first_later, first_never}
use Rattle.territory.proofs.pool.Pool.first_from.Goals as goal

pub returns-then-is_some : goal.returns-then-is_some
returns-then-is_some c = first_here _ _ _ _ _ _ c.self.view_is c.loop-later.invariant.rest c.loop-later-test.true c.from.ensures c.first-first.ensures c.if-is_some.ensures

pub loop-later-preserved : goal.loop-later-preserved
loop-later-preserved c = record {
  rest = first_later _ _ _ _ _ _ c.self.view_is c.loop-later.invariant.rest c.loop-later-test.true c.from.ensures c.first-first.ensures (none_if _ c.if-is_some.ensures);
  few = omega (arith, c.loop-later-test.true);
}

pub returns : goal.returns
returns c = first_never _ c.args.generation c.loop-later.later c.loop-later.invariant.rest (omega (arith, c.loop-later-test.false))
