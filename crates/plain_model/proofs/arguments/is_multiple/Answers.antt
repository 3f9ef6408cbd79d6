use Rattle.std.proofs.Common.{arith}
use Rattle.plain_model.proofs.Powers.{power_positive, too_great}
use Rattle.plain_model.proofs.arguments.is_multiple.Goals as goal

pub nonzero_rem-result : goal.nonzero_rem-result
nonzero_rem-result c = rw (c.in-Some.ensures.1, c.from.ensures) (power_positive c.args.exponent)

pub returns-in-None : goal.returns-in-None
returns-in-None c =
    let above = rw c.from.ensures at c.in-None.ensures in
    too_great c.args.n c.args.exponent (omega (arith, above))
