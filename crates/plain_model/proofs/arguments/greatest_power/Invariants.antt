use Rattle.std.proofs.Common.{◌≡◌}
use Rattle.trace_types.specs.Collections.{greatest_power}
use Rattle.plain_model.proofs.arguments.greatest_power.Given as goal

abbrev pub invariant-loop-exponent : goal.invariant-loop-exponent
invariant-loop-exponent l = greatest_power l.n l.exponent ≡ greatest_power l.n l.limit

abbrev pub decreases-loop-exponent : goal.decreases-loop-exponent
decreases-loop-exponent l = l.exponent
