-- No power above m divides the number.
use Rattle.std.proofs.Common.{◌≡◌, ◌≤◌}
use Rattle.trace_types.specs.Collections.{greatest_power}
use Rattle.collector.proofs.arguments.greatest_power.Given as goal

abbrev pub invariant-loop-m : goal.invariant-loop-m
invariant-loop-m l = record {
  same : greatest_power l.number l.m ≡ greatest_power l.number l.fn.oldest;
  most : l.m ≤ l.fn.oldest;
}

abbrev pub decreases-loop-m : goal.decreases-loop-m
decreases-loop-m l = l.m
