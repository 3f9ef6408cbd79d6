-- The tests are those of the definition, in its order.
use Rattle.std.proofs.Common.{rules, tests}
use Rattle.collector.proofs.arguments.are_allowed.Goals as goal

pub returns-else-min-eq-STATIC : goal.returns-else-min-eq-STATIC
returns-else-min-eq-STATIC c = search (tests, rules)
