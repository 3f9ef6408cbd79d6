use Rattle.std.proofs.Common.{arith}
use Rattle.directory.proofs.Spanning.{spans_hull}
use Rattle.directory.proofs.reach.Reach.with.Goals as goal

pub returns-else-other : goal.returns-else-other
returns-else-other c =
    spans_hull c.args.self c.args.other _ (omega arith) (omega arith) c.min.ensures c.max.ensures
