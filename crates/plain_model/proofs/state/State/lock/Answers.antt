use Rattle.std.proofs.Common.{arith}
use Rattle.plain_model.proofs.Parts.{count_below}
use Rattle.plain_model.proofs.state.State.lock.Goals as goal

pub overflow_add-count : goal.overflow_add-count
overflow_add-count c =
    let below = count_below c.args.line c.args.self.now c.in_ok-birth.birth c.requires.counts in
    omega arith
