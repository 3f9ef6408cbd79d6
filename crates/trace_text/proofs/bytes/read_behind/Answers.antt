use Rattle.std.proofs.Common.{◌+◌, arith}
use Rattle.trace_text.proofs.Cuts.{behind, part}
use Rattle.trace_text.proofs.bytes.read_behind.Goals as goal

pub returns-clause-ok : goal.returns-clause-ok
returns-clause-ok g c =
    let held = part c.args.buffer.now c.args.from (c.args.from + c.args.count) in
    behind _ _ held c.move_to_front.new.bytes c.read.new.into c.args.count c.read.result c.move_to_front.ensures (omega arith) (omega arith) c.read.ensures.bytes
