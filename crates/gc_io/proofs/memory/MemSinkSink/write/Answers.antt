use Rattle.std.proofs.Common.{◌≡◌, take, ap, sym, arith}
use Rattle.std.proofs.lemmas.Grind.{common_steps}
use Rattle.gc_io.specs.Memory.{SinkState}
use Rattle.gc_io.proofs.memory.MemSinkSink.write.Goals as goal

pub returns-clause-bytes : goal.returns-clause-bytes
returns-clause-bytes c =
    let before : c.args.self.now.written ≡ take c.self.inside.count c.self.inside.bytes.items =
    ap (λ (s : SinkState). s.written) (sym c.self.view_is) in
    rw before (grind (arith, common_steps))
