use Rattle.plain_model.proofs.Printing.{byte_here}
use Rattle.plain_model.proofs.print.push_bytes.Goals as goal

pub push_byte-requires : goal.push_byte-requires
push_byte-requires c = byte_here c.args.bytes.now c.loop-byte.byte-index _ c.requires c.loop-byte-test.true
