use Rattle.heap_store.proofs.Getting.{byte_got}
use Rattle.heap_store.proofs.fields.field.Goals as goal

pub returns-in-Bytes : goal.returns-in-Bytes
returns-in-Bytes c = byte_got _ c.args.index _ _ _ _ c.from.ensures c.to_le_bytes-bytes.ensures c.word.ensures c.requires.start c.kind.ensures.value c.in-Bytes.is
