use Rattle.heap_store.proofs.PuttingFields.{byte_put}
use Rattle.heap_store.proofs.fields.put_byte.Goals as goal

pub returns : goal.returns
returns c = λ refers. byte_put _ _ _ c.args.index _ _ _ _ _ _ _ c.requires.start c.requires.bytes c.length.ensures.value c.if-index-length.false c.in-Some.ensures.1 c.in-Some.ensures.0 c.word.ensures c.to_le_bytes-bytes.ensures c.from_le_bytes.ensures c.put.ensures.after c.put.ensures.sound refers
