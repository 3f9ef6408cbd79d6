use Rattle.std.proofs.Common.{subst, sym, arith}
use Rattle.heap_print.specs.Notes.{AreNoted}
use Rattle.heap_print.proofs.Noted.{notes_same, row_made}
use Rattle.heap_print.proofs.numbers.make_row.Goals as goal

pub returns-in-Ok-clause-noted : goal.returns-in-Ok-clause-noted
returns-in-Ok-clause-noted c = λ words noted.
    let room = c.in_ok-make_room.ensures in
    row_made words c.args.blocks.now.keys _ _ c.args.block (notes_same words _ _ _ noted room.more room.same) (omega (arith, room.room, c.len.ensures.len)) c.in-Ok.ensures.keys

pub returns-in-Err-clause-noted : goal.returns-in-Err-clause-noted
returns-in-Err-clause-noted c = λ words noted.
    let room = c.in_ok-make_room.ensures in
    subst (λ blocks. AreNoted words blocks c.make_room.new.rows.items) (sym c.in-Err.ensures.err) (notes_same words _ _ _ noted room.more room.same)
