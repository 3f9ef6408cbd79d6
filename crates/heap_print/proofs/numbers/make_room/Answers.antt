use Rattle.std.proofs.Common.{ap, ◌∙◌, slice_index}
use Rattle.heap_print.proofs.Noted.{zeros_more}
use Rattle.heap_print.proofs.numbers.make_room.Goals as goal

pub returns-clause-same : goal.returns-clause-same
returns-clause-same c = λ i. ap (λ rows. slice_index rows i) c.in_ok-extend_from_slice.ensures.items ∙ zeros_more c.args.rows.now.items 256 i
