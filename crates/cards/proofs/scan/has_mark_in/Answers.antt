use Rattle.std.proofs.Common.{◌∙◌, arith}
use Rattle.cards.proofs.Marks.{has_mark_is}
use Rattle.cards.proofs.scan.has_mark_in.Goals as goal

pub returns : goal.returns
returns c = c.is_some.ensures ∙ has_mark_is _ _ c.next_dirty_in.ensures.dirty c.next_dirty_in.ensures.none (λ k. omega (arith, c.type_inv.bytes k))
