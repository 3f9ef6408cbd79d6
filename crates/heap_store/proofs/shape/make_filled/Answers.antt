use Rattle.std.proofs.Common.{arith}
use Rattle.heap_store.proofs.Filling.{is_fresh, young_there, filled_made}
use Rattle.heap_store.proofs.shape.make_filled.Goals as goal

pub fill-requires : goal.fill-requires
fill-requires c = young_there _ _ _ _ _ _ _ (is_fresh _ _ _ c.args.kind c.args.length c.args.line _ _ _ c.in_ok-at.ensures.address c.in_ok-at.ensures.free c.in_ok-at.ensures.starts c.in_ok-at.ensures.segments c.in_ok-at.ensures.sound c.in_ok-at.ensures.thread) (omega (arith, c.requires.sized.1))

pub returns : goal.returns
returns c = filled_made _ _ _ _ _ _ _ _ (is_fresh _ _ _ c.args.kind c.args.length c.args.line _ _ _ c.in_ok-at.ensures.address c.in_ok-at.ensures.free c.in_ok-at.ensures.starts c.in_ok-at.ensures.segments c.in_ok-at.ensures.sound c.in_ok-at.ensures.thread) c.requires.sized.1 c.fill.ensures
