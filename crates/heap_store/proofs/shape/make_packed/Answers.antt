use Rattle.std.proofs.Common.{arith}
use Rattle.heap_store.proofs.Filling.{is_fresh, young_there, packed_whole, last_within, packed_part}
use Rattle.heap_store.proofs.shape.make_packed.Goals as goal

pub fill-requires : goal.fill-requires
fill-requires c = young_there _ _ _ _ _ _ _ (is_fresh _ _ _ c.args.kind c.args.length c.args.line _ _ _ c.in_ok-at.ensures.address c.in_ok-at.ensures.free c.in_ok-at.ensures.starts c.in_ok-at.ensures.segments c.in_ok-at.ensures.sound c.in_ok-at.ensures.thread) (omega (arith, c.requires.sized.1))

pub returns-then-length-eq0 : goal.returns-then-length-eq0
returns-then-length-eq0 c = packed_whole _ _ _ _ _ _ _ _ _ c.if-length-eq0.true c.pack-whole.ensures (is_fresh _ _ _ c.args.kind c.args.length c.args.line _ _ _ c.in_ok-at.ensures.address c.in_ok-at.ensures.free c.in_ok-at.ensures.starts c.in_ok-at.ensures.segments c.in_ok-at.ensures.sound c.in_ok-at.ensures.thread) c.requires.sized.1 c.fill.ensures

pub put-requires : goal.put-requires
put-requires c = last_within _ _ _ _ _ _ _ _ _ c.if-length-eq0.false c.pack-whole.ensures (is_fresh _ _ _ c.args.kind c.args.length c.args.line _ _ _ c.in_ok-at.ensures.address c.in_ok-at.ensures.free c.in_ok-at.ensures.starts c.in_ok-at.ensures.segments c.in_ok-at.ensures.sound c.in_ok-at.ensures.thread) c.requires.sized.1 c.fill.ensures

pub returns : goal.returns
returns c = packed_part _ _ _ _ _ _ _ _ _ c.if-length-eq0.false c.pack-whole.ensures (is_fresh _ _ _ c.args.kind c.args.length c.args.line _ _ _ c.in_ok-at.ensures.address c.in_ok-at.ensures.free c.in_ok-at.ensures.starts c.in_ok-at.ensures.segments c.in_ok-at.ensures.sound c.in_ok-at.ensures.thread) c.requires.sized.1 c.fill.ensures _ _ _ c.pack-rest.ensures c.put.ensures.after c.put.ensures.sound
