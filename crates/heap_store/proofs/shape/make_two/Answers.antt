use Rattle.heap_store.proofs.Filling.{is_fresh, first_room, second_room, two_made}
use Rattle.heap_store.proofs.shape.make_two.Goals as goal

pub put-requires : goal.put-requires
put-requires c = first_room _ _ _ _ _ (is_fresh _ _ _ c.args.kind 2 c.args.line _ _ _ c.in_ok-at.ensures.address c.in_ok-at.ensures.free c.in_ok-at.ensures.starts c.in_ok-at.ensures.segments c.in_ok-at.ensures.sound c.in_ok-at.ensures.thread) c.requires.sized.1

pub put-requires-2 : goal.put-requires-2
put-requires-2 c = second_room _ _ _ _ _ _ _ _ (is_fresh _ _ _ c.args.kind 2 c.args.line _ _ _ c.in_ok-at.ensures.address c.in_ok-at.ensures.free c.in_ok-at.ensures.starts c.in_ok-at.ensures.segments c.in_ok-at.ensures.sound c.in_ok-at.ensures.thread) c.requires.sized.1 c.put.ensures.after

pub returns : goal.returns
returns c = two_made _ _ _ _ _ _ _ _ _ _ (is_fresh _ _ _ c.args.kind 2 c.args.line _ _ _ c.in_ok-at.ensures.address c.in_ok-at.ensures.free c.in_ok-at.ensures.starts c.in_ok-at.ensures.segments c.in_ok-at.ensures.sound c.in_ok-at.ensures.thread) c.requires.sized.1 c.put.ensures.after c.put.ensures.sound c.put-2.ensures.after c.put-2.ensures.sound
