use Rattle.gc_mail.proofs.Delivered.{delivered_push, length-all_of-push}
use Rattle.std.proofs.Common.{arith}
use Rattle.gc_mail.proofs.delivery.exchange.Goals as goal

pub loop-outbox-preserved : goal.loop-outbox-preserved
loop-outbox-preserved g c =
    let more = length-all_of-push c.loop-outbox.yielded c.in-Some.outbox in
    let before = c.loop-outbox.invariant.2 in
    let mail = c.in_ok-deliver_all.ensures.mail in (
      omega (arith, c.in_ok-deliver_all.ensures.count),
      delivered_push _ c.loop-outbox.yielded c.in-Some.outbox _ (c.in_ok-deliver_all.ensures.delivered _ c.loop-outbox.invariant.1),
      omega (arith, more, before, mail),
    )
