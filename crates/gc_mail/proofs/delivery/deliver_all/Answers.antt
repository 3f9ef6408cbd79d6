use Rattle.gc_mail.proofs.Delivered.{up_to-none, up_to-more}
use Rattle.std.proofs.Common.{arith, rules}
use Rattle.gc_mail.proofs.delivery.deliver_all.Goals as goal

pub loop-message-init : goal.loop-message-init
loop-message-init g c = (search rules, up_to-none _ _ _ _ _ (search rules))

pub loop-message-preserved : goal.loop-message-preserved
loop-message-preserved g c =
    let put = c.in_ok-deliver.ensures.delivered in
    let before = c.loop-message.invariant.1 in (
      omega (arith, c.in_ok-deliver.ensures.count),
      up_to-more _ _ _ _ c.in-Some.message _ _ _ _ _ _ c.in-Some.ensures.steps put c.tick.ensures before,
    )
