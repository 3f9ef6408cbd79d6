use Rattle.std.proofs.Common.{refl, length, arith}
use Rattle.plain_model.proofs.Concluding.{round_begun, round_more}
use Rattle.plain_model.proofs.rounds.round.Goals as goal

pub loop-left-init : goal.loop-left-init
loop-left-init c =
    (round_begun c.args.set.now c.args.rules.now (length c.args.rules.now) (omega arith), omega arith)

pub loop-left-preserved : goal.loop-left-preserved
loop-left-preserved c = (
  round_more c.args.set.now c.loop-left.set c.conclude.new.set c.loop-left.added c.in_ok-more.more _ c.args.rules.now
      c.loop-left.left _ c.index-rules-left.result c.loop-left.invariant.0 (omega arith) (omega arith) c.index-rules-left.is
      c.in_ok-more.ensures.added c.in_ok-more.ensures.set refl,
  omega arith,
)
