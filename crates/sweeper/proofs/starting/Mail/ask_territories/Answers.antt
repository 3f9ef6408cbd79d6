use Rattle.std.proofs.Common.{◌<◌, ◌≡◌, length, subst, arith}
use Rattle.sweeper.proofs.AskedOlds.{AreAllWalked, all_first, all_next}
use Rattle.sweeper.proofs.starting.Mail.ask_territories.Goals as goal

pub loop-i-init : goal.loop-i-init
loop-i-init c = all_first c.args.share.now c.args.self.now c.args.directory.now

pub loop-i-preserved : goal.loop-i-preserved
loop-i-preserved c =
    let within : c.loop-i.i < length c.args.share.now.territories =
    omega (arith, c.loop-i-test.true, c.len-i-end.ensures) in
    all_next c.args.share.now c.args.self.now c.loop-i.self c.ask_territory.new.self c.args.directory.now
    c.loop-i.i
    c.territory.result.now c.requires within c.territory.ensures c.loop-i.invariant
    c.in_ok-ask_territory.ensures.told
    c.in_ok-ask_territory.ensures.asked

pub returns : goal.returns
returns c =
    let all : c.loop-i.i ≡ length c.args.share.now.territories =
    omega (arith, c.loop-i-test.false, c.loop-i.auto.i-end, c.len-i-end.ensures) in
    let walked : AreAllWalked c.args.share.now c.args.self.now c.loop-i.self c.args.directory.now
    (length c.args.share.now.territories) =
    subst (AreAllWalked c.args.share.now c.args.self.now c.loop-i.self c.args.directory.now) all
    c.loop-i.invariant in
    record { asked = walked.asked; told = walked.told }
