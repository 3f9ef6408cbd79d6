use Rattle.sweeper.proofs.Asked.{asked_not, asked_itself, asked_other}
use Rattle.sweeper.proofs.starting.Mail.ask.Goals as goal

pub returns-then-not-collected : goal.returns-then-not-collected
returns-then-not-collected c =
    asked_not c.args.share.now c.args.self.now c.args.directory.now c.args.back c.args.target
    c.collected.result
    c.collected.ensures c.if-not-collected.true

pub returns-in_ok-add : goal.returns-in_ok-add
returns-in_ok-add c =
    asked_itself c.args.share.now c.args.self.now c.args.directory.now c.args.back c.args.target
    c.collected.result
    c.collected.ensures c.add.new.self c.is_own.result c.if-not-collected.false c.if-is_own.true
    c.is_own.ensures
    c.in_ok-add.ensures

pub returns-in_ok-send : goal.returns-in_ok-send
returns-in_ok-send c =
    asked_other c.args.share.now c.args.self.now c.args.directory.now c.args.back c.args.target
    c.collected.result
    c.collected.ensures c.send.new.self c.is_own.result c.if-not-collected.false c.if-is_own.false
    c.is_own.ensures
    c.in_ok-send.ensures.ok
