use Rattle.std.proofs.Common.{sym, subst}
use Rattle.std.proofs.lemmas.Result.{on_ok_weaker}
use Rattle.sweeper.specs.Ready.{Handles, MayHandle}
use Rattle.sweeper.proofs.WorldMail.{answered_handles, learned_handles, may_answer, may_learn}
use Rattle.sweeper.proofs.sweeper.Sweeper.handle.Goals as goal

pub answer-requires-clause-may : goal.answer-requires-clause-may
answer-requires-clause-may c =
    (may_answer c.args.self.now c.in-Forward.target c.in-Forward.back
    (subst (MayHandle c.args.self.now) c.in-Forward.is c.requires.may)).0

pub answer-requires-clause-word : goal.answer-requires-clause-word
answer-requires-clause-word c =
    (may_answer c.args.self.now c.in-Forward.target c.in-Forward.back
    (subst (MayHandle c.args.self.now) c.in-Forward.is c.requires.may)).2

pub learn-requires-clause-word : goal.learn-requires-clause-word
learn-requires-clause-word c =
    may_learn c.args.self.now c.in-Moved.back c.in-Moved.new
    (subst (MayHandle c.args.self.now) c.in-Moved.is c.requires.may)

pub returns-in-Forward-clause-handled : goal.returns-in-Forward-clause-handled
returns-in-Forward-clause-handled c =
    on_ok_weaker c.answer.result
    (λ a. subst (λ m. Handles c.args.self.now m c.answer.new.self) (sym c.in-Forward.is)
    (answered_handles c.args.self.now c.answer.new.self c.in-Forward.target c.in-Forward.back a))
    c.answer.ensures

pub returns-in-Moved-clause-handled : goal.returns-in-Moved-clause-handled
returns-in-Moved-clause-handled c =
    subst (λ m. Handles c.args.self.now m c.learn.new.self) (sym c.in-Moved.is)
    (learned_handles c.args.self.now c.learn.new.self c.in-Moved.back c.in-Moved.new c.learn.ensures)
