use Rattle.sweeper.proofs.AnswerSteps.{ready_after}
use Rattle.sweeper.proofs.WorldMail.{runs_on}
use Rattle.sweeper.proofs.sweeper.Sweeper.work_on.Goals as goal

pub sweep_all-requires-clause-ready : goal.sweep_all-requires-clause-ready
sweep_all-requires-clause-ready c =
    ready_after c.args.self.now c.handle_some.new.self c.requires.ready c.in_ok-more.ensures.runs

pub returns-clause-runs : goal.returns-clause-runs
returns-clause-runs c =
    runs_on c.args.self.now c.handle_some.new.self c.sweep_all.new.self c.in_ok-more.ensures.runs
    c.in_ok-sweep_all.ensures.runs
