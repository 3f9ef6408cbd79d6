use Rattle.sweeper.proofs.AnswerSteps.{ready_after}
use Rattle.sweeper.proofs.WorldMail.{runs_none, runs_on}
use Rattle.sweeper.proofs.sweeper.Sweeper.work.Goals as goal

pub loop-init : goal.loop-init
loop-init c = runs_none c.args.self.now

pub work_on-requires-clause-ready : goal.work_on-requires-clause-ready
work_on-requires-clause-ready c =
    ready_after c.args.self.now c.loop.self c.requires.ready c.loop.invariant

pub loop-preserved : goal.loop-preserved
loop-preserved c =
    runs_on c.args.self.now c.loop.self c.work_on.new.self c.loop.invariant
    c.in_ok-work_on.ensures.runs

pub returns-clause-runs : goal.returns-clause-runs
returns-clause-runs c =
    runs_on c.args.self.now c.loop.self c.work_on.new.self c.loop.invariant
    c.in_ok-work_on.ensures.runs
