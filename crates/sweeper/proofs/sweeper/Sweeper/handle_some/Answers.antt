use Rattle.std.proofs.Common.{arith}
use Rattle.sweeper.proofs.AnswerSteps.{ready_after}
use Rattle.sweeper.proofs.WorldMail.{runs_none, runs_on}
use Rattle.sweeper.proofs.sweeper.Sweeper.handle_some.Goals as goal

pub loop-init : goal.loop-init
loop-init c = record { runs = runs_none c.args.self.now; handled = omega (arith) }

pub handle_next-requires-clause-ready : goal.handle_next-requires-clause-ready
handle_next-requires-clause-ready c =
    ready_after c.args.self.now c.loop.self c.requires.ready c.loop.invariant.runs

pub loop-preserved : goal.loop-preserved
loop-preserved c = record {
  runs = runs_on c.args.self.now c.loop.self c.handle_next.new.self c.loop.invariant.runs c.in_ok-handle_next.ensures.runs;
  handled = omega (arith, c.loop.invariant.handled, c.in_ok-handle_next.ensures.more);
}

pub returns-then-not-branch-clause-runs : goal.returns-then-not-branch-clause-runs
returns-then-not-branch-clause-runs c =
    runs_on c.args.self.now c.loop.self c.handle_next.new.self c.loop.invariant.runs
    c.in_ok-handle_next.ensures.runs
