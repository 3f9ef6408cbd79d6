use Rattle.std.proofs.Common.{refl, ◌∙◌}
use Rattle.sweeper.proofs.AnswerSteps.{ready_after}
use Rattle.sweeper.proofs.WorldMail.{runs_none, runs_on}
use Rattle.sweeper.proofs.sweeper.Sweeper.sweep_all.Goals as goal

pub loop-init : goal.loop-init
loop-init c = record { runs = runs_none c.args.self.now; inbox = refl; near = c.none-near.ensures c.args.directory.now }

pub sweep_next-requires-clause-ready : goal.sweep_next-requires-clause-ready
sweep_next-requires-clause-ready c =
    ready_after c.args.self.now c.loop.self c.requires.ready c.loop.invariant.runs

pub loop-preserved : goal.loop-preserved
loop-preserved c = record {
  runs = runs_on c.args.self.now c.loop.self c.sweep_next.new.self c.loop.invariant.runs c.in_ok-sweep_next.ensures.runs;
  inbox = c.in_ok-sweep_next.ensures.inbox ∙ c.loop.invariant.inbox;
  near = c.in_ok-sweep_next.ensures.near;
}

pub returns-clause-runs : goal.returns-clause-runs
returns-clause-runs c =
    runs_on c.args.self.now c.loop.self c.sweep_next.new.self c.loop.invariant.runs c.in_ok-sweep_next.ensures.runs
