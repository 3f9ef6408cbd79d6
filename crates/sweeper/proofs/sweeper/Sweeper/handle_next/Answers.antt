use Rattle.sweeper.proofs.AnswerSteps.{may_handle, runs_first, runs_idle}
use Rattle.sweeper.proofs.sweeper.Sweeper.handle_next.Goals as goal

pub handle-requires-clause-may : goal.handle-requires-clause-may
handle-requires-clause-may c =
    may_handle _ c.args.self.now c.in-Some.message c.next.new.self c.self.view_is c.in-Some.ensures
    c.requires.ready

pub returns-in-None-clause-runs : goal.returns-in-None-clause-runs
returns-in-None-clause-runs c =
    runs_idle _ c.args.self.now c.next.new.self c.self.view_is c.in-None.ensures

pub returns-in_ok-handle-in-Some-clause-runs : goal.returns-in_ok-handle-in-Some-clause-runs
returns-in_ok-handle-in-Some-clause-runs c =
    runs_first _ c.args.self.now c.handle.new.self c.in-Some.message c.next.new.self c.self.view_is
    c.in-Some.ensures c.in_ok-handle-in-Some.ensures.handled
