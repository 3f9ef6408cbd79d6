use Rattle.std.proofs.lemmas.Result.{on_ok_weaker}
use Rattle.sweeper.proofs.Rounds.{round_runs}
use Rattle.sweeper.proofs.sweeper.Sweeper.round.Goals as goal

pub returns-else-is_err-clause-runs : goal.returns-else-is_err-clause-runs
returns-else-is_err-clause-runs g c =
    on_ok_weaker c.work-worked.result
    (round_runs _ c.args.self.now c.work-worked.new.self c.self-2.view_is c.requires.ready) c.work-worked.ensures.runs
