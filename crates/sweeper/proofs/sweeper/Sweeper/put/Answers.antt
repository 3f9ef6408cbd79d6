use Rattle.sweeper.proofs.Kept.{puts}
use Rattle.sweeper.proofs.sweeper.Sweeper.put.Goals as goal

pub returns : goal.returns
returns c = puts _ c.args.self.now c.args.at c.args.index c.args.place c.args.refers c.encode.result _ c.self.view_is c.put.ensures c.encode.ensures.round_trip
