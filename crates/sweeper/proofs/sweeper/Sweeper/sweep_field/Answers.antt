use Rattle.std.proofs.Common.{refl}
use Rattle.sweeper.specs.Sweepers.{CanKeep}
use Rattle.sweeper.proofs.Fielding.{foreign_done, goes_to_target, own_done, own_is}
use Rattle.sweeper.proofs.sweeper.Sweeper.sweep_field.Goals as goal

pub returns-then-not-is_own : goal.returns-then-not-is_own
returns-then-not-is_own c =
    foreign_done _ c.args.self.now c.args.object c.args.copy c.args.asked.index c.args.asked.target c.is_own.result _ c.self.view_is
    c.requires.target c.if-not-is_own.true c.is_own.ensures c.in_ok-send.ensures.ok

pub returns : goal.returns
returns c =
    let own = own_is _ c.args.self.now c.args.asked.target c.is_own.result c.self.view_is c.if-not-is_own.false c.is_own.ensures in
    let may : CanKeep c.args.self.now c.args.asked.target = c.requires.own own in
    own_done c.args.self.now c.keep.new.self c.put.new.self c.args.object c.args.copy c.args.asked.index c.args.asked.target
    c.in_ok-place.place c.args.asked.refers may c.requires.target c.in_ok-place.ensures
    (goes_to_target c.args.self.now c.args.self.now.places.directory c.args.asked.target c.args.asked.refers c.args.asked.found may
    refl c.requires.found c.requires.refers) c.put.ensures
