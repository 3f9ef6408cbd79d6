use Rattle.std.proofs.Common.{refl, subst}
use Rattle.sweep_share.specs.Shares.{IsPairOf}
use Rattle.sweeper.specs.Sweepers.{CanKeep, FieldDone, IsKeptNow, in_hand}
use Rattle.sweeper.proofs.Fielding.{goes_to_target, own_done}
use Rattle.sweeper.proofs.InHand.{puts_in_hand}
use Rattle.sweeper.proofs.sweeper.Sweeper.sweep_cdr.Goals as goal

pub returns-in_default-clause-done : goal.returns-in_default-clause-done
returns-in_default-clause-done c =
    subst (FieldDone c.args.self.now c.sweep_field.new.self c.args.pair.object c.args.pair.copy) c.requires.index
    c.in_ok-sweep_field.ensures

pub copy_taken-requires-clause-pair : goal.copy_taken-requires-clause-pair
copy_taken-requires-clause-pair c =
    let may : CanKeep c.args.self.now c.args.asked.target = c.requires.own c.in-Some.ensures.own in
    (may.start, may.here, (subst (λ o. IsPairOf o c.in-Some.car c.in-Some.cdr) may.here c.in-Some.ensures.pair).0)

pub returns-clause-done : goal.returns-clause-done
returns-clause-done c =
    let may : CanKeep c.args.self.now c.args.asked.target = c.requires.own c.in-Some.ensures.own in
    own_done c.args.self.now (in_hand c.copy_taken.new.self c.args.asked.target c.in_ok-place.place)
    (in_hand c.put.new.self c.args.asked.target c.in_ok-place.place) c.args.pair.object c.args.pair.copy 1 c.args.asked.target
    c.in_ok-place.place c.args.asked.refers may c.requires.target (IsKeptNow c.in_ok-place.ensures)
    (goes_to_target c.args.self.now c.args.self.now.places.directory c.args.asked.target c.args.asked.refers c.args.asked.found may
    refl c.requires.found c.requires.refers)
    (puts_in_hand c.copy_taken.new.self c.put.new.self _ _ _ _ c.args.asked.target c.in_ok-place.place c.put.ensures)
