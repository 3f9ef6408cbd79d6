use Rattle.std.proofs.Common.{subst}
use Rattle.sweeper.specs.Sweepers.{FieldDone, SweeperView}
use Rattle.sweeper.proofs.HalfPairs.{car_asks, car_copy, car_keeps, not_swept, was_swept}
use Rattle.sweeper.proofs.sweeper.Sweeper.sweep_car.Goals as goal

pub returns-then-begun-clause-done : goal.returns-then-begun-clause-done
returns-then-begun-clause-done c = λ u half. was_swept u c.args.self.now c.args.begun.now half c.if-begun.true

pub sweep_word-requires-clause-asks : goal.sweep_word-requires-clause-asks
sweep_word-requires-clause-asks c =
    let h = c.requires.begun in
    car_asks c.args.self.now c.args.begun.now h.before h.ready h.halfway c.args.directory.now c.requires.same
    c.if-begun.false

pub sweep_word-requires-clause-field : goal.sweep_word-requires-clause-field
sweep_word-requires-clause-field c =
    let h = c.requires.begun in
    car_copy c.args.self.now c.args.begun.now h.before h.ready h.halfway c.args.directory.now c.requires.same
    c.if-begun.false

pub sweep_word-requires-clause-own : goal.sweep_word-requires-clause-own
sweep_word-requires-clause-own c =
    let h = c.requires.begun in
    car_keeps c.args.self.now c.args.begun.now h.before h.ready h.halfway c.args.directory.now c.requires.same
    c.if-begun.false

pub returns-clause-done : goal.returns-clause-done
returns-clause-done c = λ u half.
    let pair = c.args.begun.now.pair in
    subst (λ (z : SweeperView). FieldDone z c.sweep_word.new.self pair.object pair.copy 0)
    (not_swept u c.args.self.now c.args.begun.now half c.if-begun.false) c.in_ok-sweep_word.ensures.done
