use Rattle.std.proofs.Common.{ap, not, ◌∙◌}
use Rattle.territory.specs.Following.{trail}
use Rattle.territory.proofs.Ending.{car_told, stuck}
use Rattle.territory.proofs.territory.Territory.sweep_car.Goals as goal

pub returns-in-None-clause-ends : goal.returns-in-None-clause-ends
returns-in-None-clause-ends c = λ _. (
  c.if-end.false,
  stuck (trail c.args.self.now c.args.places.now c.args.log.now.own.items c.reserve.new.self.items) (trail c.reach.new.self c.reach.new.places c.reach.new.log.own.items c.reach.new.log.waiting.items)
      c.args.end.object c.pair_word.result c.object_in.result c.in_ok-reached.field-0 (c.is_none.ensures ∙ ap not c.if-is_none.false) c.object_in.ensures.some c.pair_word.ensures.word
      c.in_ok-reached.ensures.same c.in_ok-reached.ensures.none c.in-None.is,
)

pub returns-in-Some-clause-swept : goal.returns-in-Some-clause-swept
returns-in-Some-clause-swept c = λ _.
    car_told c.args.self.now c.reach.new.self c.args.places.now c.reach.new.places c.args.log.now.own.items c.reach.new.log.own.items c.reserve.new.self.items c.reach.new.log.waiting.items c.args.log.now.waiting.items _
    c.args.end.object c.args.end.copy c.args.end.car_swept c.in_ok-reached.field-0 c.in-Some.reached
    c.requires.copy c.in_ok-reached.ensures.reached c.in-Some.is c.if-end.false
    c.reserve.ensures.items (ap (λ v. v.items) c.reach.ensures.waiting) c.push_reserved.ensures.items
