use Rattle.std.proofs.Common.{◌≡◌, IfSome, IfNone, refl, sym, ap, subst}
use Rattle.std.specs.FinMap.{get}
use Rattle.territory.specs.Following.{CanReach, IsReached, IsTrailEnd, trail}
use Rattle.territory.proofs.Ending.{under_start, under_copy, under_open, under_swept, under_more, under_less, under_trail, under_left, under_same, left_same}
use Rattle.territory.proofs.territory.Territory.follow.Goals as goal

pub loop-end-init : goal.loop-end-init
loop-end-init c = (under_start _ _ _ c.requires.object c.requires.copy, c.requires.places, c.requires.count)

pub returns-in_err-end-clause-anyhow : goal.returns-in_err-end-clause-anyhow
returns-in_err-end-clause-anyhow c = under_left _ _ _ _ _ _ _ _ _ c.loop-end.invariant.0 (left_same _ _ c.in_err-end.ensures.refused)

pub sweep_car-requires-clause-object : goal.sweep_car-requires-clause-object
sweep_car-requires-clause-object c = (under_open _ _ _ _ _ _ _ _ _ _ _ c.loop-end.invariant.0 c.in_ok-end.ensures.trail).kept.object

pub sweep_car-requires-clause-copy : goal.sweep_car-requires-clause-copy
sweep_car-requires-clause-copy c = under_copy _ _ _ _ _ _ _ _ (under_open _ _ _ _ _ _ _ _ _ _ _ c.loop-end.invariant.0 c.in_ok-end.ensures.trail)

pub returns-in_err-sweep_car-clause-anyhow : goal.returns-in_err-sweep_car-clause-anyhow
returns-in_err-sweep_car-clause-anyhow c = under_left _ _ _ _ _ _ _ _ _ (under_open _ _ _ _ _ _ _ _ _ _ _ c.loop-end.invariant.0 c.in_ok-end.ensures.trail) c.in_err-sweep_car.ensures.refused

pub returns-then-not-branch-clause-trail : goal.returns-then-not-branch-clause-trail
returns-then-not-branch-clause-trail c = under_trail _ _ _ _ _ _ _ _ (under_same _ _ _ _ _ _ _ _ _ (c.in_ok-sweep_car.ensures.same c.if-not-branch.true) (under_open _ _ _ _ _ _ _ _ _ _ _ c.loop-end.invariant.0 c.in_ok-end.ensures.trail))

pub returns-then-not-branch-clause-anyhow : goal.returns-then-not-branch-clause-anyhow
returns-then-not-branch-clause-anyhow c = under_left _ _ _ _ _ _ _ _ _ (under_same _ _ _ _ _ _ _ _ _ (c.in_ok-sweep_car.ensures.same c.if-not-branch.true) (under_open _ _ _ _ _ _ _ _ _ _ _ c.loop-end.invariant.0 c.in_ok-end.ensures.trail)) (left_same _ _ refl)

pub returns-then-not-branch-clause-ends : goal.returns-then-not-branch-clause-ends
returns-then-not-branch-clause-ends c =
    let d = c.in_ok-sweep_car.ensures.ends c.if-not-branch.true in
    subst (IsTrailEnd (trail c.sweep_car.new.self c.sweep_car.new.places c.sweep_car.new.log.own.items c.sweep_car.new.log.waiting.items) c.in_ok-end.end.object) (sym d.0) d.1

pub reach-requires-clause-object : goal.reach-requires-clause-object
reach-requires-clause-object c = (under_swept _ _ _ _ _ _ _ _ _ (under_open _ _ _ _ _ _ _ _ _ _ _ c.loop-end.invariant.0 c.in_ok-end.ensures.trail) (c.in_ok-sweep_car.ensures.swept c.if-not-branch.false)).kept.object

pub reach-requires-clause-copy : goal.reach-requires-clause-copy
reach-requires-clause-copy c = under_copy _ _ _ _ _ _ _ _ (under_swept _ _ _ _ _ _ _ _ _ (under_open _ _ _ _ _ _ _ _ _ _ _ c.loop-end.invariant.0 c.in_ok-end.ensures.trail) (c.in_ok-sweep_car.ensures.swept c.if-not-branch.false))

pub returns-in_err-next-clause-anyhow : goal.returns-in_err-next-clause-anyhow
returns-in_err-next-clause-anyhow c = under_left _ _ _ _ _ _ _ _ _ (under_swept _ _ _ _ _ _ _ _ _ (under_open _ _ _ _ _ _ _ _ _ _ _ c.loop-end.invariant.0 c.in_ok-end.ensures.trail) (c.in_ok-sweep_car.ensures.swept c.if-not-branch.false)) c.in_err-next.ensures.refused

pub loop-end-smaller : goal.loop-end-smaller
loop-end-smaller c =
    under_less _ _ _ _ _ _ _ _ _ _ (under_swept _ _ _ _ _ _ _ _ _ (under_open _ _ _ _ _ _ _ _ _ _ _ c.loop-end.invariant.0 c.in_ok-end.ensures.trail) (c.in_ok-sweep_car.ensures.swept c.if-not-branch.false)) c.sweep_car.ensures.places
    (subst (λ u. IfSome u (λ f. IfSome (get c.sweep_car.new.self.starts c.in_ok-end.end.copy) (λ y. IsReached y.generation (trail c.sweep_car.new.self c.sweep_car.new.places c.sweep_car.new.log.own.items c.sweep_car.new.log.waiting.items) (trail c.reach.new.self c.reach.new.places c.reach.new.log.own.items c.reach.new.log.waiting.items) c.in_ok-end.end.object c.in_ok-end.end.copy 1 f.0 f.1))) c.in-Some.is c.in_ok-next.ensures.reached)

pub loop-end-preserved : goal.loop-end-preserved
loop-end-preserved c = (
  under_more _ _ _ _ _ _ _ _ _ _ (under_swept _ _ _ _ _ _ _ _ _ (under_open _ _ _ _ _ _ _ _ _ _ _ c.loop-end.invariant.0 c.in_ok-end.ensures.trail) (c.in_ok-sweep_car.ensures.swept c.if-not-branch.false))
      (subst (λ u. IfSome u (λ f. IfSome (get c.sweep_car.new.self.starts c.in_ok-end.end.copy) (λ y. IsReached y.generation (trail c.sweep_car.new.self c.sweep_car.new.places c.sweep_car.new.log.own.items c.sweep_car.new.log.waiting.items) (trail c.reach.new.self c.reach.new.places c.reach.new.log.own.items c.reach.new.log.waiting.items) c.in_ok-end.end.object c.in_ok-end.end.copy 1 f.0 f.1))) c.in-Some.is c.in_ok-next.ensures.reached)
      (ap (λ v. v.items) c.reach.ensures.waiting),
  c.reach.ensures.places,
  c.reach.ensures.count,
)

pub returns-in-None-clause-trail : goal.returns-in-None-clause-trail
returns-in-None-clause-trail c =
    under_trail _ _ _ _ _ _ _ _
    (under_same _ _ _ _ _ _ _ _ _ (subst (λ u. IfNone u ((trail c.reach.new.self c.reach.new.places c.reach.new.log.own.items c.reach.new.log.waiting.items) ≡ (trail c.sweep_car.new.self c.sweep_car.new.places c.sweep_car.new.log.own.items c.sweep_car.new.log.waiting.items))) c.in-None.is c.in_ok-next.ensures.same) (under_swept _ _ _ _ _ _ _ _ _ (under_open _ _ _ _ _ _ _ _ _ _ _ c.loop-end.invariant.0 c.in_ok-end.ensures.trail) (c.in_ok-sweep_car.ensures.swept c.if-not-branch.false)))

pub returns-in-None-clause-anyhow : goal.returns-in-None-clause-anyhow
returns-in-None-clause-anyhow c =
    under_left _ _ _ _ _ _ _ _ _
    (under_same _ _ _ _ _ _ _ _ _ (subst (λ u. IfNone u ((trail c.reach.new.self c.reach.new.places c.reach.new.log.own.items c.reach.new.log.waiting.items) ≡ (trail c.sweep_car.new.self c.sweep_car.new.places c.sweep_car.new.log.own.items c.sweep_car.new.log.waiting.items))) c.in-None.is c.in_ok-next.ensures.same) (under_swept _ _ _ _ _ _ _ _ _ (under_open _ _ _ _ _ _ _ _ _ _ _ c.loop-end.invariant.0 c.in_ok-end.ensures.trail) (c.in_ok-sweep_car.ensures.swept c.if-not-branch.false)))
    (left_same _ _ refl)

pub returns-in-None-clause-ends : goal.returns-in-None-clause-ends
returns-in-None-clause-ends c =
    subst (λ u. CanReach u c.in_ok-end.end.object 1 → ⊥) (sym (subst (λ u. IfNone u ((trail c.reach.new.self c.reach.new.places c.reach.new.log.own.items c.reach.new.log.waiting.items) ≡ (trail c.sweep_car.new.self c.sweep_car.new.places c.sweep_car.new.log.own.items c.sweep_car.new.log.waiting.items))) c.in-None.is c.in_ok-next.ensures.same))
    (subst (λ u. IfNone u (CanReach (trail c.sweep_car.new.self c.sweep_car.new.places c.sweep_car.new.log.own.items c.sweep_car.new.log.waiting.items) c.in_ok-end.end.object 1 → ⊥)) c.in-None.is c.in_ok-next.ensures.none)

pub pair_words-car-requires : goal.pair_words-car-requires
pair_words-car-requires c = record { pair = (under_same _ _ _ _ _ _ _ _ _ (c.in_ok-sweep_car.ensures.same c.if-not-branch.true) (under_open _ _ _ _ _ _ _ _ _ _ _ c.loop-end.invariant.0 c.in_ok-end.ensures.trail)).kept.object }

pub pair_words-car-requires-in-None : goal.pair_words-car-requires-in-None
pair_words-car-requires-in-None c = record {
  pair =
      (under_same _ _ _ _ _ _ _ _ _ (subst (λ u. IfNone u ((trail c.reach.new.self c.reach.new.places c.reach.new.log.own.items c.reach.new.log.waiting.items) ≡ (trail c.sweep_car.new.self c.sweep_car.new.places c.sweep_car.new.log.own.items c.sweep_car.new.log.waiting.items))) c.in-None.is c.in_ok-next.ensures.same) (under_swept _ _ _ _ _ _ _ _ _ (under_open _ _ _ _ _ _ _ _ _ _ _ c.loop-end.invariant.0 c.in_ok-end.ensures.trail) (c.in_ok-sweep_car.ensures.swept c.if-not-branch.false))).kept.object;
}
