use Rattle.territory.specs.Following.{trail}
use Rattle.sweep_share.proofs.Following.{shown_end, shown_left, shown_share, shown_trail, shown_words}
use Rattle.sweep_share.proofs.share.Share.follow.Goals as goal

pub invariant_of-self : goal.invariant_of-self
invariant_of-self c = (
  shown_share _ c.args.self.now c.self.view_is c.index-i.result c.args.object c.args.copy
      (trail c.index_mut.result.now c.args.places.now c.args.log.now.own.items c.args.log.now.waiting.items)
      (trail c.follow.new.self c.follow.new.places c.follow.new.log.own.items c.follow.new.log.waiting.items)
      c.self.invariant.0 c.index-i.ensures.thread c.index-i.ensures.value c.index-i.ensures.within c.requires.object
      c.requires.copy c.requires.thread c.index_mut.ensures.value c.follow.ensures.anyhow,
  c.self.invariant.1,
)

pub returns-in_err-followed-clause-anyhow : goal.returns-in_err-followed-clause-anyhow
returns-in_err-followed-clause-anyhow c =
    shown_left _ c.args.self.now c.self.view_is c.index-i.result c.args.object c.args.copy
    (trail c.index_mut.result.now c.args.places.now c.args.log.now.own.items c.args.log.now.waiting.items)
    (trail c.follow.new.self c.follow.new.places c.follow.new.log.own.items c.follow.new.log.waiting.items)
    c.self.invariant.0 c.index-i.ensures.thread c.index-i.ensures.value c.index-i.ensures.within c.requires.object
    c.requires.copy c.requires.thread c.index_mut.ensures.value c.follow.ensures.anyhow

pub invariant_of-self-2 : goal.invariant_of-self-2
invariant_of-self-2 c = (
  shown_share _ c.args.self.now c.self.view_is c.index-i.result c.args.object c.args.copy
      (trail c.index_mut.result.now c.args.places.now c.args.log.now.own.items c.args.log.now.waiting.items)
      (trail c.follow.new.self c.follow.new.places c.follow.new.log.own.items c.follow.new.log.waiting.items)
      c.self.invariant.0 c.index-i.ensures.thread c.index-i.ensures.value c.index-i.ensures.within c.requires.object
      c.requires.copy c.requires.thread c.index_mut.ensures.value c.follow.ensures.anyhow,
  c.self.invariant.1,
)

pub returns-clause-trail : goal.returns-clause-trail
returns-clause-trail c =
    shown_trail _ c.args.self.now c.self.view_is c.index-i.result c.args.object c.args.copy
    (trail c.index_mut.result.now c.args.places.now c.args.log.now.own.items c.args.log.now.waiting.items)
    (trail c.follow.new.self c.follow.new.places c.follow.new.log.own.items c.follow.new.log.waiting.items)
    c.self.invariant.0 c.index-i.ensures.thread c.index-i.ensures.value c.index-i.ensures.within c.requires.object
    c.requires.copy c.requires.thread c.index_mut.ensures.value
    c.in_ok-followed.followed.object c.in_ok-followed.followed.copy c.in_ok-followed.followed.car_swept c.in_ok-followed.ensures.trail

pub returns-clause-ends : goal.returns-clause-ends
returns-clause-ends c =
    shown_end _ c.args.self.now c.self.view_is c.index-i.result c.args.object c.args.copy
    (trail c.index_mut.result.now c.args.places.now c.args.log.now.own.items c.args.log.now.waiting.items)
    (trail c.follow.new.self c.follow.new.places c.follow.new.log.own.items c.follow.new.log.waiting.items)
    c.self.invariant.0 c.index-i.ensures.thread c.index-i.ensures.value c.index-i.ensures.within c.requires.object
    c.requires.copy c.requires.thread c.index_mut.ensures.value
    c.in_ok-followed.followed.object c.in_ok-followed.followed.copy c.in_ok-followed.followed.car_swept c.in_ok-followed.ensures.trail c.in_ok-followed.ensures.ends

pub returns-clause-anyhow : goal.returns-clause-anyhow
returns-clause-anyhow c =
    shown_left _ c.args.self.now c.self.view_is c.index-i.result c.args.object c.args.copy
    (trail c.index_mut.result.now c.args.places.now c.args.log.now.own.items c.args.log.now.waiting.items)
    (trail c.follow.new.self c.follow.new.places c.follow.new.log.own.items c.follow.new.log.waiting.items)
    c.self.invariant.0 c.index-i.ensures.thread c.index-i.ensures.value c.index-i.ensures.within c.requires.object
    c.requires.copy c.requires.thread c.index_mut.ensures.value c.follow.ensures.anyhow

pub returns-clause-words : goal.returns-clause-words
returns-clause-words c =
    shown_words _ c.args.self.now c.self.view_is c.index-i.result c.args.object c.args.copy
    (trail c.index_mut.result.now c.args.places.now c.args.log.now.own.items c.args.log.now.waiting.items)
    (trail c.follow.new.self c.follow.new.places c.follow.new.log.own.items c.follow.new.log.waiting.items)
    c.self.invariant.0 c.index-i.ensures.thread c.index-i.ensures.value c.index-i.ensures.within c.requires.object
    c.requires.copy c.requires.thread c.index_mut.ensures.value
    c.in_ok-followed.followed.object c.in_ok-followed.followed.copy c.in_ok-followed.followed.car
    c.in_ok-followed.followed.cdr c.in_ok-followed.followed.car_swept c.in_ok-followed.ensures.trail c.in_ok-followed.ensures.words
