use Rattle.std.proofs.Common.{◌<◌, refl, sym, ap, subst, ◌∙◌, arith}
use Rattle.sweeper.specs.Sweepers.{SweeperView, in_hand, left_of}
use Rattle.sweeper.proofs.InHand.{hand_left, hand_next, hand_taken}
use Rattle.sweeper.proofs.WorldSwept.{IsSweptTo, swept_runs, swept_there, swept_to_more, swept_up_to, there_keeps}
use Rattle.sweeper.proofs.SweptFields.{copy_word, counted_end, counted_inside, counted_rest, counted_strong, counted_within, field_left, length_fits, next_there, taken, taken_first, there_same}
use Rattle.sweeper.proofs.sweeper.Sweeper.sweep_object.Goals as goal

pub kind-requires : goal.kind-requires
kind-requires c =
    next_there c.self.inside.share (in_hand c.args.self.now c.args.object c.args.copy) c.args.object c.args.copy (ap (λ (v : SweeperView). v.share) c.self.view_is) c.requires.ready
    (hand_next c.args.self.now c.args.object c.args.copy)

pub length-requires : goal.length-requires
length-requires c =
    next_there c.self.inside.share (in_hand c.args.self.now c.args.object c.args.copy) c.args.object c.args.copy (ap (λ (v : SweeperView). v.share) c.self.view_is) c.requires.ready
    (hand_next c.args.self.now c.args.object c.args.copy)

pub strong_fields-first-requires : goal.strong_fields-first-requires
strong_fields-first-requires c =
    length_fits c.self.inside.share (in_hand c.args.self.now c.args.object c.args.copy) c.args.object c.args.copy c.length.result (ap (λ (v : SweeperView). v.share) c.self.view_is) c.requires.ready
    (hand_next c.args.self.now c.args.object c.args.copy) c.length.ensures

pub loop-asked-init : goal.loop-asked-init
loop-asked-init c =
    let t = taken (in_hand _ c.args.object c.args.copy) (in_hand c.args.self.now c.args.object c.args.copy) c.self.inside.places (c.args.object, c.args.copy) c.length.result c.strong_fields-first.result.0
    c.strong_fields-first.result.1 c.kind.result (ap (λ (v : SweeperView). in_hand v c.args.object c.args.copy) c.self.view_is) refl c.requires.ready c.kind.ensures
    c.length.ensures c.strong_fields-first.ensures.order c.strong_fields-first.ensures.within c.strong_fields-first.ensures.strong
    c.strong_fields-first.ensures.before c.strong_fields-first.ensures.after in
    let e = hand_taken c.args.self.now c.args.object c.args.copy in
    record {
      done = subst (λ (z : SweeperView). IsSweptTo (in_hand c.args.self.now c.args.object c.args.copy) z c.args.object c.strong_fields-first.result.0) (sym e)
          (taken_first (in_hand c.args.self.now c.args.object c.args.copy) c.args.object c.args.copy c.strong_fields-first.result.0 c.strong_fields-first.result.1 t);
      begun = omega arith;
      order = c.strong_fields-first.ensures.order;
      left = hand_left c.args.self.now c.args.object c.args.copy;
      inbox = refl;
      directory = refl;
      near = c.requires.near;
    }

pub next_asked-requires-clause-end : goal.next_asked-requires-clause-end
next_asked-requires-clause-end c =
    let t = taken (in_hand _ c.args.object c.args.copy) (in_hand c.args.self.now c.args.object c.args.copy) c.self.inside.places (c.args.object, c.args.copy) c.length.result c.strong_fields-first.result.0
    c.strong_fields-first.result.1 c.kind.result (ap (λ (v : SweeperView). in_hand v c.args.object c.args.copy) c.self.view_is) refl c.requires.ready c.kind.ensures
    c.length.ensures c.strong_fields-first.ensures.order c.strong_fields-first.ensures.within c.strong_fields-first.ensures.strong
    c.strong_fields-first.ensures.before c.strong_fields-first.ensures.after in
    counted_end (in_hand c.args.self.now c.args.object c.args.copy) c.args.object c.strong_fields-first.result.0 c.strong_fields-first.result.1 t.all c.loop-asked.self
    (there_same (in_hand c.args.self.now c.args.object c.args.copy) c.loop-asked.self c.args.object c.args.copy c.loop-asked.from t.ready t.next c.loop-asked.invariant.done)

pub next_asked-requires-clause-strong : goal.next_asked-requires-clause-strong
next_asked-requires-clause-strong c =
    let t = taken (in_hand _ c.args.object c.args.copy) (in_hand c.args.self.now c.args.object c.args.copy) c.self.inside.places (c.args.object, c.args.copy) c.length.result c.strong_fields-first.result.0
    c.strong_fields-first.result.1 c.kind.result (ap (λ (v : SweeperView). in_hand v c.args.object c.args.copy) c.self.view_is) refl c.requires.ready c.kind.ensures
    c.length.ensures c.strong_fields-first.ensures.order c.strong_fields-first.ensures.within c.strong_fields-first.ensures.strong
    c.strong_fields-first.ensures.before c.strong_fields-first.ensures.after in
    counted_strong (in_hand c.args.self.now c.args.object c.args.copy) c.args.object c.strong_fields-first.result.0 c.strong_fields-first.result.1 t.all c.loop-asked.self c.loop-asked.from
    (there_same (in_hand c.args.self.now c.args.object c.args.copy) c.loop-asked.self c.args.object c.args.copy c.loop-asked.from t.ready t.next c.loop-asked.invariant.done)
    c.loop-asked.invariant.begun

pub sweep_field-requires-clause-field : goal.sweep_field-requires-clause-field
sweep_field-requires-clause-field c =
    let t = taken (in_hand _ c.args.object c.args.copy) (in_hand c.args.self.now c.args.object c.args.copy) c.self.inside.places (c.args.object, c.args.copy) c.length.result c.strong_fields-first.result.0
    c.strong_fields-first.result.1 c.kind.result (ap (λ (v : SweeperView). in_hand v c.args.object c.args.copy) c.self.view_is) refl c.requires.ready c.kind.ensures
    c.length.ensures c.strong_fields-first.ensures.order c.strong_fields-first.ensures.within c.strong_fields-first.ensures.strong
    c.strong_fields-first.ensures.before c.strong_fields-first.ensures.after in
    copy_word (in_hand c.args.self.now c.args.object c.args.copy) c.loop-asked.self c.args.object c.args.copy c.loop-asked.from c.in-Some.asked.index c.strong_fields-first.result.0 c.strong_fields-first.result.1
    t.ready t.next c.loop-asked.invariant.done t.all c.in-Some.ensures.within.1

pub sweep_field-requires-clause-own : goal.sweep_field-requires-clause-own
sweep_field-requires-clause-own c =
    let t = taken (in_hand _ c.args.object c.args.copy) (in_hand c.args.self.now c.args.object c.args.copy) c.self.inside.places (c.args.object, c.args.copy) c.length.result c.strong_fields-first.result.0
    c.strong_fields-first.result.1 c.kind.result (ap (λ (v : SweeperView). in_hand v c.args.object c.args.copy) c.self.view_is) refl c.requires.ready c.kind.ensures
    c.length.ensures c.strong_fields-first.ensures.order c.strong_fields-first.ensures.within c.strong_fields-first.ensures.strong
    c.strong_fields-first.ensures.before c.strong_fields-first.ensures.after in
    there_keeps c.loop-asked.self c.args.object c.args.copy c.in-Some.asked.index c.in-Some.asked.target
    (swept_there (in_hand c.args.self.now c.args.object c.args.copy) c.loop-asked.self c.args.object c.args.copy c.loop-asked.from t.ready t.next c.loop-asked.invariant.done)
    c.in-Some.ensures.target

pub loop-asked-preserved : goal.loop-asked-preserved
loop-asked-preserved c =
    let t = taken (in_hand _ c.args.object c.args.copy) (in_hand c.args.self.now c.args.object c.args.copy) c.self.inside.places (c.args.object, c.args.copy) c.length.result c.strong_fields-first.result.0
    c.strong_fields-first.result.1 c.kind.result (ap (λ (v : SweeperView). in_hand v c.args.object c.args.copy) c.self.view_is) refl c.requires.ready c.kind.ensures
    c.length.ensures c.strong_fields-first.ensures.order c.strong_fields-first.ensures.within c.strong_fields-first.ensures.strong
    c.strong_fields-first.ensures.before c.strong_fields-first.ensures.after in
    let within = c.in-Some.ensures.within in
    let left = field_left c.loop-asked.self c.sweep_field.new.self c.args.object c.args.copy c.in-Some.asked.index c.in_ok-sweep_field.ensures in
    record {
      done = swept_to_more (in_hand c.args.self.now c.args.object c.args.copy) c.loop-asked.self c.sweep_field.new.self c.args.object c.args.copy c.in-Some.asked.index t.next
          (swept_up_to (in_hand c.args.self.now c.args.object c.args.copy) c.loop-asked.self c.args.object c.args.copy c.loop-asked.from c.in-Some.asked.index t.next
          c.loop-asked.invariant.done within.0
          (counted_within (in_hand c.args.self.now c.args.object c.args.copy) c.args.object c.strong_fields-first.result.0 c.strong_fields-first.result.1 t.all c.in-Some.asked.index (omega (arith, within.1)))
          c.in-Some.ensures.first)
          (counted_inside (in_hand c.args.self.now c.args.object c.args.copy) c.args.object c.strong_fields-first.result.0 c.strong_fields-first.result.1 t.all c.in-Some.asked.index within.1)
          c.in_ok-sweep_field.ensures;
      begun = omega (arith, c.loop-asked.invariant.begun, within.0);
      order = omega (arith, within.1);
      left = subst (λ n. n < left_of (in_hand c.args.self.now c.args.object c.args.copy)) (sym left.left) c.loop-asked.invariant.left;
      inbox = left.inbox ∙ c.loop-asked.invariant.inbox;
      directory = left.directory ∙ c.loop-asked.invariant.directory;
      near = c.next_asked.ensures.near;
    }

pub returns-clause-runs : goal.returns-clause-runs
returns-clause-runs c =
    let t = taken (in_hand _ c.args.object c.args.copy) (in_hand c.args.self.now c.args.object c.args.copy) c.self.inside.places (c.args.object, c.args.copy) c.length.result c.strong_fields-first.result.0
    c.strong_fields-first.result.1 c.kind.result (ap (λ (v : SweeperView). in_hand v c.args.object c.args.copy) c.self.view_is) refl c.requires.ready c.kind.ensures
    c.length.ensures c.strong_fields-first.ensures.order c.strong_fields-first.ensures.within c.strong_fields-first.ensures.strong
    c.strong_fields-first.ensures.before c.strong_fields-first.ensures.after in
    swept_runs (in_hand c.args.self.now c.args.object c.args.copy) c.loop-asked.self c.args.object c.args.copy c.strong_fields-first.result.1 t.next
    (swept_up_to (in_hand c.args.self.now c.args.object c.args.copy) c.loop-asked.self c.args.object c.args.copy c.loop-asked.from c.strong_fields-first.result.1 t.next
    c.loop-asked.invariant.done c.loop-asked.invariant.order
    (counted_within (in_hand c.args.self.now c.args.object c.args.copy) c.args.object c.strong_fields-first.result.0 c.strong_fields-first.result.1 t.all c.strong_fields-first.result.1 (omega arith))
    c.in_default.ensures.none)
    (counted_rest (in_hand c.args.self.now c.args.object c.args.copy) c.args.object c.strong_fields-first.result.0 c.strong_fields-first.result.1 t.all)
