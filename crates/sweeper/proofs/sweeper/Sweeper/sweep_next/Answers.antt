use Rattle.std.proofs.Common.{ap, sym, subst, ◌∙◌}
use Rattle.sweep_places.specs.Places.{PlacesView}
use Rattle.sweeper.specs.Sweepers.{SweeperView}
use Rattle.sweeper.specs.declared.lists.NextPair.{NextPair}
use Rattle.sweeper.specs.Ready.{Ready, Runs}
use Rattle.sweeper.proofs.AnswerSteps.{runs_nowhere}
use Rattle.sweeper.proofs.FollowedEnds.{pair_aside}
use Rattle.sweeper.proofs.InHand.{hand_back}
use Rattle.sweeper.proofs.SweptFields.{is_next, next_there}
use Rattle.sweeper.proofs.sweeper.Sweeper.sweep_next.Goals as goal

pub returns-in_default-clause-runs : goal.returns-in_default-clause-runs
returns-in_default-clause-runs c =
    runs_nowhere _ c.args.self.now c.take_unswept.new.self c.self.view_is c.in_default.ensures.same

pub returns-in_default-clause-done : goal.returns-in_default-clause-done
returns-in_default-clause-done c = λ _. ap (λ (p : PlacesView). p.unswept) c.in_default.ensures.same ∙ c.in_default.ensures.none

pub pair-requires : goal.pair-requires
pair-requires c =
    next_there c.self.inside.share c.args.self.now c.in-Some.unswept.0 c.in-Some.unswept.1 (ap (λ (v : SweeperView). v.share) c.self.view_is) c.requires.ready
    (is_next _ c.args.self.now c.take_unswept.new.self c.in-Some.unswept c.self.view_is c.in-Some.ensures.some)

-- a pair that was taken lies in a from-segment
pub unreachable-requires : goal.unreachable-requires
unreachable-requires c =
    let taken : SweeperView = record {
      share = c.self.inside.share;
      registers = c.self.inside.registers;
      places = c.take_unswept.new.self;
      inbox = c.self.inside.inbox;
      outbox = c.self.inside.outbox;
      round = c.self.inside.round;
      ran_out = c.self.inside.ran_out;
    } in
    let pair : NextPair = record {
      object = c.in-Some.unswept.0;
      copy = c.in-Some.unswept.1;
      car = c.in-Some-pair.car;
      cdr = c.in-Some-pair.cdr;
    } in
    pair_aside taken pair
    (subst Ready
    (sym (hand_back _ c.args.self.now c.take_unswept.new.self c.in-Some.unswept c.self.view_is c.in-Some.ensures.some c.in-Some.ensures.rest))
    c.requires.ready)
    c.in-Some-pair.ensures.some c.args.directory.now
    (ap (λ (p : PlacesView). p.directory) c.in-Some.ensures.rest
    ∙ (ap (λ (v : SweeperView). v.places.directory) c.self.view_is ∙ c.requires.same))
    (sym c.find_near.ensures.value ∙ c.in_default-find_near.is)

-- ---- the object that was taken was swept

pub returns-in-Some-pair-clause-runs : goal.returns-in-Some-pair-clause-runs
returns-in-Some-pair-clause-runs c =
    subst (λ (z : SweeperView). Runs z c.sweep_list.new.self)
    (hand_back _ c.args.self.now c.take_unswept.new.self c.in-Some.unswept c.self.view_is c.in-Some.ensures.some c.in-Some.ensures.rest)
    c.in_ok-sweep_list.ensures.runs

pub returns-clause-runs : goal.returns-clause-runs
returns-clause-runs c =
    subst (λ (z : SweeperView). Runs z c.sweep_object.new.self)
    (hand_back _ c.args.self.now c.take_unswept.new.self c.in-Some.unswept c.self.view_is c.in-Some.ensures.some c.in-Some.ensures.rest)
    c.in_ok-sweep_object.ensures.runs
