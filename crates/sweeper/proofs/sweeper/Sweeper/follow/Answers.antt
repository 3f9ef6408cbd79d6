use Rattle.std.proofs.Common.{refl}
use Rattle.sweeper.specs.Sweepers.{SweeperView}
use Rattle.sweeper.proofs.FollowedEnds.{HasCome, comes_nowhere, shown_anyhow, shown_come, shown_copy, shown_pair, shown_thread}
use Rattle.sweeper.proofs.sweeper.Sweeper.follow.Goals as goal
use Rattle.sweeper.proofs.sweeper.Sweeper.follow.Goals.{In_ok-followed}

-- ---- none is followed

pub returns-then-leads_away-clause-comes : goal.returns-then-leads_away-clause-comes
returns-then-leads_away-clause-comes c = comes_nowhere c.args.self.now c.args.pair c.requires.words

pub returns-then-from-ne-SHARED-clause-comes : goal.returns-then-from-ne-SHARED-clause-comes
returns-then-from-ne-SHARED-clause-comes c = comes_nowhere c.args.self.now c.args.pair c.requires.words

-- ---- pairs are followed

pub follow-requires-clause-object : goal.follow-requires-clause-object
follow-requires-clause-object c =
    shown_pair _ c.args.self.now c.self.view_is c.args.pair c.requires.ready c.requires.words

pub follow-requires-clause-copy : goal.follow-requires-clause-copy
follow-requires-clause-copy c =
    shown_copy _ c.args.self.now c.self.view_is c.args.pair c.requires.ready c.requires.words

pub follow-requires-clause-thread : goal.follow-requires-clause-thread
follow-requires-clause-thread c =
    shown_thread _ c.args.self.now c.self.view_is c.args.pair c.requires.ready c.requires.words

-- memory was refused
pub invariant_of-self : goal.invariant_of-self
invariant_of-self c =
    shown_anyhow _ c.args.self.now c.self.view_is c.args.pair c.requires.ready c.requires.words
    c.args.self.now.places.directory c.args.from refl c.requires.from c.follow.new.share c.follow.new.self
    c.in_err-followed.ensures.anyhow

-- the sweeper where it has come to a pair
abbrev after : In_ok-followed → SweeperView
after c = record {
  share = c.follow.new.share;
  registers = c.self.inside.registers;
  places = c.follow.new.self;
  inbox = c.self.inside.inbox;
  outbox = c.self.inside.outbox;
  round = c.self.inside.round;
  ran_out = c.self.inside.ran_out;
}

come : (c : In_ok-followed) → HasCome c.args.self.now (after c) c.args.self.now.places.directory c.args.pair
    c.in_ok-followed.followed.object c.in_ok-followed.followed.copy c.in_ok-followed.followed.car_swept
come c =
    shown_come _ c.args.self.now c.self.view_is c.args.pair c.requires.ready c.requires.words
    c.args.self.now.places.directory c.args.from refl c.requires.from c.follow.new.share c.follow.new.self
    c.in_ok-followed.followed.object c.in_ok-followed.followed.copy c.in_ok-followed.followed.car_swept
    c.in_ok-followed.ensures.trail

pub invariant_of-self-2 : goal.invariant_of-self-2
invariant_of-self-2 c = (come (goal.at.invariant_of-self-2 c).In_ok-followed).joined

pub returns-clause-comes : goal.returns-clause-comes
returns-clause-comes c =
    (come (goal.at.returns-clause-comes c).In_ok-followed).comes c.in_ok-followed.followed.car c.in_ok-followed.followed.cdr
    c.in_ok-followed.ensures.words

pub returns-clause-directory : goal.returns-clause-directory
returns-clause-directory c = (come (goal.at.returns-clause-directory c).In_ok-followed).directory
