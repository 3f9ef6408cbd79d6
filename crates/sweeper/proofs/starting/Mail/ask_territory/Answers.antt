use Rattle.std.proofs.Common.{Contains, sym, subst}
use Rattle.territory.specs.Olds.{olds_of}
use Rattle.sweeper.proofs.AskedOlds.{fewer, is_old, walked_all, walked_first, walked_next}
use Rattle.sweeper.proofs.starting.Mail.ask_territory.Goals as goal

pub loop-at-init : goal.loop-at-init
loop-at-init c = record {
  walked = walked_first c.args.share.now c.args.self.now c.args.directory.now c.args.territory.now
      c.first_old-at.result c.cg-cg.result
      c.cg-cg.ensures.value c.first_old-at.ensures.first
      (record {
        olds = c.first_old-at.ensures.all;
        words = c.first_old-at.ensures.words;
        addresses = c.first_old-at.ensures.addresses;
      });
  near = c.none-near.ensures c.args.directory.now;
}

pub loop-at-preserved : goal.loop-at-preserved
loop-at-preserved c = record {
  walked = walked_next c.args.share.now c.args.self.now c.loop-at.self c.args.directory.now c.args.territory.now
      c.loop-at.at
      c.next_old-at.result c.in-Some.object c.cg-cg.result c.loop-at.invariant.walked c.cg-cg.ensures.value
      c.in-Some.is
      c.next_old-at.ensures.next c.ask_object.new.self c.in_ok-ask_object.ensures.asked;
  near = c.in_ok-ask_object.ensures.near;
}

pub loop-at-smaller : goal.loop-at-smaller
loop-at-smaller c =
    fewer c.args.share.now c.args.self.now c.loop-at.self c.args.directory.now c.args.territory.now
    c.loop-at.at
    c.next_old-at.result c.in-Some.object c.cg-cg.result c.loop-at.invariant.walked c.cg-cg.ensures.value
    c.in-Some.is
    c.next_old-at.ensures.next

pub ask_object-requires-clause-start : goal.ask_object-requires-clause-start
ask_object-requires-clause-start c =
    (is_old c.args.share.now c.args.self.now c.loop-at.self c.args.directory.now c.args.territory.now
    c.loop-at.at
    c.in-Some.object c.loop-at.invariant.walked c.in-Some.is).1

pub next_old-at-requires-clause-old : goal.next_old-at-requires-clause-old
next_old-at-requires-clause-old c =
    subst (λ n. Contains (olds_of c.args.territory.now n) c.in-Some.object) (sym c.cg-cg.ensures.value)
    (is_old c.args.share.now c.args.self.now c.loop-at.self c.args.directory.now c.args.territory.now
    c.loop-at.at
    c.in-Some.object c.loop-at.invariant.walked c.in-Some.is).0

pub returns : goal.returns
returns c = record {
  asked = walked_all c.args.share.now c.args.self.now c.loop-at.self c.args.directory.now
      c.args.territory.now c.loop-at.at
      c.loop-at.invariant.walked c.in_default.is;
  told = c.loop-at.invariant.walked.told;
}
