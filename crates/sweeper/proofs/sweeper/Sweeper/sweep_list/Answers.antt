use Rattle.std.proofs.Common.{◌<◌, ◌≤◌, Option, None, Some, IfNone, IfSome, refl, sym, subst, ◌∙◌, arith}
use Rattle.directory.specs.Directories.{DirectoryView}
use Rattle.sweeper.specs.declared.lists.NextPair.{NextPair}
use Rattle.sweeper.specs.Sweepers.{SweeperView, in_hand, left_of, with_next}
use Rattle.sweeper.specs.Looked.{HasEntry}
use Rattle.sweeper.specs.Ready.{Ready, Runs}
use Rattle.sweeper.proofs.AnswerSteps.{ready_after}
use Rattle.sweeper.proofs.WorldMail.{runs_none, runs_on}
use Rattle.sweeper.proofs.sweeper.Sweeper.sweep_list.Goals as goal

pub loop-next-init : goal.loop-next-init
loop-next-init c = record {
  runs = runs_none (in_hand c.args.self.now c.args.first.object c.args.first.copy);
  words = c.requires.words;
  near = c.requires.near;
  from = c.requires.from;
  same = c.requires.same;
  inbox = refl;
  most = omega arith;
  less = tt;
}

pub follow-requires-clause-ready : goal.follow-requires-clause-ready
follow-requires-clause-ready c =
    subst (λ n. Ready (with_next c.loop-next.self n)) c.in-Some.is
    (ready_after (in_hand c.args.self.now c.args.first.object c.args.first.copy)
    (with_next c.loop-next.self c.loop-next.next) c.requires.ready c.loop-next.invariant.runs)

pub follow-requires-clause-from : goal.follow-requires-clause-from
follow-requires-clause-from c =
    subst (λ (d : DirectoryView). HasEntry d c.in-Some.pair.object c.loop-next.near.from) (sym c.loop-next.invariant.same)
    (subst (λ o. IfSome o (λ (p : NextPair). HasEntry c.args.directory.now p.object c.loop-next.near.from)) c.in-Some.is
    c.loop-next.invariant.from)

pub sweep_pair-requires-clause-begun : goal.sweep_pair-requires-clause-begun
sweep_pair-requires-clause-begun c =
    let ready : Ready (in_hand c.loop-next.self c.in-Some.pair.object c.in-Some.pair.copy) =
    subst (λ n. Ready (with_next c.loop-next.self n)) c.in-Some.is
    (ready_after (in_hand c.args.self.now c.args.first.object c.args.first.copy)
    (with_next c.loop-next.self c.loop-next.next) c.requires.ready c.loop-next.invariant.runs) in
    let comes = c.in_ok-begun.ensures.comes in
    record {
      before = comes.before;
      ready = ready_after (in_hand c.loop-next.self c.in-Some.pair.object c.in-Some.pair.copy) _ ready comes.runs;
      halfway = comes.halfway;
    }

-- what holds is so where there is none
any_none : (o : Option NextPair) (P : Type 0) → P → IfNone o P
any_none None P h = h
any_none (Some pair) P h = tt

pub loop-next-preserved : goal.loop-next-preserved
loop-next-preserved c =
    let start : SweeperView = in_hand c.args.self.now c.args.first.object c.args.first.copy in
    let here : SweeperView = in_hand c.loop-next.self c.in-Some.pair.object c.in-Some.pair.copy in
    let comes = c.in_ok-begun.ensures.comes in
    let there : SweeperView = in_hand comes.before c.in_ok-begun.begun.pair.object c.in_ok-begun.begun.pair.copy in
    let last : SweeperView = with_next c.sweep_pair.new.self c.in_ok-next.next in
    let before : Runs start here =
    subst (λ n. Runs start (with_next c.loop-next.self n)) c.in-Some.is c.loop-next.invariant.runs in
    let most : left_of here ≤ left_of start =
    subst (λ n. left_of (with_next c.loop-next.self n) ≤ left_of start) c.in-Some.is c.loop-next.invariant.most in
    let ready : Ready there = ready_after here there (ready_after start here c.requires.ready before) comes.runs in
    let less : left_of last < left_of there = c.in_ok-next.ensures.less comes.before ready comes.halfway in
    let less_first : left_of last < left_of start = omega (arith, most, comes.most, less) in
    record {
      runs = runs_on start here last before
          (runs_on here there last comes.runs (c.in_ok-next.ensures.runs comes.before ready comes.halfway));
      words = c.in_ok-next.ensures.words;
      near = c.in_ok-next.ensures.near;
      from = c.in_ok-next.ensures.from;
      same = c.in_ok-next.ensures.directory;
      inbox = c.in_ok-next.ensures.inbox ∙ c.in_ok-begun.ensures.inbox ∙ c.loop-next.invariant.inbox;
      most = omega (arith, less_first);
      less = any_none c.in_ok-next.next _ less_first;
    }

pub loop-next-smaller : goal.loop-next-smaller
loop-next-smaller c =
    let start : SweeperView = in_hand c.args.self.now c.args.first.object c.args.first.copy in
    let here : SweeperView = in_hand c.loop-next.self c.in-Some.pair.object c.in-Some.pair.copy in
    let comes = c.in_ok-begun.ensures.comes in
    let there : SweeperView = in_hand comes.before c.in_ok-begun.begun.pair.object c.in_ok-begun.begun.pair.copy in
    let last : SweeperView = with_next c.sweep_pair.new.self c.in_ok-next.next in
    let before : Runs start here =
    subst (λ n. Runs start (with_next c.loop-next.self n)) c.in-Some.is c.loop-next.invariant.runs in
    let ready : Ready there = ready_after here there (ready_after start here c.requires.ready before) comes.runs in
    let less : left_of last < left_of there = c.in_ok-next.ensures.less comes.before ready comes.halfway in
    subst (λ n. left_of last < left_of (with_next c.loop-next.self n)) (sym c.in-Some.is)
    (omega (arith, comes.most, less))

pub returns-clause-runs : goal.returns-clause-runs
returns-clause-runs c =
    let start : SweeperView = in_hand c.args.self.now c.args.first.object c.args.first.copy in
    subst (λ n. Runs start (with_next c.loop-next.self n)) c.in_default.is c.loop-next.invariant.runs
