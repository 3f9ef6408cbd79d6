use Rattle.std.proofs.Common.{subst, arith}
use Rattle.directory.specs.Reaches.{ReachesIn}
use Rattle.directory.proofs.Shared.{cut_pushed, cut_end, cut_all, cut_shown}
use Rattle.directory.proofs.Telling.{own_words, tells_apart}
use Rattle.directory.proofs.directory.Directory.new.Goals as goal

pub loop-sweeper-preserved : goal.loop-sweeper-preserved
loop-sweeper-preserved c =
    cut_pushed _ _ _ _ _ _ _ _ _ _ _ c.loop-sweeper.invariant c.in_ok-next.ensures.count c.in_ok-next.ensures.numbered
    c.in_ok-push-2.ensures.items c.in_ok-push.ensures.items

pub invariant_of-result : goal.invariant_of-result
invariant_of-result c =
    let whole = cut_end _ _ _ _ _ _ _ (omega (arith, c.loop-sweeper-test.false, c.loop-sweeper.auto.sweeper-end)) c.loop-sweeper.invariant in (
      record { least = c.requires.least; greatest = c.requires.greatest; generations = c.requires.generations },
      cut_all _ _ _ _ c.loop-sweeper.word _ c.requires.sweepers_in.0 c.requires.sweepers_in.1 (omega arith) whole,
      subst (ReachesIn c.reach_of-reach.result) c.deref.ensures.value c.reach_of-reach.ensures,
    )

pub returns-clause-segments : goal.returns-clause-segments
returns-clause-segments c =
    let whole = cut_end _ _ _ _ _ _ _ (omega (arith, c.loop-sweeper-test.false, c.loop-sweeper.auto.sweeper-end)) c.loop-sweeper.invariant in
    cut_shown _ _ _ _ _ _ c.requires.threads.count c.requires.sweepers_in.0 whole

pub returns-clause-own : goal.returns-clause-own
returns-clause-own c =
    own_words
    (record { targets = c.args.targets; ranges = c.loop-sweeper.ranges.items; tables = c.loop-sweeper.tables.items })
    _ (invariant_of-result c).1

pub returns-clause-apart : goal.returns-clause-apart
returns-clause-apart c = tells_apart _ _ (invariant_of-result c).1
