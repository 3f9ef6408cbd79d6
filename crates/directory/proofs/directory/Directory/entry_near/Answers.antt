use Rattle.std.proofs.Common.{arith}
use Rattle.directory.proofs.Telling.{entry_fits, entry_now, sound_now}
use Rattle.directory.proofs.directory.Directory.entry_near.Goals as goal

pub returns-then-segment-near-clause-fits : goal.returns-then-segment-near-clause-fits
returns-then-segment-near-clause-fits c =
    entry_fits c.args.self.now _ c.args.near.now.thread c.args.near.now.segment _
    (sound_now _ _ _ c.self.view_is c.self.invariant.1)
    (c.requires.near (omega (arith, c.thread-thread.ensures.range, c.if-thread-near.true))).0

pub returns-clause-fits : goal.returns-clause-fits
returns-clause-fits c =
    entry_fits c.args.self.now _ _ _ _ (sound_now _ _ _ c.self.view_is c.self.invariant.1)
    (entry_now c.args.self.now _ _ _ _ _ _ _ c.self.view_is
    (omega (arith, c.thread-thread.ensures.range, c.self.invariant.1.threads)) c.index.ensures
    c.thread-thread.ensures.value c.segment-segment.ensures.value c.in_ok-from.ensures)
