use Rattle.std.proofs.Common.{arith}
use Rattle.directory.proofs.Turning.{near, object_word}
use Rattle.directory.proofs.reach.Reach.object.Goals as goal

pub address_in-requires : goal.address_in-requires
address_in-requires c =
    ((near c.args.word c.args.self.least c.args.self.beyond _ _ _ _ _ c.ranges.word.fits c.rotate_right-turned.ensures
    c.half-first.ensures c.min.ensures c.half-end.ensures c.saturating_sub.ensures).0 c.if-turned-first.true).0

pub returns-then-turned-first-clause-some : goal.returns-then-turned-first-clause-some
returns-then-turned-first-clause-some c =
    let w = (near c.args.word c.args.self.least c.args.self.beyond _ _ _ _ _ c.ranges.word.fits c.rotate_right-turned.ensures
    c.half-first.ensures c.min.ensures c.half-end.ensures c.saturating_sub.ensures).0 c.if-turned-first.true in
    let a = (object_word c.args.word c.address_in.result c.address_in.ensures).1 in
    (c.address_in.ensures, (omega (arith, a, w.1), omega (arith, a, w.2)))

pub returns-else-turned-first-clause-none : goal.returns-else-turned-first-clause-none
returns-else-turned-first-clause-none c = λ a is within.
    let w = object_word c.args.word a is in
    let test = (near c.args.word c.args.self.least c.args.self.beyond _ _ _ _ _ c.ranges.word.fits c.rotate_right-turned.ensures
    c.half-first.ensures c.min.ensures c.half-end.ensures c.saturating_sub.ensures).1 (w.0, omega (arith, w.1, within.0), omega (arith, w.1, within.1)) in
    absurd (omega (arith, test, c.if-turned-first.false))
