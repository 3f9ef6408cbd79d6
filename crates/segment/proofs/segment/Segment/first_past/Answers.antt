use Rattle.std.proofs.Common.{arith}
use Rattle.std.proofs.lemmas.Option.{IfSome_then}
use Rattle.segment.proofs.Scans.{after_seen}
use Rattle.segment.proofs.segment.Segment.first_past.Goals as goal

pub returns-in-None-clause-some : goal.returns-in-None-clause-some
returns-in-None-clause-some c =
    IfSome_then _ c.first_born.ensures.some (λ k born.
    after_seen _ _ _ c.args.from c.args.card k c.self.invariant.0 c.self.view_is c.deref.ensures.value c.requires.used (omega (arith, c.max.ensures, born.0)) born.1)
