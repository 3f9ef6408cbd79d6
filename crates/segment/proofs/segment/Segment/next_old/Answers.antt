use Rattle.std.proofs.Common.{ap}
use Rattle.segment.specs.Segments.{Segment}
use Rattle.segment.proofs.Scans.{found}
use Rattle.segment.proofs.segment.Segment.next_old.Goals as goal

pub returns-then-k-dirty-clause-some : goal.returns-then-k-dirty-clause-some
returns-then-k-dirty-clause-some c =
    let f = c.in-Some-first_past.ensures.some in
    (f.0, found c.args.self.now _ _ _ _ (ap (λ (v : Segment). v.cards) c.self.view_is) f.1 c.if-k-dirty.true c.in-Some.ensures.dirty.1)
