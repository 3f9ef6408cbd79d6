use Rattle.std.proofs.Common.{◌<◌, ◌*◌, arith}
use Rattle.segment.proofs.Scans.{covering_seen}
use Rattle.segment.proofs.segment.Segment.covering.Goals as goal

pub returns-else-end-card-clause-none : goal.returns-else-end-card-clause-none
returns-else-end-card-clause-none c = λ j h low past.
    let last = c.in_ok-k.ensures in
    let inside : 2 * c.in_ok-k.k < c.self.inside.words.len = omega (arith, c.self.invariant.0.births, last.some.1) in
    covering_seen _ _ _ _ _ _ _ _ j c.self.invariant.0 c.self.view_is c.deref.ensures.value last.some.1 last.some.2 last.greatest (omega arith) c.index.ensures c.size.ensures (omega arith) (λ b. omega arith) past
