use Rattle.std.proofs.Common.{refl, arith}
use Rattle.directory.proofs.Reaching.{among_words, no_words}
use Rattle.directory.proofs.reach.Reach.of_segment.Goals as goal

pub returns-then-segment-lt-SEGMENTS : goal.returns-then-segment-lt-SEGMENTS
returns-then-segment-lt-SEGMENTS c = λ a. among_words a c.args.segment c.args.size _ _ c.if-segment-lt-SEGMENTS.true refl (omega (arith, c.min.ensures, c.from.ensures))

pub returns-else-segment-lt-SEGMENTS : goal.returns-else-segment-lt-SEGMENTS
returns-else-segment-lt-SEGMENTS c = λ a. (λ w. absurd (c.none.ensures a w), λ p. absurd (no_words a c.args.segment c.args.size c.if-segment-lt-SEGMENTS.false p))
