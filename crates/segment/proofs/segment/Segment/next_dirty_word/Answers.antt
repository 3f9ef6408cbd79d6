use Rattle.std.proofs.Common.{arith}
use Rattle.segment.proofs.Aging.{start_fits}
use Rattle.segment.proofs.segment.Segment.next_dirty_word.Goals as goal

pub overflow_mul-start : goal.overflow_mul-start
overflow_mul-start c = omega (arith, start_fits _ _ _ c.self.invariant.0 c.self.view_is c.requires.start)
