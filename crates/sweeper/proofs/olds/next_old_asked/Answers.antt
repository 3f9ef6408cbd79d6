use Rattle.std.proofs.Common.{arith}
use Rattle.sweeper.proofs.olds.next_old_asked.Goals as goal

pub loop-next-init : goal.loop-next-init
loop-next-init c = record {
  order = omega arith;
  none = λ i low high card. absurd (omega (arith, low, high));
  near = c.requires.near;
}
