use Rattle.std.proofs.Common.{arith}
use Rattle.sweep_share.proofs.Spare.{first_there}
use Rattle.sweep_share.proofs.share.Share.leave_spare.Goals as goal

pub index_mut-requires : goal.index_mut-requires
index_mut-requires c = omega (arith, first_there _ _ c.self.inside.territories.items c.self.invariant.0)
