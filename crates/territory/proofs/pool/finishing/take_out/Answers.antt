use Rattle.std.proofs.Common.{sym}
use Rattle.seg_chain.proofs.Counts.{not_there}
use Rattle.territory.proofs.pool.finishing.take_out.Goals as goal

pub returns-else-is_there-clause-chain : goal.returns-else-is_there-clause-chain
returns-else-is_there-clause-chain c = sym (not_there _ _ (c.requires.not_there c.if-is_there.false))
