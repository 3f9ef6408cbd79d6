use Rattle.std.proofs.Common.{◌≡◌}
use Rattle.std.specs.List.{slice_get}
use Rattle.seg_chain.specs.Lists.{chain_of}
use Rattle.territory.proofs.AgedAll.{AreAgedUpTo}
use Rattle.territory.proofs.pool.Pool.raise_cards.Given as goal

abbrev pub invariant-loop-count : goal.invariant-loop-count
invariant-loop-count l = record {
  aged : AreAgedUpTo l.cg l.fn.self l.self l._count;
  here : l.at ≡ slice_get (chain_of l.fn.self.dirty 1) l._count;
}
