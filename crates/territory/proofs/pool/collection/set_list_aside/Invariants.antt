use Rattle.std.proofs.Common.{◌≡◌, take}
use Rattle.std.specs.List.{slice_get}
use Rattle.seg_chain.specs.Lists.{chain_of}
use Rattle.territory.specs.Changes.{AreSetAside}
use Rattle.territory.proofs.pool.collection.set_list_aside.Given as goal

abbrev pub invariant-loop-count : goal.invariant-loop-count
invariant-loop-count l = record {
  aside : AreSetAside l.fn.segments.items l.segments.items (take l._count (chain_of l.lists l.list));
  here : l.at ≡ slice_get (chain_of l.lists l.list) l._count;
}
