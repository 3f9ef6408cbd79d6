use Rattle.std.proofs.Common.{arith}
use Rattle.plain_model.proofs.Placing.{place_above, place_below, place_in_list}
use Rattle.plain_model.proofs.entries.place_of.Goals as goal

pub loop-low-init : goal.loop-low-init
loop-low-init g c = (omega arith, place_in_list c.args.birth c.args.entries.now, omega arith)

pub loop-low-preserved-then-entries-middle : goal.loop-low-preserved-then-entries-middle
loop-low-preserved-then-entries-middle g c = (
  place_above c.args.entries.now _ c.args.birth c.index-entries-middle.result c.requires (omega arith) c.if-entries-middle.true,
  c.loop-low.invariant.1,
  c.loop-low.invariant.2,
)

pub loop-low-preserved : goal.loop-low-preserved
loop-low-preserved g c = (
  c.loop-low.invariant.0,
  place_below c.args.entries.now _ c.args.birth c.index-entries-middle.result (omega arith) c.if-entries-middle.false,
  omega arith,
)
