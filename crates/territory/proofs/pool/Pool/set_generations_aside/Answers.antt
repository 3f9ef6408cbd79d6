use Rattle.std.proofs.Common.{arith}
use Rattle.territory.proofs.Begun.{begun_none, begun_more}
use Rattle.territory.proofs.pool.Pool.set_generations_aside.Goals as goal

pub loop-generation-init : goal.loop-generation-init
loop-generation-init c = record { settled = c.requires.settled; begun = begun_none c.args.self.now }

pub loop-generation-preserved : goal.loop-generation-preserved
loop-generation-preserved c = record {
  settled = c.set_generation_aside.ensures.settled;
  begun = begun_more _ _ _ _ _ c.requires.settled c.loop-generation.invariant.settled (omega arith) c.loop-generation.invariant.begun c.set_generation_aside.ensures.segments c.set_generation_aside.ensures.lists
      c.set_generation_aside.ensures.areas.1 c.set_generation_aside.ensures.dirty;
}
