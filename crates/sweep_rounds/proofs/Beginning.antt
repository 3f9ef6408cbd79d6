-- New sweepers of one world stand together for the state in which the core begins.
use Rattle.std.proofs.Common.{ℕ, ◌<◌, subst}
use Rattle.sweep_model.proofs.Starting.{start_stands}
use Rattle.sweep_model.proofs.Worlds.{world_has_setting}
use Rattle.sweep_rounds.specs.Turns.{BeginWhole, hands_of}

pub begin_whole : BeginWhole
begin_whole world n d f good listed count ready begins numbers directory =
    let setting = world_has_setting world listed in
    let within : (k : ℕ) → k < world.sweepers → k < n = λ k b. subst (λ m. k < m) count b in
    let start =
    start_stands world setting.0 (hands_of f) good setting.1 (λ k b. (begins k (within k b), numbers k (within k b))) in
    record {
      world = world;
      setting = setting.0;
      state = start.0;
      count = count;
      together = record {
        is_world = good;
        setting = setting.1;
        stand = start.1;
        ready = λ k b. ready k (within k b);
      };
      directory = directory;
    }
