-- New sweepers of one world stand together, and a run of them comes to its end in that world.
use Rattle.std.proofs.Common.{◌≡◌, ℕ, ◌<◌, subst, sym}
use Rattle.directory.specs.Directories.{DirectoryView}
use Rattle.owned_core.specs.Settings.{Setting}
use Rattle.owned_core.specs.Owned.{State}
use Rattle.sweep_model.specs.World.{IsWorld, World}
use Rattle.sweep_model.specs.Hands.{Tied}
use Rattle.sweep_model.specs.Wholes.{IsListed}
use Rattle.sweep_model.proofs.Starting.{start_stands}
use Rattle.sweep_model.proofs.Worlds.{world_has_setting}
use Rattle.sweeper.specs.Sweepers.{SweeperView, hand_of}
use Rattle.sweeper.specs.Starting.{IsBegun}
use Rattle.sweep_rounds.specs.Turns.{Ended, Ends, StandTogether, Whole, hands_of}

-- n new sweepers of a world, with this directory
pub record AllBegun (world : World) (n : ℕ) (d : DirectoryView) (f : ℕ → SweeperView) : Type 0 where
  pub is_world : IsWorld world
  pub listed : IsListed world
  pub count : world.sweepers ≡ n
  pub begun : (k : ℕ) → k < n → IsBegun world (f k)
  pub numbers : (k : ℕ) → k < n → (f k).share.number ≡ k
  pub directory : (k : ℕ) → k < n → (f k).places.directory ≡ d

-- a state of the core for which they stand in this world
pub record HaveState (world : World) (f : ℕ → SweeperView) : Type 0 where
  pub setting : Setting
  pub state : State
  pub together : StandTogether world setting f state

-- a run from f to g, at its end
pub record HaveRun (world : World) (f g : ℕ → SweeperView) : Type 0 where
  pub setting : Setting
  pub state : State
  pub together : StandTogether world setting f state
  pub ended : Ended world setting f g state

state_of : {world : World} {n : ℕ} {d : DirectoryView} {f : ℕ → SweeperView} → AllBegun world n d f
    → HaveState world f
state_of {world} {n} {d} {f} all =
    let setting = world_has_setting world all.listed in
    let within : (k : ℕ) → k < world.sweepers → k < n = λ k b. subst (λ m. k < m) all.count b in
    let start = start_stands world setting.0 (hands_of f) all.is_world setting.1
    (λ k b. ((all.begun k (within k b)).begins, all.numbers k (within k b))) in
    record {
      setting = setting.0;
      state = start.0;
      together = record {
        is_world = all.is_world;
        setting = setting.1;
        stand = start.1;
        ready = λ k b. (all.begun k (within k b)).ready;
      };
    }

-- what a run requires
pub whole_of : {world : World} {n : ℕ} {d : DirectoryView} {f : ℕ → SweeperView} → AllBegun world n d f
    → Whole n d f
whole_of {world} all =
    let s = state_of all in
    record {
      world = world;
      setting = s.setting;
      state = s.state;
      count = all.count;
      together = s.together;
      directory = all.directory;
    }

-- what it leads to, in this world
pub ended_of : {world : World} {n : ℕ} {d : DirectoryView} {f g : ℕ → SweeperView} → AllBegun world n d f
    → Ends n f g → HaveRun world f g
ended_of {world} all ends =
    let s = state_of all in
    record {
      setting = s.setting;
      state = s.state;
      together = s.together;
      ended = ends world s.setting s.state all.count s.together;
    }

-- what each sweeper is in the end
module _ {world : World} {f g : ℕ → SweeperView} (run : HaveRun world f g) (k : ℕ)
    (less : k < world.sweepers) where
  pub number_after : (g k).share.number ≡ k
  number_after = run.ended.led.after.stand.numbers k less

  pub sweepers_after : (g k).share.sweepers ≡ world.sweepers
  sweepers_after = sym (run.ended.led.ready k less).fits.sweepers

  pub tied_after : Tied world (hand_of (g k))
  tied_after = (run.ended.led.ready k less).ready.tied
