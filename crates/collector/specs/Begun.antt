-- Where a collection begins.
use Rattle.std.specs.Prelude.{◌≡◌, ℕ, ◌<◌, ◌≤◌, List, length, option_map, slice_get, Option, Some, IsSome}
use Rattle.gc_words.specs.declared.value.Value.{Value}
use Rattle.segment.specs.Segments.{Start}
use Rattle.territory.specs.declared.territory.Targets.{Targets}
use Rattle.territory.specs.Territories.{AreCardsSound, AreShaped, HaveAddresses, LieInSegments, Refers, TerritoryView, segment_at, when_begun}
use Rattle.directory.specs.Directories.{DirectoryView, sweeper_count}
use Rattle.sweep_model.specs.World.{IsWorld, World, object_in, strong_value}
use Rattle.heap_store.specs.HeapView.{starts_in}
use Rattle.heap_store.specs.Changes.{HaveSoundCards}
use Rattle.heap_store.specs.Stands.{AreSettled}
use Rattle.sweeper.specs.Sweepers.{SweeperView}
use Rattle.sweeper.specs.Starting.{IsBeginning, IsBegun}
use Rattle.sweep_rounds.specs.Turns.{sweeper_at}
use Rattle.collector.specs.Dealt.{AreRegistersDealtTo, own_at}

-- Territories and registers that can be collected with these targets: cards are sound, what a field, strong or not, or a
-- register refers to starts somewhere, and what is not collected is of no generation below one to which something goes.
pub record AreCollectable (territories : List TerritoryView) (registers : List Value) (targets : Targets) : Type 0 where
  pub settled : AreSettled territories
  pub cards : HaveSoundCards territories
  pub fields : (a i b : ℕ) → object_in (strong_value (starts_in territories a) i) ≡ Some b
      → IsSome (starts_in territories b)
  pub refers : (a i b : ℕ) (x : Start) → starts_in territories a ≡ Some x → Refers x i b
      → IsSome (starts_in territories b)
  pub held : (r b : ℕ) → object_in (slice_get registers r) ≡ Some b → IsSome (starts_in territories b)
  pub count : length registers ≡ 4096
  pub least : targets.cg ≤ targets.min
  pub greatest : targets.min ≤ targets.max
  pub generations : targets.max ≤ 8
  pub above : (a : ℕ) (x : Start) → starts_in territories a ≡ Some x → targets.cg < x.generation
      → targets.max ≤ x.generation

-- a territory as it is when its collection has begun
pub record HasBegun (old new : TerritoryView) (targets : Targets) : Type 0 where
  pub starts : new.starts ≡ old.starts
  pub segments : (n : ℕ) → segment_at new n ≡ option_map (when_begun targets.cg) (segment_at old n)
  pub thread : new.thread ≡ old.thread
  pub its_targets : new.targets ≡ targets
  pub sound : (generation_at : ℕ → Option ℕ) → AreCardsSound generation_at old → AreCardsSound generation_at new
  pub addresses : HaveAddresses new
  pub shaped : AreShaped new
  pub lie : LieInSegments new

pub record HaveBegun (old new : List TerritoryView) (targets : Targets) : Type 0 where
  pub count : length new ≡ length old
  pub each : (i : ℕ) (t u : TerritoryView) → slice_get old i ≡ Some t → slice_get new i ≡ Some u → HasBegun t u targets

-- sweeper k, made with a directory of territories that have begun, of its own ones
pub record IsMade (d : DirectoryView) (own : List TerritoryView) (registers : List Value) (k : ℕ) (v : SweeperView)
    : Type 0 where
  pub own_registers : List (ℕ × Value)
  pub dealt : AreRegistersDealtTo (sweeper_count d) k registers own_registers
  pub begun : (world : World) → IsWorld world → IsBeginning world k d own own_registers → IsBegun world v
  pub directory : v.places.directory ≡ d
  pub number : v.share.number ≡ k

pub record AreMade (d : DirectoryView) (owns : List (List TerritoryView)) (registers : List Value)
    (sweepers : List SweeperView) : Type 0 where
  pub count : length sweepers ≡ length owns
  pub each : (k : ℕ) (e : SweeperView) → k < length sweepers
      → IsMade d (own_at owns k) registers k (sweeper_at sweepers e k)
