-- A heap as a world: where its collection begins, and where it has ended.
use Rattle.std.specs.Prelude.{◌≡◌, ℕ, ◌<◌, false, List, option_map, slice_get, Option, None, Some, IsSome, Contains, ◌⊎◌}
use Rattle.gc_words.specs.declared.value.Value.{Value}
use Rattle.gc_words.specs.declared.value.Value.TheVariants.{Object}
use Rattle.trace_types.specs.Collections.{Arguments}
use Rattle.segment.specs.Segments.{Start}
use Rattle.territory.specs.declared.territory.Targets.{Targets}
use Rattle.territory.specs.Territories.{TerritoryView}
use Rattle.gc_mail.specs.declared.message.Slot.TheVariants as back
use Rattle.gc_mail.specs.Recipients.{holder_of, owner}
use Rattle.owned_core.specs.Settings.{Setting}
use Rattle.owned_core.specs.Owned.{State}
use Rattle.sweep_model.specs.World.{World, is_collected, object_in}
use Rattle.sweep_model.specs.Settings.{IsSettingOf}
use Rattle.sweep_model.specs.Hands.{Hand, Tied}
use Rattle.sweep_model.specs.Wholes.{AreDone}
use Rattle.heap_store.specs.Starts.{Starts}
use Rattle.heap_store.specs.HeapView.{HeapView, starts_in}

-- what a register holds, where that is an object
abbrev pub objects_only : Option Value → Option Value
objects_only held = option_map Object (object_in held)

-- what starts in territories and which objects registers hold, as n sweepers begin
abbrev pub world_in : List TerritoryView → List Value → Targets → ℕ → World
world_in territories registers targets n = record {
  image = starts_in territories;
  registers = λ r. objects_only (slice_get registers r);
  sweepers = n;
  targets = targets;
}

abbrev pub world_of : HeapView → Targets → ℕ → World
world_of h targets n = world_in h.territories h.registers targets n

-- the arguments of a collection with these targets
abbrev pub arguments_of : Targets → Arguments
arguments_of targets = record { cg = targets.cg; least = targets.min; greatest = targets.max }

-- The sweepers have come to their end. What starts afterwards, g, is what they have: older objects where they
-- were, and copies at their places. The registers that held objects hold what the sweepers' registers hold.
pub record HasEnded (world : World) (hands : ℕ → Hand) (g : Starts) (held : List Value) : Type 0 where
  pub setting : Setting
  pub is_setting : IsSettingOf world setting
  pub state : State
  pub done : AreDone world setting hands state
  pub tied : (k : ℕ) → k < world.sweepers → Tied world (hands k)
  pub numbers : (k : ℕ) → k < world.sweepers → (hands k).number ≡ k
  pub older : (x : ℕ) (y : Start) → world.image x ≡ Some y → is_collected world x ≡ false
      → g x ≡ (hands (owner world.sweepers x)).now x
  pub copies : (x p : ℕ) → Contains (hands (owner world.sweepers x)).own (x, p)
      → g p ≡ (hands (owner world.sweepers x)).now p
  pub only : (p : ℕ) (y : Start) → g p ≡ Some y
      → (IsSome (world.image p) × (is_collected world p ≡ false))
      ⊎ ((x : ℕ) × Contains (hands (owner world.sweepers x)).own (x, p))
  pub registers : (r : ℕ) (v : Value) → IsSome (world.registers r) → slice_get held r ≡ Some v
      → (hands (holder_of world.sweepers (back.Register r))).register r ≡ Some v

-- the registers that held no objects are as they were
abbrev pub KeepsOthers : List Value → List Value → Type 0
KeepsOthers before after = (r : ℕ) → object_in (slice_get before r) ≡ None → slice_get after r ≡ slice_get before r
