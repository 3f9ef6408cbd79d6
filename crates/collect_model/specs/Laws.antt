-- What the laws of a heap's collection say.
use Rattle.std.specs.Prelude.{◌≡◌, ℕ, ◌<◌, List, length, IsTrue, Some}
use Rattle.gc_words.specs.declared.value.Value.{Value}
use Rattle.trace_types.specs.States.{State}
use Rattle.trace_types.specs.Rules.{has, least}
use Rattle.trace_types.specs.Kept.{kept}
use Rattle.trace_types.specs.Collections.{are_allowed, collect}
use Rattle.segment.specs.Segments.{Start}
use Rattle.territory.specs.declared.territory.Targets.{Targets}
use Rattle.territory.specs.Territories.{TerritoryView}
use Rattle.owned_core.specs.Settings.{Setting, rules_of}
use Rattle.sweep_model.specs.World.{IsWorld}
use Rattle.sweep_model.specs.Settings.{IsSettingOf}
use Rattle.sweep_model.specs.Hands.{Hand}
use Rattle.heap_store.specs.HeapView.{HeapView, starts_in, starts_of}
use Rattle.heap_store.specs.Plain.{IsPlain}
use Rattle.heap_store.specs.Stands.{AreSettled, Stands}
use Rattle.collect_model.specs.Worlds.{HasEnded, KeepsOthers, arguments_of, world_of}
use Rattle.collect_model.specs.Counts.{copied_by}

-- what is kept by births is what the rules reach over addresses
abbrev pub KeptIsLeast : Type 0
KeptIsLeast =
    (h : HeapView) (s : State) (targets : Targets) (n : ℕ) (w : Setting) → Stands h s → IsPlain h
    → IsSettingOf (world_of h targets n) w → (p : ℕ) (x : Start) → starts_of h p ≡ Some x
    → has (kept s targets.cg) x.birth ≡ has (least (rules_of w)) p

-- Where a collection of a heap has ended, the heap of what starts then stands for the collected state. It has
-- no other kinds of objects than before.
abbrev pub CollectedStands : Type 0
CollectedStands =
    (h : HeapView) (s : State) (targets : Targets) (n : ℕ) (hands : ℕ → Hand)
    (territories : List TerritoryView) (registers : List Value)
    → Stands h s → IsPlain h → IsWorld (world_of h targets n)
    → IsTrue (are_allowed s.version s.oldest (arguments_of targets)) → AreSettled territories
    → HasEnded (world_of h targets n) hands (starts_in territories) registers
    → KeepsOthers h.registers registers → length registers ≡ length h.registers
    → Stands (record h { territories = territories; registers = registers })
    (collect s (arguments_of targets))
    × IsPlain (record h { territories = territories; registers = registers })

-- and each sweeper copied what its threads' kept objects add up to
abbrev pub CopiesAreCounted : Type 0
CopiesAreCounted =
    (h : HeapView) (s : State) (targets : Targets) (n : ℕ) (hands : ℕ → Hand)
    (territories : List TerritoryView) (registers : List Value)
    → Stands h s → IsPlain h → IsWorld (world_of h targets n)
    → HasEnded (world_of h targets n) hands (starts_in territories) registers
    → (k : ℕ) → k < n → length (hands k).own ≡ copied_by s targets.cg n k
