-- Where a collection has ended.
use Rattle.std.specs.Prelude.{◌≡◌, ◌≢◌, ℕ, ◌%◌, ◌<◌, List, length, slice_get, slice_index, None, Some}
use Rattle.gc_words.specs.declared.value.Value.{Value}
use Rattle.territory.specs.declared.territory.Targets.{Targets}
use Rattle.territory.specs.Territories.{TerritoryView}
use Rattle.sweep_share.specs.Shares.{AreFinished, IsShare}
use Rattle.sweep_share.specs.Registers.{item_at, register_in}
use Rattle.sweep_model.specs.World.{IsWorld}
use Rattle.sweep_model.specs.Hands.{Hand}
use Rattle.heap_store.specs.HeapView.{starts_in}
use Rattle.heap_store.specs.Changes.{HaveSoundCards}
use Rattle.heap_store.specs.Stands.{AreSettled}
use Rattle.sweeper.specs.Sweepers.{SweeperView}
use Rattle.sweep_rounds.specs.Turns.{sweeper_at}
use Rattle.collect_model.specs.Worlds.{HasEnded, KeepsOthers, world_in}
use Rattle.collector.specs.Dealt.{own_at}

-- The sweepers were ended: each has its territories finished. A register that its sweeper has holds what the sweeper's
-- holds, and every other is as it was.
pub record AreEnded (sweepers : List SweeperView) (owns : List (List TerritoryView)) (before after : List Value)
    : Type 0 where
  pub count : length owns ≡ length sweepers
  pub finished : (k : ℕ) (e : SweeperView) → k < length sweepers
      → AreFinished (sweeper_at sweepers e k).share.territories (own_at owns k)
  pub shares : (k : ℕ) (e : SweeperView) → k < length sweepers → IsShare (sweeper_at sweepers e k).share
  pub registers_count : length after ≡ length before
  pub registers : (k r : ℕ) (e : SweeperView) (v : Value) → k < length sweepers → r % length sweepers ≡ k
      → register_in (sweeper_at sweepers e k).registers r ≡ Some v → slice_get after r ≡ Some v
  pub others : (k r : ℕ) (e : SweeperView) → k < length sweepers → r % length sweepers ≡ k
      → register_in (sweeper_at sweepers e k).registers r ≡ None → slice_get after r ≡ slice_get before r

-- the registers with each of these in its place
pub record ArePut (old new : List Value) (own : List (ℕ × Value)) : Type 0 where
  pub count : length new ≡ length old
  pub put : (i : ℕ) → i < length own → slice_get new (item_at own i).0 ≡ Some (item_at own i).1
  pub others : (r : ℕ) → ((i : ℕ) → i < length own → (item_at own i).0 ≢ r) → slice_get new r ≡ slice_get old r

-- The territories and registers of a collection that has ended, and how many objects each sweeper copied.
pub record IsSwept (territories : List TerritoryView) (registers : List Value) (targets : Targets) (n : ℕ)
    (new_territories : List TerritoryView) (new_registers : List Value) (counts : List ℕ) : Type 0 where
  pub is_world : IsWorld (world_in territories registers targets n)
  pub hands : ℕ → Hand
  pub ended : HasEnded (world_in territories registers targets n) hands (starts_in new_territories) new_registers
  pub settled : AreSettled new_territories
  pub cards : HaveSoundCards new_territories
  pub others : KeepsOthers registers new_registers
  pub registers_count : length new_registers ≡ length registers
  pub count : length counts ≡ n
  pub copied : (k : ℕ) → k < n → slice_index counts k ≡ length (hands k).own
