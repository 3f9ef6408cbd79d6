-- What is left of a collection when its sweepers are ended and their territories gathered.
use Rattle.std.proofs.Common.{◌≡◌, ℕ, ◌%◌, ◌<◌, List, length, slice_index, sym, ap, subst, ◌∙◌, refl}
use Rattle.gc_words.specs.declared.value.Value.{Value}
use Rattle.territory.specs.declared.territory.Targets.{Targets}
use Rattle.territory.specs.Territories.{TerritoryView}
use Rattle.directory.specs.Directories.{DirectoryView}
use Rattle.heap_store.specs.HeapView.{starts_in}
use Rattle.sweep_share.specs.Shares.{AreShareOf}
use Rattle.sweeper.specs.Sweepers.{SweeperView}
use Rattle.sweeper.specs.Ready.{IsOrdered}
use Rattle.sweep_rounds.specs.Turns.{Ends, hands_of, sweeper_at}
use Rattle.collector.specs.Dealt.{AreGathered}
use Rattle.collect_model.specs.Worlds.{HasEnded, world_in}
use Rattle.collector.specs.Swept.{AreEnded, IsSwept}
use Rattle.collector.proofs.Running.{AllBegun, HaveRun, ended_of}
use Rattle.collector.proofs.Returned.{AreReturned}
use Rattle.collector.proofs.EndedRegisters.{ArePutBack, others_after}
use Rattle.collector.proofs.Ended.{has_ended}
use Rattle.collector.proofs.Gathered.{HaveAllAddresses, gathered_settled}
use Rattle.collector.proofs.GatheredCards.{gathered_sound}

-- what is returned and put back, of sweepers of a list
module _ {sweepers : List SweeperView} {owns : List (List TerritoryView)} {before after : List Value} (n : ℕ)
    (e : SweeperView) (count : length sweepers ≡ n) (ended : AreEnded sweepers owns before after) where
  within : (k : ℕ) → k < n → k < length sweepers
  within k less = subst (λ m. k < m) (sym count) less

  own : (k r : ℕ) → r % n ≡ k → r % length sweepers ≡ k
  own k r mine = ap (λ m. r % m) count ∙ mine

  pub returned_of : 0 < n → ((k : ℕ) → k < n → AreShareOf k n (sweeper_at sweepers e k).share.territories)
      → AreReturned n (sweeper_at sweepers e) owns
  returned_of some shares =
      record { some = some; shares = shares; finished = λ k less. ended.finished k e (within k less) }

  pub put_back_of : ArePutBack n (sweeper_at sweepers e) before after
  put_back_of = record {
    count = ended.registers_count;
    put = λ k r v less mine here. ended.registers k r e v (within k less) (own k r mine) here;
    others = λ k r less mine none. ended.others k r e (within k less) (own k r mine) none;
  }

-- how many objects each of these has copied
abbrev pub AreCopied : ℕ → (ℕ → SweeperView) → List ℕ → Type 0
AreCopied n g counts =
    (length counts ≡ n) × ((k : ℕ) → k < n → slice_index counts k ≡ length (g k).places.own)

-- a sweeper's hand has as many as the sweeper tells
pub copied_is : (g : ℕ → SweeperView) (k : ℕ) → length (hands_of g k).own ≡ length (g k).places.own
copied_is g k = refl

-- the whole, from what the calls of a collection tell
pub is_swept : {old : List TerritoryView} {registers : List Value} {targets : Targets} {n : ℕ}
    {d : DirectoryView} {f : ℕ → SweeperView} {sweepers : List SweeperView} {owns : List (List TerritoryView)}
    {new : List TerritoryView} {new_registers : List Value} (counts : List ℕ) (e : SweeperView)
    → AllBegun (world_in old registers targets n) n d f → IsOrdered (world_in old registers targets n)
    → Ends n f (sweeper_at sweepers e) → length sweepers ≡ n
    → AreEnded sweepers owns registers new_registers → AreReturned n (sweeper_at sweepers e) owns
    → AreGathered n owns new → HaveAllAddresses new → AreCopied n (sweeper_at sweepers e) counts
    → IsSwept old registers targets n new new_registers counts
is_swept {old} {registers} {targets} {n} {d} {f} {sweepers} {owns} {new} {new_registers} counts e all
    ordered ends count ended back gathered addresses copied =
    let run : HaveRun (world_in old registers targets n) f (sweeper_at sweepers e) = ended_of all ends in
    let put : ArePutBack n (sweeper_at sweepers e) registers new_registers = put_back_of n e count ended in
    let last : HasEnded (world_in old registers targets n) (hands_of (sweeper_at sweepers e)) (starts_in new)
    new_registers = has_ended old registers targets n run back gathered put in
    record {
      is_world = all.is_world;
      hands = hands_of (sweeper_at sweepers e);
      ended = last;
      settled = gathered_settled back gathered addresses;
      cards = gathered_sound run ordered all.begun back gathered last;
      others = others_after run registers (λ r. refl) put;
      registers_count = ended.registers_count;
      count = copied.0;
      copied = copied.1;
    }
