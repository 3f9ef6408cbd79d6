-- When the sweepers are ended, a heap has ended its collection.
use Rattle.std.proofs.Common.{ℕ, List, refl}
use Rattle.gc_words.specs.declared.value.Value.{Value}
use Rattle.territory.specs.declared.territory.Targets.{Targets}
use Rattle.territory.specs.Territories.{TerritoryView}
use Rattle.heap_store.specs.HeapView.{starts_in}
use Rattle.sweeper.specs.Sweepers.{SweeperView}
use Rattle.sweep_rounds.specs.Turns.{hands_of}
use Rattle.collect_model.specs.Worlds.{HasEnded, world_in}
use Rattle.collector.specs.Dealt.{AreGathered}
use Rattle.collector.proofs.Running.{HaveRun, number_after, tied_after}
use Rattle.collector.proofs.Returned.{AreReturned}
use Rattle.collector.proofs.EndedStarts.{copies_after, older_after, only_after}
use Rattle.collector.proofs.EndedRegisters.{ArePutBack, registers_after}

pub has_ended : (old : List TerritoryView) (registers : List Value) (targets : Targets) (n : ℕ)
    {f g : ℕ → SweeperView} {owns : List (List TerritoryView)} {new : List TerritoryView}
    {new_registers : List Value} → HaveRun (world_in old registers targets n) f g → AreReturned n g owns
    → AreGathered n owns new → ArePutBack n g registers new_registers
    → HasEnded (world_in old registers targets n) (hands_of g) (starts_in new) new_registers
has_ended old registers targets n run back gathered put = record {
  setting = run.setting;
  is_setting = run.together.setting;
  state = run.ended.led.after.state;
  done = run.ended.done;
  tied = λ k less. tied_after run k less;
  numbers = λ k less. number_after run k less;
  older = older_after run back gathered;
  copies = copies_after run back gathered;
  only = only_after run back gathered;
  registers = registers_after run registers (λ r. refl) put;
}
