-- When the sweepers are ended, each register that held an object holds what its sweeper's register holds.
use Rattle.std.proofs.Common.{◌≡◌, ℕ, ◌%◌, ◌<◌, false, List, length, option_map, slice_get, Option, None, Some, IsSome, refl, sym, ap, subst, ◌∙◌, inl, inr, ◌⊎◌}
use Rattle.std.proofs.lemmas.Bool.{both_ways, cases_lt}
use Rattle.std.proofs.Math.Nat.{mod-lt}
use Rattle.std.proofs.lemmas.Option.{none-some, slice_get_past}
use Rattle.gc_words.specs.declared.value.Value.{Value}
use Rattle.gc_words.specs.declared.value.Value.TheVariants as value
use Rattle.gc_mail.specs.declared.message.Slot.TheVariants as back
use Rattle.gc_mail.specs.Recipients.{holder_of}
use Rattle.sweep_share.specs.Registers.{AreRegistersOf, item_at, register_in}
use Rattle.sweep_share.proofs.Numbers.{holds}
use Rattle.sweep_model.specs.World.{World, asks, if_collected, object_in}
use Rattle.sweeper.specs.Sweepers.{SweeperView}
use Rattle.collect_model.specs.Worlds.{KeepsOthers, objects_only}
use Rattle.sweep_rounds.specs.Turns.{hands_of}
use Rattle.collector.proofs.Running.{HaveRun, number_after, sweepers_after, tied_after}

-- the registers of the world are those of these that hold objects
abbrev pub HasRegisters : World → List Value → Type 0
HasRegisters world registers = (r : ℕ) → world.registers r ≡ objects_only (slice_get registers r)

-- each register of each of these sweepers was put back, and the others are as they were
pub record ArePutBack (n : ℕ) (g : ℕ → SweeperView) (before after : List Value) : Type 0 where
  pub count : length after ≡ length before
  pub put : (k r : ℕ) (v : Value) → k < n → r % n ≡ k → register_in (g k).registers r ≡ Some v
      → slice_get after r ≡ Some v
  pub others : (k r : ℕ) → k < n → r % n ≡ k → register_in (g k).registers r ≡ None
      → slice_get after r ≡ slice_get before r

some_or_none : (o : Option ℕ) → ((t : ℕ) × (o ≡ Some t)) ⊎ (o ≡ None)
some_or_none None = inr refl
some_or_none (Some t) = inl (t, refl)

value_of : (o : Option Value) → IsSome o → (v : Value) × (o ≡ Some v)
value_of None some = absurd (both_ways false refl some)
value_of (Some v) some = (v, refl)

module _ {world : World} {f g : ℕ → SweeperView} (run : HaveRun world f g) (registers : List Value)
    (are : HasRegisters world registers) where
  -- each register of its own that held an object is there
  register_there : (k r : ℕ) → k < world.sweepers → r % world.sweepers ≡ k → IsSome (world.registers r)
      → (v : Value) × (register_in (g k).registers r ≡ Some v)
  register_there k r less own some = elim (some_or_none (asks world (back.Register r))) [
    | inl asked ↦
        let q = run.ended.done.registers r asked.0 asked.1 in
        (value.Object q.0, ap (λ j. register_in (g j).registers r) (sym own) ∙ q.2)
    | inr plain ↦
        let v = value_of (world.registers r) some in
        (v.0, (tied_after run k less).registers r (own ∙ sym (number_after run k less)) plain ∙ v.1)
  ]

  -- and a register that is there is one of these
  there_within : (k r : ℕ) (v : Value) → k < world.sweepers → r % world.sweepers ≡ k
      → register_in (g k).registers r ≡ Some v → r < length registers
  there_within k r v less own here = elim (cases_lt r (length registers)) [
    | inl within ↦ within
    | inr past ↦
        let none : world.registers r ≡ None = are r ∙ ap objects_only (slice_get_past registers r past) in
        let plain : asks world (back.Register r) ≡ None = ap (λ o. if_collected world (object_in o)) none in
        let kept = (tied_after run k less).registers r (own ∙ sym (number_after run k less)) plain in
        absurd (none-some v (sym none ∙ sym kept ∙ here))
  ]

  -- what a register that held an object holds afterwards is what its sweeper's holds
  pub registers_after : {after : List Value} → ArePutBack world.sweepers g registers after
      → (r : ℕ) (v : Value) → IsSome (world.registers r) → slice_get after r ≡ Some v
      → (hands_of g (holder_of world.sweepers (back.Register r))).register r ≡ Some v
  registers_after {after} put r v held e =
      let some = run.together.is_world.some in
      let less : r % world.sweepers < world.sweepers = mod-lt r some in
      let there = register_there (r % world.sweepers) r less refl held in
      let back_there : slice_get after r ≡ Some there.0 = put.put (r % world.sweepers) r there.0 less refl there.1 in
      there.1 ∙ sym back_there ∙ e

  -- and the others hold what they held
  pub others_after : {after : List Value} → ArePutBack world.sweepers g registers after → KeepsOthers registers after
  others_after {after} put r none =
      let some = run.together.is_world.some in
      let less : r % world.sweepers < world.sweepers = mod-lt r some in
      let held : world.registers r ≡ None = are r ∙ ap (option_map value.Object) none in
      let plain : asks world (back.Register r) ≡ None = ap (λ o. if_collected world (object_in o)) held in
      let kept =
      (tied_after run (r % world.sweepers) less).registers r (sym (number_after run (r % world.sweepers) less)) plain in
      put.others (r % world.sweepers) r less refl (kept ∙ held)

  -- each register that a sweeper puts back is one of these
  pub registers_within : (k i : ℕ) → k < world.sweepers → i < length (g k).registers.items
      → AreRegistersOf k world.sweepers (g k).registers.items
      → (item_at (g k).registers.items i).0 < length registers
  registers_within k i less inside numbers =
      let joined = (run.ended.led.ready k less).joined in
      let number : (g k).registers.number ≡ k = joined.registers ∙ number_after run k less in
      let count : (g k).registers.sweepers ≡ world.sweepers =
      joined.register_count ∙ sweepers_after run k less in
      let item = item_at (g k).registers.items i in
      let here : register_in (g k).registers item.0 ≡ Some item.1 =
      holds (g k).registers i item
      (subst (λ m. AreRegistersOf m (g k).registers.sweepers (g k).registers.items) (sym number)
      (subst (λ m. AreRegistersOf k m (g k).registers.items) (sym count) numbers))
      inside refl in
      there_within k item.0 item.1 less (numbers.numbers i inside) here
