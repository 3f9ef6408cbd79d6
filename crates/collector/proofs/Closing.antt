-- Sweepers are ended one by one: no register of one is of another, so what was put stays.
use Rattle.std.proofs.Common.{◌≡◌, ◌≢◌, ℕ, ◌+◌, ◌%◌, ◌<◌, ◌≤◌, List, [], ◌∷◌, ◌++◌, length, None, Some, refl, sym, ◌∙◌, ap, subst, inl, inr, arith}
use Rattle.std.specs.List.{slice_get}
use Rattle.std.proofs.lemmas.Bool.{cases_lt}
use Rattle.std.proofs.lemmas.List.{get_or_append_left, get_or_default, get_or_push, length_push}
use Rattle.std.proofs.lemmas.Option.{none-some}
use Rattle.gc_words.specs.declared.value.Value.{Value}
use Rattle.territory.specs.Territories.{TerritoryView}
use Rattle.sweep_share.specs.Shares.{AreFinished, IsShare}
use Rattle.sweep_share.specs.Registers.{AreRegistersOf, item_at, register_in}
use Rattle.sweep_share.proofs.Numbers.{found_at, holds}
use Rattle.sweeper.specs.Sweepers.{SweeperView}
use Rattle.sweep_rounds.specs.Turns.{sweeper_at}
use Rattle.collector.specs.Dealt.{own_at}
use Rattle.collector.specs.Swept.{ArePut}

-- ---- ended sweepers

-- sweeper k has registers k, k + n and so on
abbrev pub AreNumbered : List SweeperView → Type 0
AreNumbered sweepers =
    (k : ℕ) (e : SweeperView) → k < length sweepers
    → ((sweeper_at sweepers e k).registers.number ≡ k)
    × ((sweeper_at sweepers e k).registers.sweepers ≡ length sweepers)

-- the first n sweepers were ended
pub record AreEndedSoFar (sweepers : List SweeperView) (owns : List (List TerritoryView))
    (before after : List Value) (n : ℕ) : Type 0 where
  pub count : length owns ≡ n
  pub finished : (k : ℕ) (e : SweeperView) → k < n
      → AreFinished (sweeper_at sweepers e k).share.territories (own_at owns k)
  pub shares : (k : ℕ) (e : SweeperView) → k < n → IsShare (sweeper_at sweepers e k).share
  pub registers_count : length after ≡ length before
  pub registers : (k r : ℕ) (e : SweeperView) (v : Value) → k < n → r % length sweepers ≡ k
      → register_in (sweeper_at sweepers e k).registers r ≡ Some v → slice_get after r ≡ Some v
  pub others : (k r : ℕ) (e : SweeperView) → k < n → r % length sweepers ≡ k
      → register_in (sweeper_at sweepers e k).registers r ≡ None → slice_get after r ≡ slice_get before r
  pub rest : (r : ℕ) → n ≤ r % length sweepers → slice_get after r ≡ slice_get before r

module _ (sweepers : List SweeperView) (owns : List (List TerritoryView)) (own : List TerritoryView)
    (before now new : List Value) (n : ℕ) (v : SweeperView) (numbered : AreNumbered sweepers)
    (so : AreEndedSoFar sweepers owns before now n) (inside : n < length sweepers)
    (is : v ≡ sweeper_at sweepers v n)
    (of : AreRegistersOf v.registers.number v.registers.sweepers v.registers.items)
    (put : ArePut now new v.registers.items) where
  -- it is the next sweeper of the list
  next : (e : SweeperView) → sweeper_at sweepers e n ≡ v
  next e = get_or_default sweepers n e v inside ∙ sym is

  -- its registers hold what they held
  its : (r : ℕ) (u : Value) → register_in v.registers r ≡ Some u → slice_get new r ≡ Some u
  its r u holds =
      let f = found_at v.registers.items r u holds in
      sym (ap (slice_get new) f.1.number) ∙ (put.put f.0 f.1.within ∙ ap Some f.1.value)

  -- their numbers are its own
  its_number : (i : ℕ) → i < length v.registers.items → (item_at v.registers.items i).0 % length sweepers ≡ n
  its_number i within =
      let here = numbered n v inside in
      let mine : v.registers.number ≡ n = ap (λ (w : SweeperView). w.registers.number) is ∙ here.0 in
      let count : v.registers.sweepers ≡ length sweepers =
      ap (λ (w : SweeperView). w.registers.sweepers) is ∙ here.1 in
      ap (λ m. (item_at v.registers.items i).0 % m) (sym count) ∙ (of.numbers i within ∙ mine)

  -- so a register of another sweeper is as it was
  other : (r : ℕ) → r % length sweepers ≢ n → slice_get new r ≡ slice_get now r
  other r ne = put.others r (λ i within same. ne (ap (λ m. m % length sweepers) (sym same) ∙ its_number i within))

  -- and one that it does not have
  missing : (r : ℕ) → register_in v.registers r ≡ None → slice_get new r ≡ slice_get now r
  missing r none = put.others r (λ i within same.
      none-some (item_at v.registers.items i).1
      (sym none ∙ subst (λ q. register_in v.registers q ≡ Some (item_at v.registers.items i).1) same
      (holds v.registers i (item_at v.registers.items i) of within refl)))

  -- with it they are one more
  pub ended_more : AreFinished v.share.territories own → IsShare v.share
      → AreEndedSoFar sweepers (owns ++ own ∷ []) before new (n + 1)
  ended_more done share = record {
    count = length_push owns own ∙ ap (λ k. k + 1) so.count;
    finished = λ k e below. elim (cases_lt k n) [
      | inl low ↦
          subst (AreFinished (sweeper_at sweepers e k).share.territories)
          (sym (get_or_append_left owns (own ∷ []) [] k (omega (arith, low, so.count)))) (so.finished k e low)
      | inr far ↦
          let same : n ≡ k = omega (arith, below, far) in
          subst (λ j. AreFinished (sweeper_at sweepers e j).share.territories (own_at (owns ++ own ∷ []) j))
          same
          (subst (AreFinished (sweeper_at sweepers e n).share.territories)
          (sym (get_or_push owns own [] n so.count))
          (subst (λ (w : SweeperView). AreFinished w.share.territories own) (sym (next e)) done))
    ];
    shares = λ k e below. elim (cases_lt k n) [
      | inl low ↦ so.shares k e low
      | inr far ↦
          let same : n ≡ k = omega (arith, below, far) in
          subst (λ j. IsShare (sweeper_at sweepers e j).share) same
          (subst (λ (w : SweeperView). IsShare w.share) (sym (next e)) share)
    ];
    registers_count = put.count ∙ so.registers_count;
    registers = λ k r e u below mine holds. elim (cases_lt k n) [
      | inl low ↦ other r (λ e. omega (arith, e, mine, low)) ∙ so.registers k r e u low mine holds
      | inr far ↦ its r u (sym (here k r e (omega (arith, below, far))) ∙ holds)
    ];
    others = λ k r e below mine none. elim (cases_lt k n) [
      | inl low ↦ other r (λ e. omega (arith, e, mine, low)) ∙ so.others k r e low mine none
      | inr far ↦
          missing r (sym (here k r e (omega (arith, below, far))) ∙ none) ∙ so.rest r (omega (arith, mine, far))
    ];
    rest = λ r past. other r (λ e. omega (arith, e, past)) ∙ so.rest r (omega (arith, past));
  }
    where
      here : (k r : ℕ) (e : SweeperView) → k ≡ n
          → register_in (sweeper_at sweepers e k).registers r ≡ register_in v.registers r
      here k r e same =
          ap (λ (w : SweeperView). register_in w.registers r) (ap (sweeper_at sweepers e) same ∙ next e)
