-- The territories of all sweepers that are ended, gathered again, are settled.
use Rattle.std.proofs.Common.{◌≡◌, ℕ, ◌+◌, ◌*◌, ◌/◌, ◌%◌, ◌<◌, Bool, true, false, cond, List, [], length, slice_get, slice_index_or, Option, None, Some, refl, sym, ap, subst, ◌∙◌, arith}
use Rattle.std.proofs.lemmas.Nat.{div-mul-add, mod-mul-add}
use Rattle.std.proofs.lemmas.Option.{none-some, same_Some}
use Rattle.std.specs.FinMap.{get}
use Rattle.gc_words.specs.Layout.{segment_of}
use Rattle.territory.specs.declared.territory.Targets.{Targets}
use Rattle.territory.specs.Territories.{HaveAddresses, SegmentView, TerritoryView, no_territory, segment_at}
use Rattle.territory.specs.Finishing.{when_finished}
use Rattle.sweep_share.specs.Shares.{IsFinished}
use Rattle.heap_store.specs.Changes.{HasNoFrom}
use Rattle.heap_store.specs.Stands.{AreSettled}
use Rattle.sweeper.specs.Sweepers.{SweeperView}
use Rattle.collector.specs.Dealt.{AreGathered, AreWhole, own_at}
use Rattle.collector.proofs.Returned.{AreReturned, inside_after, is_after, is_thread, thread_after, thread_finished, was_there}

-- no from-segment is left
none_from : (targets : Targets) (n : ℕ) (o : Option SegmentView) (p : SegmentView)
    → when_finished targets [] n o ≡ Some p → p.is_from ≡ false
none_from targets n None p e = absurd (none-some p e)
none_from targets n (Some s) p e = by s.is_from refl e
  where
    by : (b : Bool) → s.is_from ≡ b → cond b None (Some s) ≡ Some p → p.is_from ≡ false
    by true is h = absurd (none-some p h)
    by false is h = ap (λ (v : SegmentView). v.is_from) (sym (same_Some s p h)) ∙ is

pub finished_no_from : {t u : TerritoryView} → IsFinished t u → HasNoFrom u
finished_no_from {t} {u} finished n p e =
    none_from t.targets n (segment_at t n) p (sym (finished.segments n) ∙ e)

-- what starts in a finished territory started there
pub finished_addresses : {t u : TerritoryView} → IsFinished t u → HaveAddresses t → HaveAddresses u
finished_addresses {t} {u} finished addresses a x here =
    let was : get t.starts a ≡ Some x =
    was_there t.targets a (segment_at t (segment_of a)) (get t.starts a) x (sym (finished.starts a) ∙ here) in
    let at = addresses a x was in
    (at.0, at.1 ∙ sym finished.thread)

-- each start of each territory has an address of its thread
abbrev pub HaveAllAddresses : List TerritoryView → Type 0
HaveAllAddresses territories =
    (i : ℕ) (t : TerritoryView) → slice_get territories i ≡ Some t → HaveAddresses t

module _ {n : ℕ} {g : ℕ → SweeperView} {owns : List (List TerritoryView)} (back : AreReturned n g owns) where
  module _ {new : List TerritoryView} (gathered : AreGathered n owns new) where
    pub gathered_threads : (i : ℕ) (t : TerritoryView) → slice_get new i ≡ Some t → t.thread ≡ i
    gathered_threads i t e =
        ap (λ (u : TerritoryView). u.thread) (sym (is_after back gathered i t e))
        ∙ thread_after back i (is_thread back gathered i t e)

    pub gathered_settled : HaveAllAddresses new → AreSettled new
    gathered_settled addresses = record {
      count = gathered.count;
      threads = gathered_threads;
      placed = λ i t a x e here. (addresses i t e a x here).1 ∙ gathered_threads i t e;
      no_from = λ i t e. subst HasNoFrom (is_after back gathered i t e)
          (finished_no_from (thread_finished back i (is_thread back gathered i t e)));
    }

    -- they have addresses, where the finished territories of each sweeper have
    pub addresses_after : ((k i : ℕ) → k < n → i < length (own_at owns k)
        → HaveAddresses (slice_index_or (own_at owns k) i (no_territory 0))) → HaveAllAddresses new
    addresses_after each i t e =
        let some : 0 < n = back.some in
        let small : i < 64 = is_thread back gathered i t e in
        subst HaveAddresses (is_after back gathered i t e)
        (each (i % n) (i / n) (omega arith) (inside_after back i small))

  -- and these have them, where those of its share had
  pub addresses_finished : ((k i : ℕ) → k < n → i < length (g k).share.territories
      → HaveAddresses (slice_index_or (g k).share.territories i (no_territory 0)))
      → (k i : ℕ) → k < n → i < length (own_at owns k)
      → HaveAddresses (slice_index_or (own_at owns k) i (no_territory 0))
  addresses_finished each k i less inside =
      let finished = back.finished k less in
      let before : i < length (g k).share.territories = subst (λ m. i < m) finished.count inside in
      finished_addresses (finished.each i before) (each k i less before)

  -- each sweeper has as many as there are threads for it, where no territory is of another thread
  pub gathered_whole : ((k i : ℕ) → k < n → i < length (g k).share.territories
      → (slice_index_or (g k).share.territories i (no_territory 0)).thread < 64) → AreWhole n owns
  gathered_whole threads k i less =
      let count : length (own_at owns k) ≡ length (g k).share.territories = (back.finished k less).count in (
        λ inside.
            let before : i < length (g k).share.territories = omega arith in
            subst (λ m. m < 64) ((back.shares k less).threads i before) (threads k i less before),
        λ small.
            let is : k + i * n ≡ i * n + k = omega arith in
            let own : (k + i * n) % n ≡ k = ap (λ m. m % n) is ∙ mod-mul-add i n k less in
            let place : (k + i * n) / n ≡ i = ap (λ m. m / n) is ∙ div-mul-add i n k less in
            let before : i < length (g k).share.territories =
            subst (λ m. m < length (g k).share.territories) place
            ((back.shares k less).covers (k + i * n) small own) in
            omega arith,
      )
