-- The territory of each thread when the sweepers are ended, and what starts there.
use Rattle.std.proofs.Common.{◌≡◌, ℕ, ◌/◌, ◌%◌, ◌<◌, Bool, true, false, cond, List, [], length, slice_get, slice_index_or, Option, None, Some, refl, sym, ap, subst, ◌∙◌, arith}
use Rattle.std.proofs.lemmas.Option.{none-some, same_Some, slice_get-get_or, slice_get_within}
use Rattle.std.specs.FinMap.{get}
use Rattle.gc_words.specs.Layout.{segment_of, thread_of}
use Rattle.gc_mail.specs.Recipients.{owner}
use Rattle.segment.specs.Segments.{Start}
use Rattle.territory.specs.declared.territory.Targets.{Targets}
use Rattle.territory.specs.Territories.{SegmentView, TerritoryView, no_territory, segment_at}
use Rattle.territory.specs.Finishing.{start_finished}
use Rattle.sweep_share.specs.Shares.{AreFinished, AreShareOf, IsFinished, is_aside, is_from_one, start_in, territory_of}
use Rattle.sweep_share.proofs.Places.{own_start}
use Rattle.heap_store.specs.HeapView.{start_in as start_in_option, starts_in}
use Rattle.sweeper.specs.Sweepers.{SweeperView}
use Rattle.collector.specs.Dealt.{AreGathered, own_at}

-- The shares of n sweepers are whole, and the territories of each are finished.
pub record AreReturned (n : ℕ) (g : ℕ → SweeperView) (owns : List (List TerritoryView)) : Type 0 where
  pub some : 0 < n
  pub shares : (k : ℕ) → k < n → AreShareOf k n (g k).share.territories
  pub finished : (k : ℕ) → k < n → AreFinished (g k).share.territories (own_at owns k)

-- the territory of thread t, before and after
abbrev pub territory_before : ℕ → (ℕ → SweeperView) → ℕ → TerritoryView
territory_before n g t = slice_index_or (g (t % n)).share.territories (t / n) (no_territory 0)

abbrev pub territory_after : ℕ → List (List TerritoryView) → ℕ → TerritoryView
territory_after n owns t = slice_index_or (own_at owns (t % n)) (t / n) (no_territory 0)

-- they are there, of this thread, and the one is the other finished
module _ {n : ℕ} {g : ℕ → SweeperView} {owns : List (List TerritoryView)} (back : AreReturned n g owns)
    (t : ℕ) (small : t < 64) where
  less : t % n < n
  less = let some = back.some in omega arith

  pub inside_before : t / n < length (g (t % n)).share.territories
  inside_before = (back.shares (t % n) less).covers t small refl

  pub inside_after : t / n < length (own_at owns (t % n))
  inside_after = subst (λ m. t / n < m) (sym (back.finished (t % n) less).count) inside_before

  pub thread_finished : IsFinished (territory_before n g t) (territory_after n owns t)
  thread_finished = (back.finished (t % n) less).each (t / n) inside_before

  pub thread_before : (territory_before n g t).thread ≡ t
  thread_before =
      let some = back.some in
      (back.shares (t % n) less).threads (t / n) inside_before ∙ omega arith

  pub thread_after : (territory_after n owns t).thread ≡ t
  thread_after = thread_finished.thread ∙ thread_before

-- gathered, it stands at the index of its thread, and nothing else stands there
module _ {n : ℕ} {g : ℕ → SweeperView} {owns : List (List TerritoryView)} {new : List TerritoryView}
    (back : AreReturned n g owns) (gathered : AreGathered n owns new) (t : ℕ) where
  pub thread_there : t < 64 → slice_get new t ≡ Some (territory_after n owns t)
  thread_there small = gathered.each t small
      ∙ slice_get-get_or (own_at owns (t % n)) (t / n) (no_territory 0) (inside_after back t small)

  pub is_thread : (u : TerritoryView) → slice_get new t ≡ Some u → t < 64
  is_thread u e = subst (λ m. t < m) gathered.count (slice_get_within new t u e)

  pub is_after : (u : TerritoryView) → slice_get new t ≡ Some u → territory_after n owns t ≡ u
  is_after u e = same_Some _ _ (sym (thread_there (is_thread u e)) ∙ e)

-- ---- what starts there

-- what started in a from-segment is gone, and all else stays
pub start_gone : (targets : Targets) (a : ℕ) (o : Option SegmentView) (x : Option Start)
    → start_finished targets [] a o x ≡ cond (is_from_one o) None x
start_gone targets a None x = refl
start_gone targets a (Some s) x = refl

-- so what starts there now was there
pub was_there : (targets : Targets) (a : ℕ) (o : Option SegmentView) (x : Option Start) (y : Start)
    → start_finished targets [] a o x ≡ Some y → x ≡ Some y
was_there targets a o x y e = by (is_from_one o) (sym (start_gone targets a o x) ∙ e)
  where
    by : (b : Bool) → cond b None x ≡ Some y → x ≡ Some y
    by true h = absurd (none-some y h)
    by false h = h

-- At an address of sweeper k starts what its share has, where that does not lie in a from-segment.
module _ {n : ℕ} {g : ℕ → SweeperView} {owns : List (List TerritoryView)} {new : List TerritoryView}
    (back : AreReturned n g owns) (gathered : AreGathered n owns new) (k a : ℕ) (own : owner n a ≡ k)
    (number : (g k).share.number ≡ k) (sweepers : (g k).share.sweepers ≡ n) (small : thread_of a < 64) where
  t : ℕ
  t = thread_of a

  before : TerritoryView
  before = territory_before n g t

  its : territory_of (g k).share a ≡ before
  unfolding before t
  its = ap (λ m. slice_index_or (g k).share.territories (thread_of a / m) (no_territory 0)) sweepers
      ∙ ap (λ j. slice_index_or (g j).share.territories (thread_of a / n) (no_territory 0)) (sym own)

  its_own : owner (g k).share.sweepers a ≡ (g k).share.number
  its_own = ap (λ m. owner m a) sweepers ∙ own ∙ sym number

  start_before : start_in (g k).share a ≡ get before.starts a
  start_before = own_start (g k).share a its_own ∙ ap (λ (u : TerritoryView). get u.starts a) its

  pub starts_after : starts_in new a ≡ cond (is_aside (g k).share a) None (start_in (g k).share a)
  unfolding before t
  starts_after =
      ap (λ o. start_in_option o a) (thread_there back gathered (thread_of a) small)
      ∙ (thread_finished back (thread_of a) small).starts a
      ∙ start_gone before.targets a (segment_at before (segment_of a)) (get before.starts a)
      ∙ ap (λ (u : TerritoryView). cond (is_from_one (segment_at u (segment_of a))) None
      (get before.starts a)) (sym its)
      ∙ ap (cond (is_aside (g k).share a) None) (sym start_before)

  -- where that is no from-segment, all stays
  pub start_stays : is_aside (g k).share a ≡ false → starts_in new a ≡ start_in (g k).share a
  start_stays e = starts_after ∙ ap (λ b. cond b None (start_in (g k).share a)) e
