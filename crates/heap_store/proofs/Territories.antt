-- The territories of a heap after one start of one of them was added or changed.
use Rattle.std.proofs.Common.{◌≡◌, ◌≢◌, ℕ, ◌<◌, false, List, length, set, slice_get, IsSome, Some, None, sym, ◌∙◌, ap, subst, arith, inl, inr, get_or-set_same, get_or-set_other}
use Rattle.std.specs.FinMap.{get}
use Rattle.std.proofs.lemmas.Bool.{cases_eq, cases_lt}
use Rattle.std.proofs.lemmas.List.{length-set}
use Rattle.std.proofs.lemmas.Option.{same_Some, slice_get-get_or, slice_get_past, slice_get_within}
use Rattle.gc_words.specs.Layout.{thread_of}
use Rattle.segment.specs.Segments.{Start}
use Rattle.territory.specs.Territories.{TerritoryView}
use Rattle.heap_store.specs.Starts.{is_cell, IsClosed, lasting, IsChanged}
use Rattle.heap_store.specs.HeapView.{start_in, starts_in}
use Rattle.heap_store.specs.Stands.{AreSettled}
use Rattle.heap_store.specs.Changes.{HasNoFrom, IsStartChanged}
use Rattle.heap_store.proofs.Kept.{is_some, same_birth}

-- ---- lists

pub slice_get-set_same : {X : Type 0} (xs : List X) (i : ℕ) (x : X) → i < length xs → slice_get (set xs i x) i ≡ Some x
slice_get-set_same xs i x within = slice_get-get_or (set xs i x) i x (omega (arith, length-set xs i x)) ∙ ap Some (get_or-set_same xs i x x within)

pub slice_get-set_other : {X : Type 0} (xs : List X) (i j : ℕ) (x : X) → j ≢ i → slice_get (set xs i x) j ≡ slice_get xs j
slice_get-set_other xs i j x ne =
    elim (cases_lt j (length xs)) [
      | inl within ↦ slice_get-get_or (set xs i x) j x (omega (arith, length-set xs i x)) ∙ ap Some (get_or-set_other xs i j x x ne) ∙ sym (slice_get-get_or xs j x within)
      | inr past ↦ slice_get_past (set xs i x) j (omega (arith, length-set xs i x)) ∙ sym (slice_get_past xs j past)
    ]

-- ---- a territory in place of another

module _ (territories : List TerritoryView) (i : ℕ) (old new : TerritoryView) (found : slice_get territories i ≡ Some old) (settled : AreSettled territories) (a : ℕ) (x : Start) (changed : IsStartChanged old new a x) where
  within : i < length territories
  within = slice_get_within territories i old found

  pub its_place : thread_of a ≡ i
  its_place = changed.its_thread ∙ settled.threads i old found

  pub start_before : starts_in territories a ≡ get old.starts a
  start_before = ap (λ n. start_in (slice_get territories n) a) its_place ∙ ap (λ o. start_in o a) found

  pub start_after : starts_in (set territories i new) a ≡ Some x
  start_after = ap (λ n. start_in (slice_get (set territories i new) n) a) its_place ∙ ap (λ o. start_in o a) (slice_get-set_same territories i new within) ∙ changed.here

  pub other_starts : (b : ℕ) → b ≢ a → starts_in (set territories i new) b ≡ starts_in territories b
  other_starts b ne =
      elim (cases_eq (thread_of b) i) [
        | inl e ↦
            ap (λ n. start_in (slice_get (set territories i new) n) b) e ∙ ap (λ o. start_in o b) (slice_get-set_same territories i new within)
            ∙ changed.others b ne
            ∙ sym (ap (λ n. start_in (slice_get territories n) b) e ∙ ap (λ o. start_in o b) found)
        | inr elsewhere ↦ ap (λ o. start_in o b) (slice_get-set_other territories i (thread_of b) new elsewhere)
      ]

  -- what another territory is now, it was before
  other_territory : (j : ℕ) (t : TerritoryView) → j ≢ i → slice_get (set territories i new) j ≡ Some t → slice_get territories j ≡ Some t
  other_territory j t ne e = sym (slice_get-set_other territories i j new ne) ∙ e

  pub this_territory : (j : ℕ) (t : TerritoryView) → j ≡ i → slice_get (set territories i new) j ≡ Some t → new ≡ t
  this_territory j t same e = same_Some _ _ (sym (slice_get-set_same territories i new within) ∙ ap (slice_get (set territories i new)) (sym same) ∙ e)

  pub still_settled : AreSettled (set territories i new)
  still_settled = record {
    count = length-set territories i new ∙ settled.count;
    threads = λ j t e. elim (cases_eq j i) [
      | inl same ↦ ap (λ (u : TerritoryView). u.thread) (sym (this_territory j t same e)) ∙ changed.thread ∙ settled.threads i old found ∙ sym same
      | inr ne ↦ settled.threads j t (other_territory j t ne e)
    ];
    placed = λ j t b y e f. elim (cases_eq b a) [
      | inl here ↦ elim (cases_eq j i) [
        | inl same ↦ ap thread_of here ∙ its_place ∙ sym same
        | inr ne ↦ settled.placed j t b y (other_territory j t ne e) f
      ]
      | inr other ↦ elim (cases_eq j i) [
        | inl same ↦ settled.placed i old b y found (sym (changed.others b other) ∙ ap (λ (u : TerritoryView). get u.starts b) (this_territory j t same e) ∙ f) ∙ sym same
        | inr ne ↦ settled.placed j t b y (other_territory j t ne e) f
      ]
    ];
    no_from = λ j t e. elim (cases_eq j i) [
      | inl same ↦ subst HasNoFrom (this_territory j t same e) (changed.no_from (settled.no_from i old found))
      | inr ne ↦ settled.no_from j t (other_territory j t ne e)
    ];
  }

  -- a new start, where no start had its birth
  pub is_added : is_cell x.kind ≡ false → get old.starts a ≡ None → ((b : ℕ) (y : Start) → starts_in territories b ≡ Some y → y.birth ≢ x.birth) → IsChanged (starts_in territories) (starts_in (set territories i new)) a x
  is_added no_cell free fresh = record {
    here = start_after;
    others = other_starts;
    no_cell = no_cell;
    same = λ there. ap lasting start_before ∙ changed.same (subst IsSome start_before there);
    apart = λ b y ne e. fresh b y e;
  }

  -- a start that was there
  pub is_changed : is_cell x.kind ≡ false → IsClosed (starts_in territories) → (z : Start) → get old.starts a ≡ Some z → IsChanged (starts_in territories) (starts_in (set territories i new)) a x
  is_changed no_cell closed z there = record {
    here = start_after;
    others = other_starts;
    no_cell = no_cell;
    same = λ is. ap lasting start_before ∙ changed.same (subst IsSome start_before is);
    apart = λ b y ne e same. ne (closed.single b a y z e (start_before ∙ there)
        (same ∙ sym (same_birth (Some z) (Some x) (ap lasting (sym there) ∙ changed.same (is_some (get old.starts a) z there)))));
  }
