-- Territories before and after their collection has begun: thread by thread, nothing that starts is changed.
use Rattle.std.proofs.Common.{◌≡◌, ℕ, zero, suc, ◌<◌, List, [], ◌∷◌, length, slice_get, Option, None, Some, refl, sym, ap, ◌∙◌, arith, inl, inr}
use Rattle.std.proofs.lemmas.Bool.{cases_lt}
use Rattle.std.proofs.lemmas.Option.{none-some, slice_get_past, slice_get_within}
use Rattle.std.specs.FinMap.{get}
use Rattle.gc_words.specs.Layout.{thread_of}
use Rattle.segment.specs.Segments.{Start}
use Rattle.territory.specs.declared.territory.Targets.{Targets}
use Rattle.territory.specs.Territories.{TerritoryView}
use Rattle.heap_store.specs.HeapView.{start_in, starts_in}
use Rattle.collector.specs.Begun.{HasBegun, HaveBegun}

-- what is at an index
pub at_index : {X : Type 0} (xs : List X) (i : ℕ) → i < length xs → (x : X) × (slice_get xs i ≡ Some x)
at_index [] i h = absurd (omega (arith, h))
at_index (x ∷ xs) zero h = (x, refl)
at_index (x ∷ xs) (suc i) h = at_index xs i (omega (arith, h))

-- a territory that has begun has one that it was
pub begun_from : (old new : List TerritoryView) (targets : Targets) (i : ℕ) (u : TerritoryView)
    → HaveBegun old new targets → slice_get new i ≡ Some u
    → (t : TerritoryView) × (slice_get old i ≡ Some t) × HasBegun t u targets
begun_from old new targets i u begun there =
    let here = at_index old i (omega (arith, begun.count, slice_get_within new i u there)) in
    (here.0, here.1, begun.each i here.0 u here.1 there)

-- and the other way round
pub begun_to : (old new : List TerritoryView) (targets : Targets) (i : ℕ) (t : TerritoryView)
    → HaveBegun old new targets → slice_get old i ≡ Some t
    → (u : TerritoryView) × (slice_get new i ≡ Some u) × HasBegun t u targets
begun_to old new targets i t begun here =
    let there = at_index new i (omega (arith, begun.count, slice_get_within old i t here)) in
    (there.0, there.1, begun.each i t there.0 here there.1)

-- the same starts at each address
pub same_starts : (old new : List TerritoryView) (targets : Targets) (a : ℕ) → HaveBegun old new targets
    → starts_in new a ≡ starts_in old a
same_starts old new targets a begun = elim (cases_lt (thread_of a) (length old)) [
  | inl within ↦
      let t = at_index old (thread_of a) within in
      let u = begun_to old new targets (thread_of a) t.0 begun t.1 in
      ap (λ o. start_in o a) u.1 ∙ (ap (λ m. get m a) u.2.starts ∙ sym (ap (λ o. start_in o a) t.1))
  | inr past ↦
      let none = slice_get_past old (thread_of a) past in
      let none_too = slice_get_past new (thread_of a) (omega (arith, begun.count, past)) in
      ap (λ o. start_in o a) (none_too ∙ sym none)
]

-- ---- where something starts

-- The territory of what starts at a, as it was and as it has begun.
pub record IsFound (old new : List TerritoryView) (targets : Targets) (a : ℕ) (x : Start) : Type 0 where
  pub before : TerritoryView
  pub after : TerritoryView
  pub was : slice_get old (thread_of a) ≡ Some before
  pub now : slice_get new (thread_of a) ≡ Some after
  pub begun : HasBegun before after targets
  pub starts : get after.starts a ≡ Some x

-- each start has one
pub found : (old new : List TerritoryView) (targets : Targets) (a : ℕ) (x : Start) → HaveBegun old new targets
    → starts_in old a ≡ Some x → IsFound old new targets a x
found old new targets a x begun here = by (slice_get old (thread_of a)) refl here
  where
    by : (o : Option TerritoryView) → slice_get old (thread_of a) ≡ o → start_in o a ≡ Some x
        → IsFound old new targets a x
    by None is h = absurd (none-some x h)
    by (Some t) is h =
        let u = begun_to old new targets (thread_of a) t begun is in
        record {
          before = t;
          after = u.0;
          was = is;
          now = u.1;
          begun = u.2;
          starts = ap (λ m. get m a) u.2.starts ∙ h;
        }
