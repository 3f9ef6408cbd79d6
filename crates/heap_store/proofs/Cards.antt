-- The cards of a heap stay sound.
use Rattle.std.proofs.Common.{◌≡◌, ◌≢◌, ℕ, set, slice_get, IsSome, Option, Some, None, option_map, sym, ◌∙◌, ap, subst, inl, inr}
use Rattle.std.specs.FinMap.{get}
use Rattle.std.proofs.lemmas.Bool.{cases_eq, false≢true}
use Rattle.trace_types.specs.States.{State}
use Rattle.segment.specs.Segments.{Start}
use Rattle.territory.specs.Territories.{TerritoryView, AreCardsSound, IsToldMore}
use Rattle.heap_store.specs.Starts.{lasting}
use Rattle.heap_store.specs.HeapView.{HeapView, starts_in, starts_of}
use Rattle.heap_store.specs.Changes.{IsStartChanged, generation_at, HaveSoundCards}
use Rattle.heap_store.specs.Stands.{Stands}
use Rattle.heap_store.proofs.Kept.{is_some, same_generation}
use Rattle.heap_store.proofs.Territories.{start_before, start_after, other_starts, this_territory, slice_get-set_other}
use Rattle.heap_store.proofs.References.{refers_there}

none_there : (o : Option Start) → o ≡ None → IsSome o → ⊥
none_there None e h = false≢true h
none_there (Some x) e h = let n : Some x ≡ None = e in cc

module _ (h : HeapView) (s : State) (stands : Stands h s) (sound : HaveSoundCards h.territories) (i : ℕ) (old new : TerritoryView) (found : slice_get h.territories i ≡ Some old) (a : ℕ) (x : Start) (changed : IsStartChanged old new a x) where
  abbrev before : ℕ → Option ℕ
  before = generation_at (starts_of h)

  abbrev after : ℕ → Option ℕ
  after = generation_at (starts_in (set h.territories i new))

  others_told : (b : ℕ) → b ≢ a → after b ≡ before b
  others_told b ne = ap (option_map (λ (y : Start). y.generation)) (other_starts h.territories i old new found stands.territories a x changed b ne)

  here_before : starts_of h a ≡ get old.starts a
  here_before = start_before h.territories i old new found stands.territories a x changed

  -- with a new start
  pub made_cards : get old.starts a ≡ None
      → ((told now : ℕ → Option ℕ) → IsToldMore told now old a → AreCardsSound told old → AreCardsSound now new)
      → HaveSoundCards (set h.territories i new)
  made_cards free keeps j t e =
      elim (cases_eq j i) [
        | inl same ↦ subst (AreCardsSound after) (this_territory h.territories i old new found stands.territories a x changed j t same e)
            (keeps before after (record {
              others = others_told;
              alone = λ b index y there refers. none_there (starts_of h a) (here_before ∙ free) (refers_there h s stands i old b index a y found there refers);
            }) (sound i old found))
        | inr ne ↦ other_made j t ne e
      ]
    where
      other_made : (j : ℕ) (t : TerritoryView) → j ≢ i → slice_get (set h.territories i new) j ≡ Some t → AreCardsSound after t
      other_made j t ne e b index c g y there refers told less =
          let was : slice_get h.territories j ≡ Some t = sym (slice_get-set_other h.territories i j new ne) ∙ e in
          sound j t was b index c g y there refers
          (sym (others_told c (λ same. none_there (starts_of h a) (here_before ∙ free) (subst (λ n. IsSome (starts_of h n)) same (refers_there h s stands j t b index c y was there refers)))) ∙ told) less

  -- with a changed start
  pub rewritten_cards : (z : Start) → get old.starts a ≡ Some z → (AreCardsSound before old → AreCardsSound before new) → HaveSoundCards (set h.territories i new)
  rewritten_cards z there keeps j t e =
      elim (cases_eq j i) [
        | inl same ↦ subst (AreCardsSound after) (this_territory h.territories i old new found stands.territories a x changed j t same e) (told_alike new (keeps (sound i old found)))
        | inr ne ↦ told_alike t (sound j t (sym (slice_get-set_other h.territories i j new ne) ∙ e))
      ]
    where
      here_told : after a ≡ before a
      here_told =
          ap (option_map (λ (y : Start). y.generation)) (start_after h.territories i old new found stands.territories a x changed)
          ∙ ap Some (sym (same_generation (Some z) (Some x) (ap lasting (sym there) ∙ changed.same (is_some (get old.starts a) z there))))
          ∙ sym (ap (option_map (λ (y : Start). y.generation)) (here_before ∙ there))

      all_told : (b : ℕ) → after b ≡ before b
      all_told b = elim (cases_eq b a) [
        | inl e ↦ ap after e ∙ here_told ∙ ap before (sym e)
        | inr ne ↦ others_told b ne
      ]

      told_alike : (u : TerritoryView) → AreCardsSound before u → AreCardsSound after u
      told_alike u was b index c g y at refers told less = was b index c g y at refers (sym (all_told c) ∙ told) less
