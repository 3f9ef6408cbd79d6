use Rattle.std.proofs.Common.{◌≡◌, ◌⊎◌, ℕ, zero, suc, List, [], ◌∷◌, ◌++◌, length, Some, None, inl, inr, refl, sym, ◌∙◌, ap, arith}
use Rattle.std.proofs.lemmas.List.{length_push}
use Rattle.std.proofs.lemmas.Option.{same_Some}
use Rattle.std.specs.List.{slice_get}
use Rattle.territory.specs.Territories.{TerritoryView}
use Rattle.territory.specs.declared.territory.Targets.{Targets}
use Rattle.sweep_rounds.proofs.tests.all_territories.Goals as goal

-- what a list has with one more at its end
pushed : (xs : List TerritoryView) (y t : TerritoryView) (i : ℕ) → slice_get (xs ++ y ∷ []) i ≡ Some t → (slice_get xs i ≡ Some t) ⊎ ((i ≡ length xs) × (y ≡ t))
pushed [] y t zero h = inr (refl, same_Some y t h)
pushed [] y t (suc i) h = absurd (let c : None ≡ Some t = h in cc)
pushed (x ∷ xs) y t zero h = inl h
pushed (x ∷ xs) y t (suc i) h = elim (pushed xs y t i h) [ inl a ↦ inl a | inr b ↦ inr (ap suc b.0, b.1) ]

each_more : (xs ys : List TerritoryView) (y t : TerritoryView) (targets : Targets) (thread i : ℕ) → length xs ≡ thread → ((j : ℕ) (u : TerritoryView) → slice_get xs j ≡ Some u → (u.thread ≡ j) × (u.targets ≡ targets)) → y.thread ≡ thread → y.targets ≡ targets → ys ≡ xs ++ y ∷ [] → slice_get ys i ≡ Some t → (t.thread ≡ i) × (t.targets ≡ targets)
each_more xs ys y t targets thread i count each its_thread its_targets more h =
    elim (pushed xs y t i (sym (ap (λ v. slice_get v i) more) ∙ h)) [
      | inl a ↦ each i t a
      | inr b ↦ (
        sym (ap (λ (v : TerritoryView). v.thread) b.1) ∙ (its_thread ∙ (sym count ∙ sym b.0)),
        sym (ap (λ (v : TerritoryView). v.targets) b.1) ∙ its_targets,
      )
    ]

pub loop-thread-preserved : goal.loop-thread-preserved
loop-thread-preserved c = record {
  count = ap length c.in_ok-push.ensures.items ∙ (length_push _ _ ∙ omega (arith, c.loop-thread.invariant.count));
  each = λ i t h. each_more _ _ _ t _ _ i c.loop-thread.invariant.count c.loop-thread.invariant.each (ap (λ (t : TerritoryView). t.thread) c.in_ok-new.ensures) (ap (λ (t : TerritoryView). t.targets) c.in_ok-new.ensures) c.in_ok-push.ensures.items h;
}
