-- The generations after a collection agree with what each sweeper knows of them.
use Rattle.std.proofs.Common.{◌≡◌, ℕ, ◌<◌, true, false, cond, List, [], Option, None, Some, Contains, inl, inr, refl, sym, ap, subst, ◌∙◌, arith}
use Rattle.std.specs.Option.{option_map}
use Rattle.std.proofs.lemmas.Bool.{both_ways}
use Rattle.std.proofs.lemmas.Option.{same_Some}
use Rattle.gc_words.specs.declared.value.Value.{Value}
use Rattle.gc_mail.specs.Recipients.{owner}
use Rattle.segment.specs.Segments.{Start}
use Rattle.territory.specs.Finishing.{target_of}
use Rattle.owned_core.proofs.Lists.{contains_none}
use Rattle.heap_store.specs.Starts.{Starts}
use Rattle.heap_store.specs.Changes.{generation_at}
use Rattle.sweep_model.specs.World.{World, goes_to, is_collected, is_young}
use Rattle.sweep_model.specs.Hands.{Hand, IsKeptAt}
use Rattle.sweeper.specs.Ready.{Agrees}
use Rattle.collect_model.specs.Worlds.{HasEnded}

module _ {world : World} {hands : ℕ → Hand} {g : Starts} {held : List Value} (some : 0 < world.sweepers)
    (ended : HasEnded world hands g held) where
  owner_in : (x : ℕ) → owner world.sweepers x < world.sweepers
  owner_in x = omega arith

  -- what was kept has its new generation
  kept_generation : (h : Hand) (x q : ℕ) (s : Start) → IsKeptAt world h x q → world.image x ≡ Some s
      → g q ≡ h.now q → generation_at g q ≡ Some (goes_to world.targets s.generation)
  kept_generation h x q s kept was is =
      let same : kept.old ≡ s = same_Some _ _ (sym kept.was ∙ was) in
      ap (option_map (λ (y : Start). y.generation)) (is ∙ kept.is)
      ∙ ap Some (kept.generation ∙ ap (λ (y : Start). goes_to world.targets y.generation) same)

  -- an older object keeps its own
  older_goes : (x : ℕ) (s : Start) → world.image x ≡ Some s → is_collected world x ≡ false
      → goes_to world.targets s.generation ≡ s.generation
  older_goes x s was older =
      ap (λ b. cond b (target_of world.targets s.generation) s.generation)
      (sym (ap (is_young world.targets.cg) was) ∙ older)

  older_generation : (x : ℕ) (s : Start) → world.image x ≡ Some s → is_collected world x ≡ false
      → generation_at g x ≡ Some s.generation
  older_generation x s was older =
      let k = owner world.sweepers x in
      let kept = (ended.tied k (owner_in x)).older x s was (sym (ended.numbers k (owner_in x))) older in
      kept_generation (hands k) x x s kept was (ended.older x s was older)
      ∙ ap Some (older_goes x s was older)

  -- nothing is where a collected object was
  gone_generation : (x : ℕ) → is_collected world x ≡ true → generation_at g x ≡ None
  gone_generation x gone = by (g x) refl
    where
      by : (o : Option Start) → g x ≡ o → option_map (λ (y : Start). y.generation) o ≡ None
      by None is = refl
      by (Some y) is = elim (ended.only x y is) [
        | inl older ↦ absurd (both_ways (is_collected world x) older.1 gone)
        | inr copy ↦
            let tied = ended.tied (owner world.sweepers copy.0) (owner_in copy.0) in
            let none : world.image x ≡ None = (tied.fresh copy.0 x copy.1).0 in
            absurd (both_ways (is_collected world x) (ap (is_young world.targets.cg) none) gone)
      ]

  -- before anything is forwarded
  pub agrees_first : Agrees world [] [] (generation_at g)
  agrees_first = record {
    older = older_generation;
    gone = gone_generation;
    kept = λ x q s c was. absurd (contains_none (x, q) c);
    moved = λ b q t s c asked was. absurd (contains_none _ c);
  }

  -- and of what each sweeper has forwarded
  pub agrees_after : (k : ℕ) → k < world.sweepers → Agrees world (hands k).own [] (generation_at g)
  agrees_after k less = record {
    older = older_generation;
    gone = gone_generation;
    kept = λ x q s c was.
        let tied = ended.tied k less in
        let own : owner world.sweepers x ≡ k = (tied.mine x q c).0 ∙ ended.numbers k less in
        let there = ended.copies x q (subst (λ j. Contains (hands j).own (x, q)) (sym own) c) in
        kept_generation (hands k) x q s (tied.copied x q c) was (there ∙ ap (λ j. (hands j).now q) own);
    moved = λ b q t s c asked was. absurd (contains_none _ c);
  }
