-- When the sweepers are ended, older objects start where they were, copies at their places, and nothing else.
use Rattle.std.proofs.Common.{◌≡◌, ℕ, ◌%◌, ◌<◌, false, cond, List, slice_get, Option, None, Some, IsSome, Contains, ◌⊎◌, inl, inr, refl, sym, ap, subst, ◌∙◌, arith}
use Rattle.std.proofs.lemmas.Bool.{cases_Bool}
use Rattle.std.proofs.lemmas.Option.{none-some}
use Rattle.gc_words.specs.Layout.{thread_of}
use Rattle.gc_words.proofs.LayoutLaws.{its_parts}
use Rattle.gc_mail.specs.Recipients.{owner}
use Rattle.segment.specs.Segments.{Start}
use Rattle.territory.specs.Territories.{TerritoryView}
use Rattle.sweep_share.specs.Shares.{is_aside, start_in}
use Rattle.heap_store.specs.HeapView.{start_in as start_in_option, starts_in}
use Rattle.sweep_model.specs.World.{IsWorld, World, is_collected}
use Rattle.sweep_model.proofs.Ages.{collected_start}
use Rattle.sweeper.specs.Sweepers.{SweeperView}
use Rattle.sweep_rounds.specs.Turns.{hands_of}
use Rattle.collector.specs.Dealt.{AreGathered}
use Rattle.collector.proofs.Running.{HaveRun, number_after, sweepers_after, tied_after}
use Rattle.collector.proofs.Returned.{AreReturned, is_thread, start_stays, starts_after}

module _ {world : World} {f g : ℕ → SweeperView} (run : HaveRun world f g) {owns : List (List TerritoryView)}
    {new : List TerritoryView} (back : AreReturned world.sweepers g owns)
    (gathered : AreGathered world.sweepers owns new) where
  is_world : IsWorld world
  is_world = run.together.is_world

  pub owner_in : (a : ℕ) → owner world.sweepers a < world.sweepers
  owner_in a = let some = is_world.some in omega arith

  image_small : (x : ℕ) (s : Start) → world.image x ≡ Some s → thread_of x < 64
  image_small x s was = (its_parts x (is_world.addresses x s was)).thread_in

  -- at an address of sweeper k that lies in no from-segment all stays
  stays_at : (k a : ℕ) → owner world.sweepers a ≡ k → thread_of a < 64 → is_aside (g k).share a ≡ false
      → starts_in new a ≡ start_in (g k).share a
  stays_at k a own small =
      let less : k < world.sweepers = subst (λ m. m < world.sweepers) own (owner_in a) in
      start_stays back gathered k a own (number_after run k less) (sweepers_after run k less) small

  aside_is : (k x : ℕ) (s : Start) → owner world.sweepers x ≡ k → world.image x ≡ Some s
      → is_aside (g k).share x ≡ is_collected world x
  aside_is k x s own was =
      let less : k < world.sweepers = subst (λ m. m < world.sweepers) own (owner_in x) in
      (run.ended.led.ready k less).apart.starts x s was (own ∙ sym (number_after run k less))

  pub older_after : (x : ℕ) (s : Start) → world.image x ≡ Some s → is_collected world x ≡ false
      → starts_in new x ≡ (hands_of g (owner world.sweepers x)).now x
  older_after x s was older =
      stays_at (owner world.sweepers x) x refl (image_small x s was)
      (aside_is (owner world.sweepers x) x s refl was ∙ older)

  -- a copy is at an address of the same sweeper
  module _ (k x p : ℕ) (less : k < world.sweepers) (copied : Contains (g k).places.own (x, p)) where
    pub copy_owner : owner world.sweepers x ≡ k
    copy_owner = ((tied_after run k less).mine x p copied).0 ∙ number_after run k less

    copy_thread : thread_of p ≡ thread_of x
    copy_thread = ((tied_after run k less).fresh x p copied).1

    copy_small : thread_of p < 64
    copy_small =
        let s = collected_start world x ((tied_after run k less).mine x p copied).1 in
        subst (λ m. m < 64) (sym copy_thread) (image_small x s.0 s.1)

    pub copy_after : starts_in new p ≡ (hands_of g k).now p
    copy_after =
        stays_at k p (ap (λ m. m % world.sweepers) copy_thread ∙ copy_owner) copy_small
        ((run.ended.led.ready k less).apart.copies x p copied)

  pub copies_after : (x p : ℕ) → Contains (hands_of g (owner world.sweepers x)).own (x, p)
      → starts_in new p ≡ (hands_of g (owner world.sweepers x)).now p
  copies_after x p copied = copy_after (owner world.sweepers x) x p (owner_in x) copied

  -- ---- nothing else

  start_small : (a : ℕ) (y : Start) → starts_in new a ≡ Some y → thread_of a < 64
  start_small a y e = by (slice_get new (thread_of a)) refl e
    where
      by : (o : Option TerritoryView) → slice_get new (thread_of a) ≡ o → start_in_option o a ≡ Some y
          → thread_of a < 64
      by None is h = absurd (none-some y h)
      by (Some u) is h = is_thread back gathered (thread_of a) u is

  -- what starts at an address of sweeper k
  module _ (k p : ℕ) (y : Start) (own : owner world.sweepers p ≡ k) (less : k < world.sweepers)
      (e : starts_in new p ≡ Some y) where
    left_there : cond (is_aside (g k).share p) None (start_in (g k).share p) ≡ Some y
    left_there =
        sym (starts_after back gathered k p own (number_after run k less) (sweepers_after run k less)
        (start_small p y e)) ∙ e

    only_of : (start_in (g k).share p ≡ Some y) → is_aside (g k).share p ≡ false
        → (IsSome (world.image p) × (is_collected world p ≡ false))
        ⊎ ((x : ℕ) × Contains (hands_of g (owner world.sweepers x)).own (x, p))
    only_of there stays = elim ((tied_after run k less).only p y there).1 [
      | inl was ↦ inl (subst IsSome (sym was.1) refl, sym (aside_is k p was.0 own was.1) ∙ stays)
      | inr copy ↦ inr (
        copy.0,
        subst (λ j. Contains (hands_of g j).own (copy.0, p)) (sym (copy_owner k copy.0 p less copy.1)) copy.1,
      )
    ]

    only_at : (IsSome (world.image p) × (is_collected world p ≡ false))
        ⊎ ((x : ℕ) × Contains (hands_of g (owner world.sweepers x)).own (x, p))
    only_at = elim (cases_Bool (is_aside (g k).share p)) [
      | inl aside ↦
          absurd (none-some y (sym (ap (λ b. cond b None (start_in (g k).share p)) aside) ∙ left_there))
      | inr stays ↦
          only_of (sym (ap (λ b. cond b None (start_in (g k).share p)) stays) ∙ left_there) stays
    ]

  pub only_after : (p : ℕ) (y : Start) → starts_in new p ≡ Some y
      → (IsSome (world.image p) × (is_collected world p ≡ false))
      ⊎ ((x : ℕ) × Contains (hands_of g (owner world.sweepers x)).own (x, p))
  only_after p y e = only_at (owner world.sweepers p) p y refl (owner_in p) e
