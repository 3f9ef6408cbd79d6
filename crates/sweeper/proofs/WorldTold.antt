-- What the directory tells of a world: what is collected, what a field asks for, and that a slot has a word.
use Rattle.std.proofs.Common.{◌≡◌, ℕ, ◌%◌, false, cond, length, Option, None, Some, IsSome, is_some, refl, sym, ap, ◌∙◌, inl, inr, arith}
use Rattle.std.proofs.lemmas.Bool.{both_ways, cases_Bool}
use Rattle.std.proofs.lemmas.Option.{none-some}
use Rattle.gc_words.specs.Layout.{thread_of}
use Rattle.segment.specs.Segments.{Start}
use Rattle.territory.specs.Territories.{words_of}
use Rattle.gc_mail.specs.declared.message.Slot.{Slot}
use Rattle.gc_mail.specs.declared.message.Slot.TheVariants as back
use Rattle.gc_mail.specs.Recipients.{holder_of, owner}
use Rattle.directory.specs.Directories.{IsCollected, from_at}
use Rattle.sweep_model.specs.World.{World, asks, if_collected, is_collected, object_in, strong_value}
use Rattle.sweep_model.specs.Hands.{IsAt}
use Rattle.sweep_model.specs.Wholes.{IsPlaced}
use Rattle.sweep_model.proofs.Memory.{kept_at}
use Rattle.sweep_model.proofs.Names.{field_in}
use Rattle.sweep_share.specs.Shares.{start_in}
use Rattle.sweep_places.specs.Places.{IsOwnStart}
use Rattle.sweeper.specs.Sweepers.{HasWord, IsAtIn, SweeperView, asked_in, hand_of, if_aside}
use Rattle.sweeper.specs.Ready.{IsReadyIn}

-- a start that is known
pub some_of : (o : Option Start) → IsSome o → (x : Start) × (o ≡ Some x)
some_of None e = absurd (both_ways false refl e)
some_of (Some x) e = (x, refl)

-- of what started the directory tells whether it is collected
pub aside_is : (world : World) (v : SweeperView) (x : ℕ) (s : Start) → IsReadyIn world v → world.image x ≡ Some s
    → is_some (from_at v.places.directory x) ≡ is_collected world x
aside_is world v x s ready was = elim (cases_Bool (is_collected world x)) [
  | inl young ↦
      let f = ready.fits.generations x s was young in
      ap (λ (o : Option _). is_some o) f.1 ∙ sym young
  | inr old ↦ ap (λ (o : Option _). is_some o) (ready.fits.older x s was old) ∙ sym old
]

asked_at : (world : World) (v : SweeperView) (o : Option ℕ) → IsReadyIn world v
    → ((b : ℕ) → o ≡ Some b → IsSome (world.image b)) → if_aside v.places.directory o ≡ if_collected world o
asked_at world v None ready started = refl
asked_at world v (Some b) ready started =
    let s = some_of (world.image b) (started b refl) in
    ap (λ z. cond z (Some b) None) (aside_is world v b s.0 ready s.1)

-- so it tells what a field asks for
pub asked_is : (world : World) (v : SweeperView) (x i : ℕ) (s : Start) → IsReadyIn world v → world.image x ≡ Some s
    → asked_in v.places.directory (Some s) i ≡ asks world (back.Field i x)
asked_is world v x i s ready was =
    ap (λ o. asked_in v.places.directory o i) (sym was)
    ∙ asked_at world v (object_in (strong_value (world.image x) i)) ready (λ b e. ready.is_world.fields x i b e)

-- ---- where objects are

-- as the directory tells it, and as the world does
pub at_told : (world : World) (v : SweeperView) (x p : ℕ) (s : Start) → IsReadyIn world v → world.image x ≡ Some s
    → IsAt world v.places.own x p → IsAtIn v x p
at_told world v x p s ready was (inl e) = inl (aside_is world v x s ready was ∙ e.0, e.1)
at_told world v x p s ready was (inr c) = inr c

pub at_known : (world : World) (v : SweeperView) (x p : ℕ) (s : Start) → IsReadyIn world v → world.image x ≡ Some s
    → IsAtIn v x p → IsAt world v.places.own x p
at_known world v x p s ready was (inl e) = inl (sym (aside_is world v x s ready was) ∙ e.0, e.1)
at_known world v x p s ready was (inr c) = inr c

-- ---- a slot has a word

-- what is collected and its own may have been forwarded
pub own_start : (world : World) (v : SweeperView) (x : ℕ) (s : Start) → IsReadyIn world v → world.image x ≡ Some s
    → owner world.sweepers x ≡ v.share.number → IsCollected v.places.directory x
    → IsOwnStart v.places.directory v.places.number x
own_start world v x s ready was mine collected = record {
  start = ready.fits.can_start x s was (sym (aside_is world v x s ready was) ∙ collected);
  own = ap (λ n. thread_of x % n) (ready.joined.count ∙ sym ready.fits.sweepers) ∙ mine ∙ sym ready.joined.places;
}

-- what stands at the place of an object has as many words as the object
pub words_at : (world : World) (v : SweeperView) (x p : ℕ) (s : Start) → IsReadyIn world v → world.image x ≡ Some s
    → owner world.sweepers x ≡ v.share.number → IsAt world v.places.own x p
    → length (words_of (start_in v.share p)) ≡ length s.words
words_at world v x p s ready was mine at =
    let k = kept_at world (hand_of v) ready.ready.tied x p s was mine at in
    ap (λ o. length (words_of o)) k.is ∙ k.words ∙ ap (λ o. length (words_of o)) (sym k.was ∙ was)

pub has_word : (world : World) (v : SweeperView) (b : Slot) (t : ℕ) → IsReadyIn world v → asks world b ≡ Some t
    → holder_of world.sweepers b ≡ v.share.number → IsPlaced world (hand_of v) b → HasWord v b
has_word world v (back.Register r) t ready wants mine placed = ready.fits.registers r t wants mine
has_word world v (back.Field i x) t ready wants mine placed =
    let f = field_in world x i t wants in
    record {
      at = (placed.0, at_told world v x placed.0 f.start ready f.is placed.1);
      index_in = λ p at.
          let e : length (words_of (start_in v.share p)) ≡ length f.start.words =
          words_at world v x p f.start ready f.is mine (at_known world v x p f.start ready f.is at) in
          omega (arith, f.below, e);
      own = own_start world v x f.start ready f.is mine;
    }
has_word world v (back.Entry line part) t ready wants mine placed = absurd (none-some t wants)
has_word world v (back.Wait x) t ready wants mine placed = absurd (none-some t wants)
has_word world v back.Nothing t ready wants mine placed = absurd (none-some t wants)
