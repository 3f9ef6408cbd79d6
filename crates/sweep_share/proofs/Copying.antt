-- A copy in one territory of a share.
use Rattle.std.proofs.Common.{◌≡◌, ◌≢◌, ℕ, ◌/◌, ◌%◌, ◌<◌, ◌==◌, false, cond, length, get_or, Option, None, Some, IsSome, IsNone, IfSome, refl, sym, ap, subst, ◌∙◌, inl, inr, ◌⊎◌}
use Rattle.std.proofs.lemmas.Bool.{cases_eq}
use Rattle.std.specs.FinMap.{get, insert}
use Rattle.gc_words.specs.Layout.{IsAddress, segment_of, thread_of}
use Rattle.gc_mail.specs.Recipients.{owner}
use Rattle.segment.specs.Segments.{Start}
use Rattle.territory.specs.Territories.{AreCardsSound, SegmentView, TerritoryView, no_territory, segment_at}
use Rattle.territory.specs.Copies.{IsPlacedLike, RefersToNoneBelow, copy_in}
use Rattle.sweep_share.specs.Shares.{AreShareOf, IsCopied, ShareView, is_from_one, territory_of}
use Rattle.sweep_share.proofs.Places.{own_start, thread_is}
use Rattle.sweep_share.proofs.Putting.{alike, at_key, at_other, index_is, index_other, sound, with_territory}

is_none_or : (o : Option SegmentView) → IsNone o ⊎ IsSome o
is_none_or None = inl refl
is_none_or (Some p) = inr refl

no_from : (o : Option SegmentView) → IsNone o → is_from_one o ≡ false
no_from None h = refl
no_from (Some p) h = absurd (cc)

fits_from : (o : Option SegmentView) (g : ℕ) (P : SegmentView → Type 0) → ((v : SegmentView) → P v → v.is_from ≡ false)
    → IfSome o P → is_from_one o ≡ false
fits_from None g P f h = refl
fits_from (Some v) g P f h = f v h

-- what a territory promises of a copy at q
pub record IsCopiedThere (t t' : TerritoryView) (a g q : ℕ) (x : Start) : Type 0 where
  pub address : IsAddress q
  pub in_thread : thread_of q ≡ t.thread
  pub free : get t.starts q ≡ None
  pub starts : t'.starts ≡ insert t.starts q (copy_in g x)
  pub placed : IsPlacedLike t t' a x g (segment_of q)
  pub sound : (generation_at : ℕ → Option ℕ) → RefersToNoneBelow generation_at x g → AreCardsSound generation_at t → AreCardsSound generation_at t'
  pub thread : t'.thread ≡ t.thread
  pub targets : t'.targets ≡ t.targets

-- no segment becomes a from-segment or leaves them, and the copy lies in none
aside_copied : (t t' : TerritoryView) (a g q n : ℕ) (x : Start) → IsCopiedThere t t' a g q x
    → is_from_one (segment_at t' n) ≡ is_from_one (segment_at t n)
aside_copied t t' a g q n x c = elim (cases_eq n (segment_of q)) [
  | inr ne ↦ ap is_from_one (c.placed.2.others n ne)
  | inl e ↦
      let now : is_from_one (segment_at t' n) ≡ false =
      ap (λ m. is_from_one (segment_at t' m)) e ∙ fits_from (segment_at t' (segment_of q)) g _ (λ v f. f.2) c.placed.2.fits in
      elim (is_none_or (segment_at t (segment_of q))) [
        | inl none ↦ now ∙ sym (ap (λ m. is_from_one (segment_at t m)) e ∙ no_from (segment_at t (segment_of q)) none)
        | inr some ↦ ap (λ m. is_from_one (segment_at t' m)) e
            ∙ (ap is_from_one (c.placed.2.used some).0 ∙ ap (λ m. is_from_one (segment_at t m)) (sym e))
      ]
]

-- the start at a was copied to q
pub is_copied : (s : ShareView) (a i g q : ℕ) (t t' : TerritoryView) → AreShareOf s.number s.sweepers s.territories
    → thread_of a < 64 → i ≡ thread_of a / s.sweepers → i < length s.territories → owner s.sweepers a ≡ s.number
    → t ≡ territory_of s a → ((x : Start) → get t.starts a ≡ Some x → IsCopiedThere t t' a g q x)
    → (y : Start) → get t.starts a ≡ Some y → IsCopied s (with_territory s i t') a g q
is_copied s a i g q t t' share small ia within own is copied y has = record {
  alike = alike s i t' within (record {
    thread = there.thread ∙ ap (λ (z : TerritoryView). z.thread) here;
    targets = there.targets ∙ ap (λ (z : TerritoryView). z.targets) here;
    aside = λ n. aside_copied t t' a g q n y there ∙ ap (λ (z : TerritoryView). is_from_one (segment_at z n)) here;
  });
  address = there.address;
  thread = same_thread;
  free = own_start s q own_q ∙ (ap (λ n. get (get_or s.territories n (no_territory 0)).starts q) (ap (λ n. n / s.sweepers) same_thread ∙ sym ia)
      ∙ (ap (λ (z : TerritoryView). get z.starts q) (sym here) ∙ there.free));
  stays = ap (λ (z : TerritoryView). is_from_one (segment_at z (segment_of q))) (index_is s i t' within (thread_of q / s.sweepers) (sym iq))
      ∙ fits_from (segment_at t' (segment_of q)) g _ (λ v f. f.2) there.placed.2.fits;
  here = λ x e.
      let same : get t.starts a ≡ Some x = ap (λ (z : TerritoryView). get z.starts a) is ∙ (sym (own_start s a own) ∙ e) in
      let c = copied x same in
      own_start (with_territory s i t') q own_q
      ∙ (ap (λ (z : TerritoryView). get z.starts q) (index_is s i t' within (thread_of q / s.sweepers) (sym iq))
      ∙ (ap (λ m. get m q) c.starts ∙ at_key t.starts q (copy_in g x)));
  others = λ b ne. ap (λ o. cond (owner s.sweepers b == s.number) o None) (elsewhere b ne);
  sound = λ g' x e none. sound s i t' within g' (λ old.
      let same : get t.starts a ≡ Some x = ap (λ (z : TerritoryView). get z.starts a) is ∙ (sym (own_start s a own) ∙ e) in
      (copied x same).sound g' none (subst (AreCardsSound g') (sym here) old));
}
  where
    there : IsCopiedThere t t' a g q y
    there = copied y has

    here : t ≡ get_or s.territories i (no_territory 0)
    here = is ∙ ap (λ n. get_or s.territories n (no_territory 0)) (sym ia)

    same_thread : thread_of q ≡ thread_of a
    same_thread = there.in_thread ∙ (ap (λ (z : TerritoryView). z.thread) is ∙ thread_is s a share small own)

    own_q : owner s.sweepers q ≡ s.number
    own_q = ap (λ n. n % s.sweepers) same_thread ∙ own

    iq : i ≡ thread_of q / s.sweepers
    iq = ia ∙ ap (λ n. n / s.sweepers) (sym same_thread)

    elsewhere : (b : ℕ) → b ≢ q → get (territory_of (with_territory s i t') b).starts b ≡ get (territory_of s b).starts b
    elsewhere b ne = elim (cases_eq (thread_of b / s.sweepers) i) [
      | inl e ↦ ap (λ (z : TerritoryView). get z.starts b) (index_is s i t' within (thread_of b / s.sweepers) e)
          ∙ (ap (λ m. get m b) there.starts ∙ (at_other t.starts q (copy_in g y) b ne
          ∙ (ap (λ (z : TerritoryView). get z.starts b) here ∙ ap (λ n. get (get_or s.territories n (no_territory 0)).starts b) (sym e))))
      | inr d ↦ ap (λ (z : TerritoryView). get z.starts b) (index_other s i t' within (thread_of b / s.sweepers) d)
    ]
