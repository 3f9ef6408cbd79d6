-- One territory of a share is changed.
use Rattle.std.proofs.Common.{◌≡◌, ◌≢◌, ℕ, ◌/◌, ◌<◌, ◌==◌, Bool, true, false, cond, List, length, get_or, set, Option, None, Some, refl, sym, ap, subst, ◌∙◌, inl, inr, arith, get_or-set_same, get_or-set_other}
use Rattle.std.proofs.lemmas.Bool.{cases_eq, cases_lt}
use Rattle.std.proofs.lemmas.Bool.Decides.{nat_tests}
use Rattle.std.proofs.lemmas.List.{length-set, get_or_past}
use Rattle.std.specs.Prelude.{option_map}
use Rattle.std.specs.Ordering.{nat_cmp, eq_by_cmp}
use Rattle.std.specs.Cmp.{nat_cmp_total}
use Rattle.std.specs.FinMap.{FinMap, get, insert, get-insert}
use Rattle.gc_words.specs.Layout.{segment_of, thread_of}
use Rattle.gc_mail.specs.Recipients.{owner}
use Rattle.segment.specs.Segments.{Start}
use Rattle.territory.specs.Territories.{AreCardsSound, SegmentView, TellsLower, TerritoryView, needs_mark, no_territory, put_start, segment_at, with_card, with_word}
use Rattle.sweep_share.specs.Shares.{AreSound, IsAlike, IsPut, ShareView, is_from_one, territory_of}
use Rattle.sweep_share.proofs.Places.{own_start}

pub at_key : (m : FinMap nat_cmp Start) (k : ℕ) (v : Start) → get (insert m k v) k ≡ Some v
at_key m k v = let t : eq_by_cmp nat_cmp k k ≡ true = grind (arith, nat_tests) in get-insert nat_cmp_total m k v k ∙ ap (λ b. cond b (Some v) (get m k)) t

pub at_other : (m : FinMap nat_cmp Start) (k : ℕ) (v : Start) (q : ℕ) → q ≢ k → get (insert m k v) q ≡ get m q
at_other m k v q ne = let t : eq_by_cmp nat_cmp q k ≡ false = grind (arith, nat_tests, ne) in get-insert nat_cmp_total m k v q ∙ ap (λ b. cond b (Some v) (get m q)) t

put_here : (m : FinMap nat_cmp Start) (a : ℕ) (x : Start) (i w : ℕ) → get m a ≡ Some x
    → get (put_start m a (get m a) i w) a ≡ Some (record x { words = set x.words i w })
put_here m a x i w e = ap (λ o. get (put_start m a o i w) a) e ∙ at_key m a (record x { words = set x.words i w })

put_other : (m : FinMap nat_cmp Start) (a : ℕ) (o : Option Start) (i w b : ℕ) → b ≢ a → get (put_start m a o i w) b ≡ get m b
put_other m a None i w b ne = refl
put_other m a (Some x) i w b ne = at_other m a (record x { words = set x.words i w }) b ne

-- what one territory has to be for the share to be alike
pub record IsAlikeThere (old new : TerritoryView) : Type 0 where
  pub thread : new.thread ≡ old.thread
  pub targets : new.targets ≡ old.targets
  pub aside : (n : ℕ) → is_from_one (segment_at new n) ≡ is_from_one (segment_at old n)

-- the share with another territory at an index
abbrev pub with_territory : ShareView → ℕ → TerritoryView → ShareView
with_territory s i t = record s { territories = set s.territories i t }

module _ (s : ShareView) (i : ℕ) (t' : TerritoryView) (within : i < length s.territories) where
  -- the territory at an index afterwards: the changed one, or what was there
  pub at_index : (P : TerritoryView → Type 0) (j : ℕ) → P t' → (j ≢ i → P (get_or s.territories j (no_territory 0)))
      → P (get_or (set s.territories i t') j (no_territory 0))
  at_index P j here others = elim (cases_eq j i) [
    | inl e ↦ subst P (sym (ap (λ n. get_or (set s.territories i t') n (no_territory 0)) e ∙ get_or-set_same s.territories i t' (no_territory 0) within)) here
    | inr ne ↦ subst P (sym (get_or-set_other s.territories i j t' (no_territory 0) ne)) (others ne)
  ]

  -- ... as an equation
  pub index_is : (j : ℕ) → j ≡ i → get_or (set s.territories i t') j (no_territory 0) ≡ t'
  index_is j e = ap (λ n. get_or (set s.territories i t') n (no_territory 0)) e ∙ get_or-set_same s.territories i t' (no_territory 0) within

  pub index_other : (j : ℕ) → j ≢ i → get_or (set s.territories i t') j (no_territory 0) ≡ get_or s.territories j (no_territory 0)
  index_other j ne = get_or-set_other s.territories i j t' (no_territory 0) ne

  pub alike : IsAlikeThere (get_or s.territories i (no_territory 0)) t' → IsAlike s (with_territory s i t')
  alike same = record {
    number = refl;
    sweepers = refl;
    count = length-set s.territories i t';
    threads = λ j. elim (cases_eq j i) [
      | inl e ↦ ap (λ (z : TerritoryView). z.thread) (index_is j e) ∙ (same.thread ∙ ap (λ n. (get_or s.territories n (no_territory 0)).thread) (sym e))
      | inr ne ↦ ap (λ (z : TerritoryView). z.thread) (index_other j ne)
    ];
    targets = λ j. elim (cases_eq j i) [
      | inl e ↦ ap (λ (z : TerritoryView). z.targets) (index_is j e) ∙ (same.targets ∙ ap (λ n. (get_or s.territories n (no_territory 0)).targets) (sym e))
      | inr ne ↦ ap (λ (z : TerritoryView). z.targets) (index_other j ne)
    ];
    aside = λ a. elim (cases_eq (thread_of a / s.sweepers) i) [
      | inl e ↦ ap (λ (z : TerritoryView). is_from_one (segment_at z (segment_of a))) (index_is (thread_of a / s.sweepers) e)
          ∙ (same.aside (segment_of a) ∙ ap (λ n. is_from_one (segment_at (get_or s.territories n (no_territory 0)) (segment_of a))) (sym e))
      | inr ne ↦ ap (λ (z : TerritoryView). is_from_one (segment_at z (segment_of a))) (index_other (thread_of a / s.sweepers) ne)
    ];
  }

  -- the cards of all are sound where those of the changed one are
  pub sound : (g : ℕ → Option ℕ) → (AreCardsSound g (get_or s.territories i (no_territory 0)) → AreCardsSound g t')
      → AreSound g s → AreSound g (with_territory s i t')
  sound g one all j h = at_index (AreCardsSound g) j (one (all i within)) (λ ne. all j (omega (arith, h, length-set s.territories i t')))

-- ---- a word put

card_aside : (o : Option SegmentView) (a index refers : ℕ) → is_from_one (option_map (with_card a index refers) o) ≡ is_from_one o
card_aside None a index refers = refl
card_aside (Some p) a index refers = either (needs_mark p.is_from p.generation refers) _ p refl
  where
    either : (b : Bool) (q r : SegmentView) → q.is_from ≡ r.is_from → (cond b q r).is_from ≡ r.is_from
    either true q r e = e
    either false q r e = refl

-- one segment of a list stays a from-segment, or no from-one
aside_set : (segments : List (Option SegmentView)) (m n : ℕ) (v : Option SegmentView)
    → is_from_one v ≡ is_from_one (get_or segments m None)
    → is_from_one (get_or (set segments m v) n None) ≡ is_from_one (get_or segments n None)
aside_set segments m n v same = elim (cases_eq n m) [
  | inl e ↦ elim (cases_lt m (length segments)) [
    | inl h ↦ ap (λ k. is_from_one (get_or (set segments m v) k None)) e
        ∙ (ap is_from_one (get_or-set_same segments m v None h) ∙ (same ∙ ap (λ k. is_from_one (get_or segments k None)) (sym e)))
    | inr past ↦ ap (λ k. is_from_one (get_or (set segments m v) k None)) e
        ∙ (ap is_from_one (get_or_past (set segments m v) m None (omega (arith, past, length-set segments m v)) ∙ sym (get_or_past segments m None past))
        ∙ ap (λ k. is_from_one (get_or segments k None)) (sym e))
  ]
  | inr ne ↦ ap is_from_one (get_or-set_other segments m n v None ne)
]

aside_put : (t : TerritoryView) (a index word refers n : ℕ)
    → is_from_one (segment_at (with_word t a index word refers) n) ≡ is_from_one (segment_at t n)
aside_put t a index word refers n =
    aside_set t.segments (segment_of a) n (option_map (with_card a index refers) (segment_at t (segment_of a)))
    (card_aside (segment_at t (segment_of a)) a index refers)

-- word `index` of the start at a was put
pub is_put : (s : ShareView) (a i index word refers : ℕ) (t t' : TerritoryView) → i ≡ thread_of a / s.sweepers
    → i < length s.territories → owner s.sweepers a ≡ s.number → t ≡ territory_of s a → t' ≡ with_word t a index word refers
    → ((g : ℕ → Option ℕ) → TellsLower g (get t.starts a) word refers → AreCardsSound g t → AreCardsSound g t')
    → IsPut s (with_territory s i t') a index word refers
is_put s a i index word refers t t' ia within own is put sounds = record {
  alike = alike s i t' within (record {
    thread = ap (λ (z : TerritoryView). z.thread) put ∙ ap (λ (z : TerritoryView). z.thread) here;
    targets = ap (λ (z : TerritoryView). z.targets) put ∙ ap (λ (z : TerritoryView). z.targets) here;
    aside = λ n. ap (λ (z : TerritoryView). is_from_one (segment_at z n)) put
        ∙ (aside_put t a index word refers n ∙ ap (λ (z : TerritoryView). is_from_one (segment_at z n)) here);
  });
  here = λ x e.
      let found : get t.starts a ≡ Some x = ap (λ (z : TerritoryView). get z.starts a) is ∙ (sym (own_start s a own) ∙ e) in
      own_start (with_territory s i t') a own
      ∙ (ap (λ (z : TerritoryView). get z.starts a) (index_is s i t' within (thread_of a / s.sweepers) (sym ia))
      ∙ (ap (λ (z : TerritoryView). get z.starts a) put ∙ put_here t.starts a x index word found));
  others = λ b ne. ap (λ o. cond (owner s.sweepers b == s.number) o None) (elsewhere b ne);
  sound = λ g tells. sound s i t' within g (λ old. sounds g
      (subst (λ o. TellsLower g o word refers) (own_start s a own ∙ ap (λ (z : TerritoryView). get z.starts a) (sym is)) tells)
      (subst (AreCardsSound g) (sym here) old));
}
  where
    here : t ≡ get_or s.territories i (no_territory 0)
    here = is ∙ ap (λ n. get_or s.territories n (no_territory 0)) (sym ia)

    elsewhere : (b : ℕ) → b ≢ a → get (territory_of (with_territory s i t') b).starts b ≡ get (territory_of s b).starts b
    elsewhere b ne = elim (cases_eq (thread_of b / s.sweepers) i) [
      | inl e ↦ ap (λ (z : TerritoryView). get z.starts b) (index_is s i t' within (thread_of b / s.sweepers) e)
          ∙ (ap (λ (z : TerritoryView). get z.starts b) put ∙ (put_other t.starts a (get t.starts a) index word b ne
          ∙ (ap (λ (z : TerritoryView). get z.starts b) here ∙ ap (λ n. get (get_or s.territories n (no_territory 0)).starts b) (sym e))))
      | inr d ↦ ap (λ (z : TerritoryView). get z.starts b) (index_other s i t' within (thread_of b / s.sweepers) d)
    ]
