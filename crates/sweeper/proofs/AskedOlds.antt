-- What the older objects of a territory ask for, one after the other.
use Rattle.std.proofs.Common.{◌≡◌, ℕ, ◌+◌, ◌*◌, ◌<◌, ◌≤◌, length, List, Option, None, Some, IsSome, Contains, refl, sym, ap, subst, ◌∙◌, inl, inr, arith}
use Rattle.std.proofs.lemmas.Bool.{cases_eq, false≢true}
use Rattle.std.proofs.lemmas.Option.{same_Some, slice_get_within}
use Rattle.std.specs.List.{slice_get}
use Rattle.std.specs.FinMap.{get}
use Rattle.seg_chain.specs.Lists.{times}
use Rattle.seg_chain.proofs.Laws.{contains_of}
use Rattle.gc_words.specs.Layout.{thread_of}
use Rattle.segment.specs.Segments.{Start}
use Rattle.territory.specs.Territories.{IsNext, TerritoryView, words_of}
use Rattle.territory.specs.Olds.{olds_of}
use Rattle.directory.specs.Directories.{DirectoryView}
use Rattle.directory.proofs.Walk.{in_at, left, left_next, left_there, past}
use Rattle.sweep_share.specs.Shares.{IsShare, ShareView, territory_at}
use Rattle.sweeper.specs.declared.starting.Mail.{Mail}
use Rattle.sweeper.specs.Starting.{AreAsked, AreTold, AsksOfObject, AsksOfOld, AsksOfOlds, AsksOfOldsOfAll, AsksOfTerritory}
use Rattle.sweeper.proofs.Asked.{asked_as, asked_first, asked_next}
use Rattle.sweeper.proofs.AskedRoots.{same_field, times_apart}

-- what stands at two places once is at one
same_place : (xs : List ℕ) (j k a : ℕ) → times a xs ≤ 1 → slice_get xs j ≡ Some a → slice_get xs k ≡ Some a
    → j ≡ k
same_place xs j k a once e f = omega (arith, left_there xs j a once e, left_there xs k a once f)

-- The old objects before the one at a place were asked for.
pub record AreWalked (s : ShareView) (m m' : Mail) (d : DirectoryView) (t : TerritoryView)
    (at : Option ℕ) : Type 0 where
  pub place : ℕ
  pub here : at ≡ slice_get (olds_of t d.targets.cg) place
  pub asked : AreAsked s m m' (AsksOfOlds d t place)
  pub told : AreTold t d.targets.cg

pub walked_first : (s : ShareView) (m : Mail) (d : DirectoryView) (t : TerritoryView) (at : Option ℕ) (cg : ℕ)
    → cg ≡ d.targets.cg → at ≡ slice_get (olds_of t cg) 0 → AreTold t cg → AreWalked s m m d t at
walked_first s m d t at cg e is told = record {
  place = 0;
  here = is ∙ ap (λ n. slice_get (olds_of t n) 0) e;
  asked = asked_first s m (AsksOfOld d t);
  told = subst (AreTold t) e told;
}

-- the next one starts there
pub is_old : (s : ShareView) (m m' : Mail) (d : DirectoryView) (t : TerritoryView) (at : Option ℕ) (x : ℕ)
    → AreWalked s m m' d t at → at ≡ Some x → Contains (olds_of t d.targets.cg) x × IsSome (get t.starts x)
is_old s m m' d t at x walked is =
    let c : Contains (olds_of t d.targets.cg) x =
    contains_of x (olds_of t d.targets.cg) (in_at (olds_of t d.targets.cg) walked.place x
    (sym walked.here ∙ is)) in
    (c, (walked.told.olds.old x c).1)

module _ (s : ShareView) (m m' : Mail) (d : DirectoryView) (t : TerritoryView) (at next : Option ℕ) (x cg : ℕ)
    (walked : AreWalked s m m' d t at) (e : cg ≡ d.targets.cg) (is : at ≡ Some x)
    (after : IsNext (olds_of t cg) x next) where
  now : slice_get (olds_of t d.targets.cg) walked.place ≡ Some x
  now = sym walked.here ∙ is

  after_it : next ≡ slice_get (olds_of t d.targets.cg) (walked.place + 1)
  after_it = subst (λ n. IsNext (olds_of t n) x next) e after walked.place now

  pub walked_next : (m'' : Mail) → AreAsked s m' m'' (AsksOfObject d t x (length (words_of (get t.starts x))))
      → AreWalked s m m'' d t next
  walked_next m'' asked = record {
    place = walked.place + 1;
    here = after_it;
    asked = asked_next s m m' m'' (AsksOfOld d t) walked.place walked.asked
        (asked_as s m' m'' (AsksOfObject d t x (length (words_of (get t.starts x))))
        (AsksOfOld d t walked.place) asked
        (λ b u w. (x, now, w))
        (λ b u w.
        let same : w.0 ≡ x = same_Some _ _ (sym w.1 ∙ now) in
        subst (λ y. AsksOfObject d t y (length (words_of (get t.starts y))) b u) same w.2))
        (λ k b u v less w w'.
        let same : w.0 ≡ w'.0 = (same_field w.0 w'.0 w.2.0 w'.2.0 (sym w.2.2.1.0 ∙ w'.2.2.1.0)).0 in
        let here : w'.0 ≡ x = same_Some _ _ (sym w'.1 ∙ now) in
        let first : slice_get (olds_of t d.targets.cg) k ≡ Some x = w.1 ∙ ap Some (same ∙ here) in
        absurd (omega (
          arith,
          less,
          same_place (olds_of t d.targets.cg) k walked.place x
              (walked.told.olds.once x) first now,
        )));
    told = walked.told;
  }

  pub fewer : left (olds_of t cg) next < left (olds_of t cg) at
  fewer = subst (λ n. left (olds_of t n) next < left (olds_of t n) at) (sym e)
      (subst (λ o. left (olds_of t d.targets.cg) next < left (olds_of t d.targets.cg) o) (sym is)
      (left_next (olds_of t d.targets.cg) walked.place x next walked.told.olds.once now after_it))

pub walked_all : (s : ShareView) (m m' : Mail) (d : DirectoryView) (t : TerritoryView) (at : Option ℕ)
    → AreWalked s m m' d t at → at ≡ None → AreAsked s m m' (AsksOfOlds d t (length (olds_of t d.targets.cg)))
walked_all s m m' d t at walked none =
    let far : length (olds_of t d.targets.cg) ≤ walked.place =
    past (olds_of t d.targets.cg) walked.place (sym walked.here ∙ none) in
    asked_as s m m' (AsksOfOlds d t walked.place)
    (AsksOfOlds d t (length (olds_of t d.targets.cg))) walked.asked
    (λ b u w. (w.0, slice_get_within (olds_of t d.targets.cg) w.0 w.2.0 w.2.1, w.2))
    (λ b u w. (w.0, omega (arith, w.1, far), w.2))

-- ---- all territories

-- the first so many territories were walked
pub record AreAllWalked (s : ShareView) (m m' : Mail) (d : DirectoryView) (i : ℕ) : Type 0 where
  pub asked : AreAsked s m m' (AsksOfOldsOfAll d s i)
  pub told : (k : ℕ) → k < i → AreTold (territory_at s k) d.targets.cg

pub all_first : (s : ShareView) (m : Mail) (d : DirectoryView) → AreAllWalked s m m d 0
all_first s m d = record {
  asked = asked_first s m (AsksOfTerritory d s);
  told = λ k h. absurd (omega arith);
}

-- an old object is of the thread of its territory
its_thread : (t : TerritoryView) (cg x k : ℕ) → AreTold t cg → slice_get (olds_of t cg) k ≡ Some x
    → thread_of x ≡ t.thread
its_thread t cg x k told e =
    there (get t.starts x) refl (told.olds.old x
    (contains_of x (olds_of t cg) (in_at (olds_of t cg) k x e))).1
  where
    there : (o : Option Start) → get t.starts x ≡ o → IsSome o → thread_of x ≡ t.thread
    there None is h = absurd (false≢true h)
    there (Some y) is h = (told.addresses x y is).1

pub all_next : (s : ShareView) (m m' m'' : Mail) (d : DirectoryView) (i : ℕ) (t : TerritoryView) → IsShare s
    → i < length s.territories → t ≡ territory_at s i → AreAllWalked s m m' d i → AreTold t d.targets.cg
    → AreAsked s m' m'' (AsksOfOlds d t (length (olds_of t d.targets.cg))) → AreAllWalked s m m'' d (i + 1)
all_next s m m' m'' d i t share within is walked told asked = record {
  asked = asked_next s m m' m'' (AsksOfTerritory d s) i walked.asked
      (subst (λ z. AreAsked s m' m'' (AsksOfOlds d z (length (olds_of z d.targets.cg)))) is asked)
      (λ k b u v less w w'.
      let some : 0 < s.sweepers = omega (arith, share.number_in) in
      let first : thread_of w.2.0 ≡ s.number + k * s.sweepers =
      its_thread (territory_at s k) d.targets.cg w.2.0 w.0 (walked.told k less) w.2.1 ∙ share.threads k
      (omega (arith, less, within)) in
      let second : thread_of w'.2.0 ≡ s.number + i * s.sweepers =
      its_thread (territory_at s i) d.targets.cg w'.2.0 w'.0 here w'.2.1 ∙ share.threads i within in
      let same : w.2.0 ≡ w'.2.0 =
      (same_field w.2.0 w'.2.0 w.2.2.0 w'.2.2.0 (sym w.2.2.2.1.0 ∙ w'.2.2.2.1.0)).0 in
      times_apart k i s.sweepers less some (omega (arith, first, second, ap thread_of same)));
  told = λ k h. elim (cases_eq k i) [
    | inl e ↦ subst (λ n. AreTold (territory_at s n) d.targets.cg) (sym e) here
    | inr ne ↦ walked.told k (omega (arith, h, ne))
  ];
}
  where
    here : AreTold (territory_at s i) d.targets.cg
    here = subst (λ z. AreTold z d.targets.cg) is told
