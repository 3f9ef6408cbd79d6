-- A pool raises the cards of its dirty segments, one after the other.
use Rattle.std.proofs.Common.{◌≡◌, ◌≢◌, ℕ, zero, suc, ◌+◌, ◌<◌, ◌≤◌, Bool, true, false, cond, List, [], ◌∷◌, ◌++◌, length, set, take, drop, Option, Some, None, Contains, refl, sym, ◌∙◌, ap, subst, arith, inl, inr, append_assoc}
use Rattle.std.proofs.lemmas.Bool.{cases_eq, cases_lt}
use Rattle.std.proofs.lemmas.List.{length-set, take_all}
use Rattle.std.proofs.lemmas.Option.{same_Some}
use Rattle.std.specs.List.{slice_get}
use Rattle.seg_chain.specs.Lists.{chain_of, link_count, times, NextIs}
use Rattle.seg_chain.proofs.Counts.{times-append, here_in, without_split, length-le-total}
use Rattle.seg_chain.proofs.Laws.{is_index, contains_of}
use Rattle.segment.specs.Segments.{Segment}
use Rattle.territory.specs.Pools.{PoolView, IsSettled, numbered, shows_dirty}
use Rattle.territory.specs.Olds.{aged, if_dirty, AreAged}
use Rattle.territory.proofs.Numbers.{numbered-set_same, numbered-set_other}
use Rattle.territory.proofs.Listing.{last_in, is_last}
use Rattle.territory.proofs.Asides.{once_in, taken_none, take_next, past}
use Rattle.territory.proofs.Nexts.{get_right}
use Rattle.territory.proofs.AgedPool.{IsDirtyHere, in_chain}

-- the segments of a list had their cards raised, and no others differ
pub record AreAgedOn (cg : ℕ) (old new : List Segment) (list : List ℕ) : Type 0 where
  pub same : length new ≡ length old
  pub inside : (n : ℕ) → 0 < times n list → numbered new n ≡ aged cg (numbered old n)
  pub outside : (n : ℕ) → times n list ≡ 0 → numbered new n ≡ numbered old n

-- how far the walk has come: the dirty list begins with what was kept of the first segments
pub record AreAgedUpTo (cg : ℕ) (old new : PoolView) (count : ℕ) : Type 0 where
  pub settled : IsSettled new
  pub changed : AreAgedOn cg old.segments new.segments (take count (chain_of old.dirty 1))
  pub areas : new.areas ≡ old.areas
  pub lists : new.lists ≡ old.lists
  pub rest : (kept : List ℕ) × (chain_of new.dirty 1 ≡ kept ++ drop count (chain_of old.dirty 1))

pub aged_none : (cg : ℕ) (old : PoolView) → IsSettled old → AreAgedUpTo cg old old 0
aged_none cg old s = record {
  settled = s;
  changed = record { same = refl; inside = λ n h. absurd (omega arith); outside = λ n h. refl };
  areas = refl;
  lists = refl;
  rest = ([], refl);
}

-- ---- the next of the list
pub drop_is : (xs : List ℕ) (k n : ℕ) → slice_get xs k ≡ Some n → drop k xs ≡ n ∷ drop (k + 1) xs
drop_is [] k n h = cc
drop_is (x ∷ xs) zero n h = ap (λ v. v ∷ xs) (same_Some _ _ h)
drop_is (x ∷ xs) (suc k) n h = let e : suc k + 1 ≡ suc (k + 1) = omega arith in drop_is xs k n h ∙ ap (λ v. n ∷ drop v (x ∷ xs)) (sym e)

pub get_drop : (xs : List ℕ) (k j : ℕ) → slice_get (drop k xs) j ≡ slice_get xs (k + j)
get_drop xs zero j = let e : 0 + j ≡ j = omega arith in ap (slice_get xs) (sym e)
get_drop [] (suc k) j = refl
get_drop (x ∷ xs) (suc k) j = let e : suc k + j ≡ suc (k + j) = omega arith in get_drop xs k j ∙ ap (slice_get (x ∷ xs)) (sym e)

-- where it stands
pub record IsAtHand (cg : ℕ) (old new : PoolView) (count n : ℕ) : Type 0 where
  pub place : slice_get (chain_of old.dirty 1) count ≡ Some n
  pub kept : List ℕ
  pub chain : chain_of new.dirty 1 ≡ kept ++ n ∷ drop (count + 1) (chain_of old.dirty 1)
  pub dirty : IsDirtyHere new n

pub at_hand : (cg : ℕ) (old new : PoolView) (count n : ℕ) (at : Option ℕ) → AreAgedUpTo cg old new count → at ≡ slice_get (chain_of old.dirty 1) count → at ≡ Some n → IsAtHand cg old new count n
at_hand cg old new count n at a e is =
    let place : slice_get (chain_of old.dirty 1) count ≡ Some n = sym e ∙ is in
    let chain : chain_of new.dirty 1 ≡ a.rest.0 ++ n ∷ drop (count + 1) (chain_of old.dirty 1) = a.rest.1 ∙ ap (λ v. a.rest.0 ++ v) (drop_is (chain_of old.dirty 1) count n place) in
    let there : 0 < times n (chain_of new.dirty 1) = subst (λ v. 0 < times n v) (sym chain)
    (omega (arith, times-append n a.rest.0 (n ∷ drop (count + 1) (chain_of old.dirty 1)), here_in n (drop (count + 1) (chain_of old.dirty 1)))) in
    record { place = place; kept = a.rest.0; chain = chain; dirty = in_chain new n a.settled there }

pub hand_in : (cg : ℕ) (old new : PoolView) (count n : ℕ) → IsAtHand cg old new count n → Contains (chain_of new.dirty 1) n
hand_in cg old new count n h =
    contains_of n (chain_of new.dirty 1) (subst (λ v. 0 < times n v) (sym h.chain)
    (omega (arith, times-append n h.kept (n ∷ drop (count + 1) (chain_of old.dirty 1)), here_in n (drop (count + 1) (chain_of old.dirty 1)))))

pub hand_linked : (cg : ℕ) (old new p : PoolView) (count n : ℕ) → p ≡ new → IsAtHand cg old new count n → n < link_count p.dirty
hand_linked cg old new p count n e h =
    subst (λ (v : PoolView). n < link_count v.dirty) (sym e) (is_index new.dirty n 1 h.dirty.settled.dirty.each_once (omega (arith, h.dirty.settled.dirty.chains)) (hand_in cg old new count n h))

pub next_hand : (cg : ℕ) (old new p : PoolView) (count n : ℕ) (r : Option ℕ) → p ≡ new → IsAtHand cg old new count n → NextIs p.dirty n r → r ≡ slice_get (chain_of old.dirty 1) (count + 1)
next_hand cg old new p count n r e h next =
    let xs : List ℕ = chain_of old.dirty 1 in
    let z : length h.kept ≡ length h.kept + 0 = omega arith in
    let c : count + 1 ≡ count + 1 + 0 = omega arith in
    let next' : NextIs new.dirty n r = subst (λ (v : PoolView). NextIs v.dirty n r) e next in
    let here : slice_get (chain_of new.dirty 1) (length h.kept) ≡ Some n = ap (λ v. slice_get v (length h.kept)) h.chain ∙ (ap (slice_get (h.kept ++ n ∷ drop (count + 1) xs)) z ∙ get_right h.kept (n ∷ drop (count + 1) xs) 0) in
    next' 1 (length h.kept) here ∙ (ap (λ v. slice_get v (length h.kept + 1)) h.chain ∙ (get_right h.kept (n ∷ drop (count + 1) xs) 1 ∙ (get_drop xs (count + 1) 0 ∙ ap (slice_get xs) (sym c))))

-- ---- one segment more
changed_more : (cg : ℕ) (old new new' : List Segment) (xs : List ℕ) (count n : ℕ) → AreAgedOn cg old new (take count xs) → times n xs ≤ 1 → slice_get xs count ≡ Some n → n < length new → new' ≡ set new n (aged cg (numbered new n)) → AreAgedOn cg old new' (take (count + 1) xs)
changed_more cg old new new' xs count n a once h within is =
    let q : Segment = aged cg (numbered new n) in
    let q_is : q ≡ aged cg (numbered old n) = ap (aged cg) (a.outside n (taken_none xs count n once h)) in
    subst (λ v. AreAgedOn cg old v (take (count + 1) xs)) (sym is) (subst (AreAgedOn cg old (set new n q)) (sym (take_next xs count n h)) (record {
      same = length-set new n q ∙ a.same;
      inside = λ m i. elim (cases_eq m n) [
        | inl e ↦ ap (numbered (set new n q)) e ∙ (numbered-set_same new n q within ∙ (q_is ∙ ap (λ v. aged cg (numbered old v)) (sym e)))
        | inr ne ↦ numbered-set_other new n m q ne ∙ a.inside m (elim (last_in n m (take count xs) i) [ inl b ↦ b | inr e ↦ absurd (ne e) ])
      ];
      outside = λ m i.
          let ne : m ≢ n = λ e. absurd (omega (arith, i, subst (λ v. 0 < times v (take count xs ++ n ∷ [])) (sym e) (is_last n (take count xs)))) in
          numbered-set_other new n m q ne ∙ a.outside m (omega (arith, i, times-append m (take count xs) (n ∷ [])));
    }))

rest_more : (b : Bool) (n : ℕ) (chain kept rest : List ℕ) → times n (kept ++ n ∷ rest) ≤ 1 → chain ≡ if_dirty b n (kept ++ n ∷ rest) → (kept' : List ℕ) × (chain ≡ kept' ++ rest)
rest_more true n chain kept rest once e = (kept ++ n ∷ [], e ∙ sym (append_assoc kept (n ∷ []) rest))
rest_more false n chain kept rest once e = (kept, e ∙ without_split n kept rest once)

pub aged_more : (cg : ℕ) (old new new' : PoolView) (count n : ℕ) → IsSettled old → AreAgedUpTo cg old new count → IsAtHand cg old new count n → IsSettled new' → new'.segments ≡ set new.segments n (aged cg (numbered new.segments n))
    → chain_of new'.dirty 1 ≡ if_dirty (shows_dirty (aged cg (numbered new.segments n))) n (chain_of new.dirty 1) → new'.areas ≡ new.areas → new'.lists ≡ new.lists → AreAgedUpTo cg old new' (count + 1)
aged_more cg old new new' count n s a h s' segments dirty areas lists =
    let xs : List ℕ = chain_of old.dirty 1 in
    let b : Bool = shows_dirty (aged cg (numbered new.segments n)) in
    let once : times n xs ≤ 1 = once_in old.dirty 1 n s.dirty.each_once (omega (arith, s.dirty.chains)) in
    let once' : times n (h.kept ++ n ∷ drop (count + 1) xs) ≤ 1 = subst (λ v. times n v ≤ 1) h.chain (once_in new.dirty 1 n h.dirty.settled.dirty.each_once (omega (arith, h.dirty.settled.dirty.chains))) in
    record {
      settled = s';
      changed = changed_more cg old.segments new.segments new'.segments xs count n a.changed once h.place h.dirty.within segments;
      areas = areas ∙ a.areas;
      lists = lists ∙ a.lists;
      rest = rest_more b n (chain_of new'.dirty 1) h.kept (drop (count + 1) xs) once' (dirty ∙ ap (if_dirty b n) h.chain);
    }

-- ---- the end of the list
aged_whole : (cg : ℕ) (old new : PoolView) (count : ℕ) → IsSettled old → AreAgedUpTo cg old new count → length (chain_of old.dirty 1) ≤ count → AreAged old new cg
aged_whole cg old new count s a end =
    let xs : List ℕ = chain_of old.dirty 1 in
    let all : AreAgedOn cg old.segments new.segments xs = subst (AreAgedOn cg old.segments new.segments) (take_all count xs end) a.changed in
    record {
      same = all.same;
      segments = λ n.
          let p : Segment = numbered old.segments n in
          elim (shows_dirty p) as (λ b. shows_dirty p ≡ b → numbered new.segments n ≡ cond b (aged cg p) p) [
            | true ↦ λ e. all.inside n (s.dirty.listed n e)
            | false ↦ λ e. all.outside n (elim (cases_lt 0 (times n xs)) [ inl i ↦ absurd (let c : true ≡ false = sym (s.dirty.shown n i) ∙ e in cc) | inr z ↦ omega arith ])
          ] refl;
      areas = a.areas;
      lists = a.lists;
    }

pub aged_end : (cg : ℕ) (old new : PoolView) (count : ℕ) (at : Option ℕ) → IsSettled old → AreAgedUpTo cg old new count → at ≡ slice_get (chain_of old.dirty 1) count → at ≡ None → AreAged old new cg
aged_end cg old new count at s a e none = aged_whole cg old new count s a (past (chain_of old.dirty 1) count (sym e ∙ none))

pub aged_over : (cg : ℕ) (old new : PoolView) (count : ℕ) → IsSettled old → AreAgedUpTo cg old new count → link_count old.dirty ≤ count → AreAged old new cg
aged_over cg old new count s a end = aged_whole cg old new count s a (omega (arith, length-le-total old.dirty 1 (omega (arith, s.dirty.chains))))
