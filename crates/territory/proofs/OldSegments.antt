-- A pool looks for the first old start, from one dirty segment to the next.
use Rattle.std.proofs.Common.{◌≡◌, ℕ, ◌+◌, ◌<◌, ◌≤◌, List, length, drop, Option, Some, None, IfSome, Contains, refl, sym, ◌∙◌, ap, subst, arith, inl, inr}
use Rattle.std.proofs.lemmas.Bool.{cases_eq}
use Rattle.std.proofs.lemmas.Option.{same_Some, slice_get_within, slice_get_read}
use Rattle.std.specs.List.{slice_get}
use Rattle.seg_chain.specs.Lists.{chain_of, link_count, NextIs}
use Rattle.seg_chain.proofs.Counts.{length-le-total}
use Rattle.seg_chain.proofs.Laws.{is_index, contains_of, times_of}
use Rattle.segment.specs.Segments.{NoneWithin, NoneFrom}
use Rattle.territory.specs.Pools.{PoolView, IsSettled}
use Rattle.territory.specs.Territories.{IsNext}
use Rattle.territory.specs.Olds.{IsOldAt, NoOldsBefore, IsFoundOld, IsFirstOld}
use Rattle.territory.proofs.Growing.{in_at}
use Rattle.territory.proofs.Asides.{past}
use Rattle.territory.proofs.AgedAll.{get_drop}
use Rattle.territory.proofs.AgedPool.{IsDirtyHere, in_chain}

-- how far the walk has come, wherever it began
pub record IsWalked (p : PoolView) (cg : ℕ) (first at : Option ℕ) (count : ℕ) : Type 0 where
  pub dirty : IfSome at (Contains (chain_of p.dirty 1))
  pub passed : (i : ℕ) → first ≡ slice_get (chain_of p.dirty 1) i
      → (at ≡ slice_get (chain_of p.dirty 1) (i + count)) × NoOldsBefore p.segments cg (drop i (chain_of p.dirty 1)) count

pub walked_none : (p : PoolView) (cg : ℕ) (first : Option ℕ) → IfSome first (Contains (chain_of p.dirty 1)) → IsWalked p cg first first 0
walked_none p cg first d = record {
  dirty = d;
  passed = λ i e. (let z : i ≡ i + 0 = omega arith in e ∙ ap (slice_get (chain_of p.dirty 1)) z, λ j n lt. absurd (omega arith));
}

-- the segment at hand
its_value : (P : ℕ → Type 0) (o : Option ℕ) (n : ℕ) → o ≡ Some n → IfSome o P → P n
its_value P o n e h = subst (λ v. IfSome v P) e h

pub walked_at : (p : PoolView) (cg count n : ℕ) (first at : Option ℕ) → IsWalked p cg first at count → at ≡ Some n → Contains (chain_of p.dirty 1) n
walked_at p cg count n first at w e = its_value (Contains (chain_of p.dirty 1)) at n e w.dirty

pub walked_here : (p : PoolView) (cg count n : ℕ) (first at : Option ℕ) → IsSettled p → IsWalked p cg first at count → at ≡ Some n → IsDirtyHere p n
walked_here p cg count n first at s w e = in_chain p n s (times_of (chain_of p.dirty 1) n (walked_at p cg count n first at w e))

pub walked_linked : (now p : PoolView) (cg count n : ℕ) (first at : Option ℕ) → p ≡ now → IsSettled now → IsWalked now cg first at count → at ≡ Some n → n < link_count p.dirty
walked_linked now p cg count n first at e s w is =
    subst (λ (v : PoolView). n < link_count v.dirty) (sym e) (is_index now.dirty n 1 s.dirty.each_once (omega (arith, s.dirty.chains)) (walked_at now cg count n first at w is))

-- ---- one more without an old start
pub if_contained : (xs : List ℕ) (k : ℕ) (r : Option ℕ) → r ≡ slice_get xs k → IfSome r (Contains xs)
if_contained xs k None e = tt
if_contained xs k (Some m) e = contains_of m xs (in_at xs k m (sym e))

pub after_contained : (xs : List ℕ) (n : ℕ) (r : Option ℕ) → Contains xs n → IsNext xs n r → IfSome r (Contains xs)
after_contained xs n r c next =
    let at : slice_get xs c.0 ≡ Some n = slice_get_read xs (length xs) c.0 n refl c.1 (sym c.2) in
    if_contained xs (c.0 + 1) r (next c.0 at)

pub walked_more : (now p : PoolView) (cg count n : ℕ) (first at r : Option ℕ) → p ≡ now → IsWalked now cg first at count → at ≡ Some n → NoneFrom (IsOldAt now.segments cg n) 0 → NextIs p.dirty n r → IsWalked now cg first r (count + 1)
walked_more now p cg count n first at r e w is none next =
    let next' : IsNext (chain_of now.dirty 1) n r = (subst (λ (v : PoolView). NextIs v.dirty n r) e next) 1 in
    record {
      dirty = after_contained (chain_of now.dirty 1) n r (walked_at now cg count n first at w is) next';
      passed = λ i f.
          let xs = chain_of now.dirty 1 in
          let old : (at ≡ slice_get xs (i + count)) × NoOldsBefore now.segments cg (drop i xs) count = w.passed i f in
          let here : slice_get xs (i + count) ≡ Some n = sym old.0 ∙ is in
          let z : i + count + 1 ≡ i + (count + 1) = omega arith in (
            next' (i + count) here ∙ ap (slice_get xs) z,
            λ j m lt there. elim (cases_eq j count) [
              | inl same ↦
                  let m_is : m ≡ n = same_Some _ _ (sym there ∙ (get_drop xs i j ∙ (ap (λ v. slice_get xs (i + v)) same ∙ here))) in
                  subst (λ v. NoneFrom (IsOldAt now.segments cg v) 0) (sym m_is) none
              | inr ne ↦ old.1 j m (omega arith) there
            ],
          );
    }

-- ---- what was found
pub walked_found : (now : PoolView) (cg count n k : ℕ) (first at : Option ℕ) → IsWalked now cg first at count → at ≡ Some n → IsOldAt now.segments cg n k → NoneWithin (IsOldAt now.segments cg n) 0 k
    → (i : ℕ) → first ≡ slice_get (chain_of now.dirty 1) i → IsFoundOld now.segments cg (drop i (chain_of now.dirty 1)) n k
walked_found now cg count n k first at w is old least i e =
    let passed : (at ≡ slice_get (chain_of now.dirty 1) (i + count)) × NoOldsBefore now.segments cg (drop i (chain_of now.dirty 1)) count = w.passed i e in
    record { place = count; here = get_drop (chain_of now.dirty 1) i count ∙ (sym passed.0 ∙ is); before = passed.1; old = old; least = least }

-- the list is no longer than what was passed
passed_all : (now : PoolView) (cg count i : ℕ) → length (chain_of now.dirty 1) ≤ i + count → NoOldsBefore now.segments cg (drop i (chain_of now.dirty 1)) count → (m : ℕ) → NoOldsBefore now.segments cg (drop i (chain_of now.dirty 1)) m
passed_all now cg count i short none m j n lt here =
    let xs = chain_of now.dirty 1 in
    let within : i + j < length xs = slice_get_within xs (i + j) n (sym (get_drop xs i j) ∙ here) in
    none j n (omega arith) here

walked_end : (now : PoolView) (cg count : ℕ) (first at : Option ℕ) → IsWalked now cg first at count → at ≡ None → (i : ℕ) → first ≡ slice_get (chain_of now.dirty 1) i → (m : ℕ) → NoOldsBefore now.segments cg (drop i (chain_of now.dirty 1)) m
walked_end now cg count first at w none i e =
    let passed : (at ≡ slice_get (chain_of now.dirty 1) (i + count)) × NoOldsBefore now.segments cg (drop i (chain_of now.dirty 1)) count = w.passed i e in
    passed_all now cg count i (past (chain_of now.dirty 1) (i + count) (sym passed.0 ∙ none)) passed.1

pub walked_over : (now : PoolView) (cg count : ℕ) (first at : Option ℕ) → IsSettled now → IsWalked now cg first at count → link_count now.dirty ≤ count → (i : ℕ) → first ≡ slice_get (chain_of now.dirty 1) i → (m : ℕ) → NoOldsBefore now.segments cg (drop i (chain_of now.dirty 1)) m
walked_over now cg count first at s w over i e = passed_all now cg count i (omega (arith, length-le-total now.dirty 1 (omega (arith, s.dirty.chains)))) (w.passed i e).1

pub walked_never : (now : PoolView) (cg count : ℕ) (first at : Option ℕ) (r : Option (ℕ × ℕ)) → IsWalked now cg first at count → at ≡ None → r ≡ None
    → (i : ℕ) → first ≡ slice_get (chain_of now.dirty 1) i → IsFirstOld now.segments cg (drop i (chain_of now.dirty 1)) r
walked_never now cg count first at r w none is i e = subst (λ (v : Option (ℕ × ℕ)). IsFirstOld now.segments cg (drop i (chain_of now.dirty 1)) v) (sym is) (walked_end now cg count first at w none i e)
