-- The chain of dirty segments, after each change.
use Rattle.std.proofs.Common.{◌≡◌, ℕ, ◌<◌, ◌≤◌, true, false, List, [], ◌∷◌, ◌++◌, length, set, sym, ◌∙◌, ap, subst, arith, inl, inr}
use Rattle.std.proofs.lemmas.Bool.{cases_eq}
use Rattle.std.proofs.lemmas.List.{length-set, length_push}
use Rattle.seg_chain.specs.Lists.{chain_of, link_count, times, moved, EachOnce}
use Rattle.seg_chain.proofs.Counts.{times-append}
use Rattle.seg_chain.proofs.Laws.{length-moved, chain_of-moved_to, has_chain, times_of}
use Rattle.segment.specs.Segments.{vacant, Segment}
use Rattle.territory.specs.Pools.{numbered, IsIn, AreDirty, shows_dirty}
use Rattle.territory.proofs.Numbers.{numbered-set_same, numbered-set_other, numbered_push, each_same}
use Rattle.territory.proofs.Listing.{last_in, is_last}

-- the chain stays where a segment shows the same
pub dirty_same : (segments : List Segment) (dirty : List (List ℕ)) (n : ℕ) (p : Segment) → AreDirty segments dirty → shows_dirty p ≡ shows_dirty (numbered segments n) → AreDirty (set segments n p) dirty
dirty_same segments dirty n p d e = record {
  chains = d.chains;
  known = omega (arith, d.known, length-set segments n p);
  each_once = d.each_once;
  shown = λ m i. each_same shows_dirty segments n p e m ∙ d.shown m i;
  listed = λ m t. d.listed m (sym (each_same shows_dirty segments n p e m) ∙ t);
}

-- a vacant segment more, for which there is a link
pub dirty_push : (segments : List Segment) (dirty : List (List ℕ)) → AreDirty segments dirty → length segments < link_count dirty → AreDirty (segments ++ vacant ∷ []) dirty
dirty_push segments dirty d b = record {
  chains = d.chains;
  known = omega (arith, length_push segments vacant);
  each_once = d.each_once;
  shown = λ m i. ap shows_dirty (numbered_push segments m) ∙ d.shown m i;
  listed = λ m t. d.listed m (sym (ap shows_dirty (numbered_push segments m)) ∙ t);
}

-- links more, all of them clean
pub dirty_linked : (segments : List Segment) (dirty dirty' : List (List ℕ)) → AreDirty segments dirty → length dirty' ≡ 2 → link_count dirty ≤ link_count dirty' → EachOnce dirty' → chain_of dirty' 1 ≡ chain_of dirty 1 → AreDirty segments dirty'
dirty_linked segments dirty dirty' d l more once same = record {
  chains = l;
  known = omega (arith, d.known);
  each_once = once;
  shown = λ m i. d.shown m (subst (λ v. 0 < times m v) same i);
  listed = λ m t. subst (λ v. 0 < times m v) (sym same) (d.listed m t);
}

-- a segment that is not dirty has its link among the clean ones
pub clean_in : (segments : List Segment) (dirty : List (List ℕ)) (n : ℕ) → AreDirty segments dirty → n < length segments → shows_dirty (numbered segments n) ≡ false → IsIn dirty 0 n
clean_in segments dirty n d b clean =
    let c : (c : ℕ) × (c < length dirty) × _ = has_chain dirty n d.each_once (omega (arith, d.known)) in
    let i : IsIn dirty c.0 n = times_of (chain_of dirty c.0) n c.2 in
    elim (cases_eq c.0 0) [
      | inl z ↦ subst (λ v. IsIn dirty v n) z i
      | inr nz ↦ let one : c.0 ≡ 1 = omega (arith, c.1, d.chains) in absurd (let t : shows_dirty (numbered segments n) ≡ true = d.shown n (subst (λ v. IsIn dirty v n) one i) in cc)
    ]

-- a segment becomes dirty
pub dirty_marked : (segments : List Segment) (dirty : List (List ℕ)) (n : ℕ) (p : Segment) → AreDirty segments dirty → n < length segments → shows_dirty p ≡ true → link_count (moved dirty 0 1 n) ≡ link_count dirty → EachOnce (moved dirty 0 1 n)
    → AreDirty (set segments n p) (moved dirty 0 1 n)
dirty_marked segments dirty n p d b shows k once =
    let chain : chain_of (moved dirty 0 1 n) 1 ≡ chain_of dirty 1 ++ n ∷ [] = chain_of-moved_to dirty 0 1 n (omega (arith, d.chains)) in
    record {
      chains = length-moved dirty 0 1 n ∙ d.chains;
      known = omega (arith, k, d.known, length-set segments n p);
      each_once = once;
      shown = λ m i. elim (cases_eq m n) [
        | inl same ↦ ap (λ v. shows_dirty (numbered (set segments n p) v)) same ∙ (ap shows_dirty (numbered-set_same segments n p b) ∙ shows)
        | inr other ↦ ap shows_dirty (numbered-set_other segments n m p other) ∙ d.shown m (elim (last_in n m (chain_of dirty 1) (subst (λ v. 0 < times m v) chain i)) [ inl old ↦ old | inr same ↦ absurd (other same) ])
      ];
      listed = λ m t. subst (λ v. 0 < times m v) (sym chain) (elim (cases_eq m n) [
        | inl same ↦ subst (λ v. 0 < times v (chain_of dirty 1 ++ n ∷ [])) (sym same) (is_last n (chain_of dirty 1))
        | inr other ↦ omega (arith, times-append m (chain_of dirty 1) (n ∷ []), d.listed m (sym (ap shows_dirty (numbered-set_other segments n m p other)) ∙ t))
      ]);
    }
