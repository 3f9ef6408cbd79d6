-- Segments that are set aside, one list after the other.
use Rattle.std.proofs.Common.{◌≡◌, ◌≢◌, ℕ, zero, suc, ◌+◌, ◌<◌, ◌≤◌, false, List, [], ◌∷◌, ◌++◌, length, get_or, set, take, Option, Some, None, refl, sym, ◌∙◌, ap, subst, arith, inl, inr}
use Rattle.std.proofs.lemmas.Bool.{cases_eq, cases_lt}
use Rattle.std.proofs.lemmas.List.{length-set, take_more, take_all, get_or_read}
use Rattle.std.proofs.lemmas.Option.{slice_get_within, get_or_from_slice_get}
use Rattle.std.specs.List.{slice_get}
use Rattle.seg_chain.specs.Lists.{chain_of, link_count, times, EachOnce}
use Rattle.seg_chain.proofs.Counts.{times-append, times-le-all, length-le-total}
use Rattle.seg_chain.proofs.Laws.{is_index, contains_of}
use Rattle.segment.specs.Segments.{Segment, is_free, set_aside, vacant}
use Rattle.territory.specs.Pools.{numbered}
use Rattle.territory.specs.Changes.{AreSetAside, AreInUse}
use Rattle.territory.proofs.Numbers.{numbered-set_same, numbered-set_other, used_within}
use Rattle.territory.proofs.Listing.{last_in, is_last}
use Rattle.territory.proofs.Growing.{in_at}

pub once_in : (lists : List (List ℕ)) (c n : ℕ) → EachOnce lists → c < length lists → times n (chain_of lists c) ≤ 1
once_in lists c n e k =
    elim (cases_lt n (link_count lists)) [
      | inl b ↦ omega (arith, e.once n b, times-le-all n lists c k)
      | inr b ↦ omega (arith, e.no_other n b, times-le-all n lists c k)
    ]

-- the next of a list does not stand before it
pub taken_none : (xs : List ℕ) (j n : ℕ) → times n xs ≤ 1 → slice_get xs j ≡ Some n → times n (take j xs) ≡ 0
taken_none [] j n once h = cc
taken_none (x ∷ xs) zero n once h = refl
taken_none (x ∷ xs) (suc j) n once h = let ih : times n (take j xs) ≡ 0 = taken_none xs j n (omega arith) h in omega (arith, in_at xs j n h)

pub take_next : (xs : List ℕ) (j n : ℕ) → slice_get xs j ≡ Some n → take (j + 1) xs ≡ take j xs ++ n ∷ []
take_next xs j n h = take_more xs j n (slice_get_within xs j n h) ∙ ap (λ v. take j xs ++ v ∷ []) (get_or_from_slice_get xs j n n h)

pub aside_none : (segments : List Segment) → AreSetAside segments segments []
aside_none segments = record { same = refl; inside = λ n h. absurd (omega arith); outside = λ n h. refl }

pub in_list : (segments : List Segment) (lists : List (List ℕ)) (list j n : ℕ) → AreInUse segments (chain_of lists list) → slice_get (chain_of lists list) j ≡ Some n → is_free (numbered segments n).role ≡ false
in_list segments lists list j n u h = u n (in_at (chain_of lists list) j n h)

pub next_here : (old new : List Segment) (xs : List ℕ) (j n : ℕ) → AreSetAside old new (take j xs) → times n xs ≤ 1 → slice_get xs j ≡ Some n → is_free (numbered old n).role ≡ false → (n < length new) × (numbered new n ≡ numbered old n)
next_here old new xs j n a once h u = (omega (arith, used_within old n u, a.same), a.outside n (taken_none xs j n once h))

pub aside_more : (old new : List Segment) (xs : List ℕ) (j n : ℕ) (q q' : Segment) → AreSetAside old new (take j xs) → times n xs ≤ 1 → slice_get xs j ≡ Some n → is_free (numbered old n).role ≡ false → q ≡ get_or new n q → q' ≡ set_aside q → AreSetAside old (set new n q') (take (j + 1) xs)
aside_more old new xs j n q q' a once h u read is =
    let here : (n < length new) × (numbered new n ≡ numbered old n) = next_here old new xs j n a once h u in
    let q_is : q ≡ numbered old n = get_or_read new n q here.0 read vacant ∙ here.1 in
    subst (AreSetAside old (set new n q')) (sym (take_next xs j n h)) (record {
      same = length-set new n q' ∙ a.same;
      inside = λ m i. elim (cases_eq m n) [
        | inl e ↦ ap (numbered (set new n q')) e ∙ (numbered-set_same new n q' here.0 ∙ (is ∙ (ap set_aside q_is ∙ ap (λ v. set_aside (numbered old v)) (sym e))))
        | inr ne ↦ numbered-set_other new n m q' ne ∙ a.inside m (elim (last_in n m (take j xs) i) [ inl b ↦ b | inr e ↦ absurd (ne e) ])
      ];
      outside = λ m i.
          let ne : m ≢ n = λ e. absurd (omega (arith, i, subst (λ v. 0 < times v (take j xs ++ n ∷ [])) (sym e) (is_last n (take j xs)))) in
          numbered-set_other new n m q' ne ∙ a.outside m (omega (arith, i, times-append m (take j xs) (n ∷ [])));
    })

pub aside_used : (old new : List Segment) (xs : List ℕ) (j n : ℕ) (q : Segment) → AreSetAside old new (take j xs) → times n xs ≤ 1 → slice_get xs j ≡ Some n → is_free (numbered old n).role ≡ false → q ≡ get_or new n q → is_free q.role ≡ false
aside_used old new xs j n q a once h u read =
    let here : (n < length new) × (numbered new n ≡ numbered old n) = next_here old new xs j n a once h u in
    subst (λ (v : Segment). is_free v.role ≡ false) (sym (get_or_read new n q here.0 read vacant ∙ here.1)) u

pub linked_at : (lists : List (List ℕ)) (list j n : ℕ) → EachOnce lists → list < length lists → slice_get (chain_of lists list) j ≡ Some n → n < link_count lists
linked_at lists list j n e k h = is_index lists n list e k (contains_of n (chain_of lists list) (in_at (chain_of lists list) j n h))

-- the end of the list
pub past : (xs : List ℕ) (j : ℕ) → slice_get xs j ≡ None → length xs ≤ j
past [] j h = omega arith
past (x ∷ xs) zero h = cc
past (x ∷ xs) (suc j) h = omega (arith, past xs j h)

pub aside_end : (old new : List Segment) (xs : List ℕ) (j : ℕ) (at : Option ℕ) → AreSetAside old new (take j xs) → at ≡ slice_get xs j → at ≡ None → AreSetAside old new xs
aside_end old new xs j at a e none = subst (AreSetAside old new) (take_all j xs (past xs j (sym e ∙ none))) a

pub aside_all : (old new : List Segment) (lists : List (List ℕ)) (list j : ℕ) → AreSetAside old new (take j (chain_of lists list)) → list < length lists → link_count lists ≤ length old → length old ≤ j → AreSetAside old new (chain_of lists list)
aside_all old new lists list j a b c d = subst (AreSetAside old new) (take_all j (chain_of lists list) (omega (arith, length-le-total lists list b))) a
