-- The lists of numbers, after each change.
use Rattle.std.proofs.Common.{◌≡◌, ◌≢◌, ℕ, ◌+◌, ◌<◌, true, false, cond, eqb, List, [], ◌∷◌, ◌++◌, length, set, refl, sym, ◌∙◌, ap, subst, arith, inl, inr, ◌⊎◌}
use Rattle.std.proofs.lemmas.Bool.{cases_eq, cases_lt}
use Rattle.std.proofs.lemmas.Bool.Decides.{nat_tests}
use Rattle.std.proofs.lemmas.List.{length-set, length_push, get_or_past}
use Rattle.seg_chain.specs.Lists.{chain_of, link_count, times, without, with_last, moved, EachOnce}
use Rattle.seg_chain.proofs.Counts.{times-append}
use Rattle.seg_chain.proofs.Laws.{times-without, length-moved, length-with_last, chain_of-moved_from, chain_of-moved_to, chain_of-moved_other, chain_of-with_last, chain_of-with_last_other, has_chain, times_of, contains_of, is_index}
use Rattle.segment.specs.declared.segment.Role.{Role}
use Rattle.segment.specs.declared.segment.Role.TheVariants.{Free, Current, From}
use Rattle.segment.specs.Segments.{vacant, Segment}
use Rattle.territory.specs.Pools.{numbered, list_for, list_of, IsIn, AreListed}
use Rattle.territory.proofs.Numbers.{numbered-set_same, numbered-set_other, numbered_push, each_same}

role_of : (r : Role) (g : ℕ) → list_for r g ≡ 0 → r ≡ Free
role_of Free g e = refl
role_of Current g e = absurd (omega arith)
role_of From g e = absurd (omega arith)

pub free_of : (p : Segment) → list_of p ≡ 0 → p.role ≡ Free
free_of p e = role_of p.role p.generation e

pub list_of_free : (p : Segment) → p.role ≡ Free → list_of p ≡ 0
list_of_free p e = ap (λ r. list_for r p.generation) e

pub last_in : (n m : ℕ) (xs : List ℕ) → 0 < times m (xs ++ n ∷ []) → (0 < times m xs) ⊎ (m ≡ n)
last_in n m xs h =
    elim (cases_eq m n) [
      | inl e ↦ inr e
      | inr ne ↦ inl (let z : times m (n ∷ []) ≡ 0 = grind (arith, nat_tests, ne) in omega (arith, times-append m xs (n ∷ [])))
    ]

pub is_last : (n : ℕ) (xs : List ℕ) → 0 < times n (xs ++ n ∷ [])
is_last n xs = let z : times n (n ∷ []) ≡ 1 = grind (arith, nat_tests) in omega (arith, times-append n xs (n ∷ []))

-- a list that has something exists
pub chain_within : (lists : List (List ℕ)) (c n : ℕ) → IsIn lists c n → c < length lists
chain_within lists c n i =
    elim (cases_lt c (length lists)) [
      | inl b ↦ b
      | inr far ↦ absurd (let e : chain_of lists c ≡ [] = get_or_past lists c [] far in omega (arith, i, ap (times n) e))
    ]

pub linked_below : (lists : List (List ℕ)) (c n : ℕ) → EachOnce lists → IsIn lists c n → n < link_count lists
linked_below lists c n once i = is_index lists n c once (chain_within lists c n i) (contains_of n (chain_of lists c) i)

pub times_without_self : (n m : ℕ) (xs : List ℕ) → m ≡ n → 0 < times m (without n xs) → ⊥
times_without_self n m [] e h = absurd (omega arith)
times_without_self n m (x ∷ xs) e h =
    elim (eqb n x) as (λ b. eqb n x ≡ b → 0 < times m (cond b (without n xs) (x ∷ without n xs)) → ⊥) [
      | true ↦ λ t k. times_without_self n m xs e k
      | false ↦ λ t k. times_without_self n m xs e (let z : eqb m x ≡ false = ap (λ v. eqb v x) e ∙ t in grind (arith, nat_tests, z, k))
    ] refl h

-- what stands in a list other than the free one is in use, and a number stands in no second list
pub listed_at : (segments : List Segment) (lists : List (List ℕ)) (n : ℕ) → AreListed segments lists → n < link_count lists → IsIn lists (list_of (numbered segments n)) n
listed_at segments lists n l h =
    let c : (c : ℕ) × (c < length lists) × _ = has_chain lists n l.each_once h in
    let i : IsIn lists c.0 n = times_of (chain_of lists c.0) n c.2 in
    subst (λ v. IsIn lists v n) (sym (l.fits c.0 n i)) i

pub in_use_linked : (segments : List Segment) (lists : List (List ℕ)) (n : ℕ) → AreListed segments lists → (list_of (numbered segments n) ≡ 0 → ⊥) → n < link_count lists
in_use_linked segments lists n l h = elim (cases_lt n (link_count lists)) [ inl b ↦ b | inr far ↦ absurd (h (l.unlisted n far)) ]

-- the lists stay where a segment keeps its role and generation
pub listed_same : (segments : List Segment) (lists : List (List ℕ)) (n : ℕ) (p : Segment) → AreListed segments lists → list_of p ≡ list_of (numbered segments n) → AreListed (set segments n p) lists
listed_same segments lists n p l e = record {
  chains = l.chains;
  known = omega (arith, l.known, length-set segments n p);
  each_once = l.each_once;
  fits = λ c m i. each_same list_of segments n p e m ∙ l.fits c m i;
  unlisted = λ m i. each_same list_of segments n p e m ∙ l.unlisted m i;
}

-- a vacant segment more
pub listed_push : (segments : List Segment) (lists : List (List ℕ)) → AreListed segments lists → AreListed (segments ++ vacant ∷ []) lists
listed_push segments lists l = record {
  chains = l.chains;
  known = omega (arith, l.known, length_push segments vacant);
  each_once = l.each_once;
  fits = λ c m i. ap list_of (numbered_push segments m) ∙ l.fits c m i;
  unlisted = λ m i. ap list_of (numbered_push segments m) ∙ l.unlisted m i;
}

-- the next number becomes free
pub listed_more : (segments : List Segment) (lists : List (List ℕ)) (n : ℕ) → AreListed segments lists → n ≡ link_count lists → n < length segments → link_count (with_last lists 0 n) ≡ link_count lists + 1 → EachOnce (with_last lists 0 n)
    → AreListed segments (with_last lists 0 n)
listed_more segments lists n l e b k once = record {
  chains = length-with_last lists 0 n ∙ l.chains;
  known = omega arith;
  each_once = once;
  fits = λ c m i. elim (cases_eq c 0) [
    | inl z ↦
        let i' : 0 < times m (chain_of lists 0 ++ n ∷ []) = subst (λ v. 0 < times m v) (ap (chain_of (with_last lists 0 n)) z ∙ chain_of-with_last lists 0 n (omega (arith, l.chains))) i in
        elim (last_in n m (chain_of lists 0) i') [
          | inl old ↦ l.fits 0 m old ∙ sym z
          | inr same ↦ ap (λ v. list_of (numbered segments v)) same ∙ (l.unlisted n (omega arith) ∙ sym z)
        ]
    | inr ne ↦ l.fits c m (subst (λ v. 0 < times m v) (chain_of-with_last_other lists 0 n c ne) i)
  ];
  unlisted = λ m i. l.unlisted m (omega arith);
}

-- a number goes to another list, as its segment changes
pub listed_moved : (segments : List Segment) (lists : List (List ℕ)) (n to : ℕ) (p : Segment) → AreListed segments lists → IsIn lists (list_of (numbered segments n)) n → n < length segments → list_of p ≡ to → to < 19 → list_of (numbered segments n) ≢ to
    → link_count (moved lists (list_of (numbered segments n)) to n) ≡ link_count lists → EachOnce (moved lists (list_of (numbered segments n)) to n)
    → AreListed (set segments n p) (moved lists (list_of (numbered segments n)) to n)
listed_moved segments lists n to p l inn b is small ne k once =
    let from : ℕ = list_of (numbered segments n) in
    let from_in : from < length lists = chain_within lists from n inn in
    let keep : (c m : ℕ) → m ≢ n → IsIn lists c m → list_of (numbered (set segments n p) m) ≡ c = λ c m other i. ap list_of (numbered-set_other segments n m p other) ∙ l.fits c m i in
    record {
      chains = length-moved lists from to n ∙ l.chains;
      known = omega (arith, k, l.known, length-set segments n p);
      each_once = once;
      fits = λ c m i. elim (cases_eq c to) [
        | inl t ↦
            let i' : 0 < times m (chain_of lists to ++ n ∷ []) = subst (λ v. 0 < times m v) (ap (chain_of (moved lists from to n)) t ∙ chain_of-moved_to lists from to n (omega (arith, l.chains))) i in
            elim (cases_eq m n) [
              | inl same ↦ ap (λ v. list_of (numbered (set segments n p) v)) same ∙ (ap list_of (numbered-set_same segments n p b) ∙ (is ∙ sym t))
              | inr other ↦ keep c m other (subst (λ v. IsIn lists v m) (sym t) (elim (last_in n m (chain_of lists to) i') [ inl old ↦ old | inr same ↦ absurd (other same) ]))
            ]
        | inr nt ↦ elim (cases_eq c from) [
          | inl f ↦
              let i' : 0 < times m (without n (chain_of lists from)) = subst (λ v. 0 < times m v) (ap (chain_of (moved lists from to n)) f ∙ chain_of-moved_from lists from to n from_in ne) i in
              let other : m ≢ n = λ same. times_without_self n m (chain_of lists from) same i' in
              keep c m other (subst (λ v. IsIn lists v m) (sym f) (omega (arith, times-without n m (chain_of lists from) other)))
          | inr nf ↦
              let i' : IsIn lists c m = subst (λ v. 0 < times m v) (chain_of-moved_other lists from to n c nf nt) i in
              keep c m (λ same. nf (sym (l.fits c m i') ∙ ap (λ v. list_of (numbered segments v)) same)) i'
        ]
      ];
      unlisted = λ m i. ap list_of (numbered-set_other segments n m p (λ same. absurd (omega (arith, i, k, linked_below lists from n l.each_once inn)))) ∙ l.unlisted m (omega (arith, k));
    }
