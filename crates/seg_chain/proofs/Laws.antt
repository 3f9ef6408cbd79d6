use Rattle.std.proofs.Common.{◌≡◌, ◌≢◌, ℕ, zero, suc, ◌<◌, inl, inr, Contains, List, [], ◌∷◌, ◌++◌, length, set, replicate, get_or-set_same, get_or-set_other, refl, sym, ◌∙◌, arith}
use Rattle.std.proofs.lemmas.Bool.{cases_eq, cases_lt}
use Rattle.std.proofs.lemmas.Bool.Decides.{nat_tests}
use Rattle.std.proofs.lemmas.List.{length-set}
use Rattle.seg_chain.specs.Lists.{chain_of, times, times_all, link_count, without, with_last, moved, spliced, EachOnce}
use Rattle.seg_chain.proofs.Counts.{times_from_index, times-le-all, times_two}

-- what each change does to the list of each chain
pub chain_of-replicate : (n c : ℕ) → chain_of (replicate n []) c ≡ []
chain_of-replicate zero c = refl
chain_of-replicate (suc n) zero = refl
chain_of-replicate (suc n) (suc c) = chain_of-replicate n c

pub length-with_last : (lists : List (List ℕ)) (c i : ℕ) → length (with_last lists c i) ≡ length lists
length-with_last lists c i = length-set lists _ _

pub chain_of-with_last : (lists : List (List ℕ)) (c i : ℕ) → c < length lists → chain_of (with_last lists c i) c ≡ chain_of lists c ++ i ∷ []
chain_of-with_last lists c i k = get_or-set_same lists c (chain_of lists c ++ i ∷ []) [] k

pub chain_of-with_last_other : (lists : List (List ℕ)) (c i d : ℕ) → d ≢ c → chain_of (with_last lists c i) d ≡ chain_of lists d
chain_of-with_last_other lists c i d n = get_or-set_other lists c d (chain_of lists c ++ i ∷ []) [] n

pub length-moved : (lists : List (List ℕ)) (from to i : ℕ) → length (moved lists from to i) ≡ length lists
length-moved lists from to i = length-set (set lists from (without i (chain_of lists from))) _ _ ∙ length-set lists _ _

pub chain_of-moved_from : (lists : List (List ℕ)) (from to i : ℕ) → from < length lists → from ≢ to → chain_of (moved lists from to i) from ≡ without i (chain_of lists from)
chain_of-moved_from lists from to i k n =
    get_or-set_other (set lists from (without i (chain_of lists from))) to from (chain_of lists to ++ i ∷ []) [] n ∙ get_or-set_same lists from (without i (chain_of lists from)) [] k

pub chain_of-moved_to : (lists : List (List ℕ)) (from to i : ℕ) → to < length lists → chain_of (moved lists from to i) to ≡ chain_of lists to ++ i ∷ []
chain_of-moved_to lists from to i k = get_or-set_same (set lists from (without i (chain_of lists from))) to (chain_of lists to ++ i ∷ []) [] (omega (arith, length-set lists from (without i (chain_of lists from))))

pub chain_of-moved_other : (lists : List (List ℕ)) (from to i d : ℕ) → d ≢ from → d ≢ to → chain_of (moved lists from to i) d ≡ chain_of lists d
chain_of-moved_other lists from to i d n m =
    get_or-set_other (set lists from (without i (chain_of lists from))) to d (chain_of lists to ++ i ∷ []) [] m ∙ get_or-set_other lists from d (without i (chain_of lists from)) [] n

pub length-spliced : (lists : List (List ℕ)) (from to : ℕ) → length (spliced lists from to) ≡ length lists
length-spliced lists from to = length-set (set lists from []) _ _ ∙ length-set lists _ _

pub chain_of-spliced_from : (lists : List (List ℕ)) (from to : ℕ) → from < length lists → from ≢ to → chain_of (spliced lists from to) from ≡ []
chain_of-spliced_from lists from to k n =
    get_or-set_other (set lists from []) to from (chain_of lists to ++ chain_of lists from) [] n ∙ get_or-set_same lists from [] [] k

pub chain_of-spliced_to : (lists : List (List ℕ)) (from to : ℕ) → to < length lists → chain_of (spliced lists from to) to ≡ chain_of lists to ++ chain_of lists from
chain_of-spliced_to lists from to k = get_or-set_same (set lists from []) to (chain_of lists to ++ chain_of lists from) [] (omega (arith, length-set lists from []))

pub chain_of-spliced_other : (lists : List (List ℕ)) (from to d : ℕ) → d ≢ from → d ≢ to → chain_of (spliced lists from to) d ≡ chain_of lists d
chain_of-spliced_other lists from to d n m =
    get_or-set_other (set lists from []) to d (chain_of lists to ++ chain_of lists from) [] m ∙ get_or-set_other lists from d [] [] n

-- standing in a list, and being counted there
pub times_of : (xs : List ℕ) (x : ℕ) → Contains xs x → 0 < times x xs
times_of xs x m = times_from_index xs x m.0 m.1 m.2

more_times : (x y : ℕ) (xs : List ℕ) → x ≢ y → 0 < times x (y ∷ xs) → 0 < times x xs
more_times x y xs n h = grind (arith, nat_tests)

pub contains_of : (x : ℕ) (xs : List ℕ) → 0 < times x xs → Contains xs x
contains_of x [] h = absurd (omega arith)
contains_of x (y ∷ xs) h =
    elim (cases_eq x y) [
      | inl e ↦ (0, omega arith, sym e)
      | inr n ↦ let r = contains_of x xs (more_times x y xs n h) in (suc r.0, omega (arith, r.1), r.2)
    ]

-- each index has one chain, and stands there once
counted_in : (lists : List (List ℕ)) (i : ℕ) → 0 < times_all i lists → (c : ℕ) × (c < length lists) × (0 < times i (chain_of lists c))
counted_in [] i h = absurd (omega arith)
counted_in (xs ∷ lists) i h =
    elim (cases_lt 0 (times i xs)) [
      | inl k ↦ (0, omega arith, k)
      | inr z ↦ let r = counted_in lists i (omega arith) in (suc r.0, omega (arith, r.1), r.2)
    ]

pub has_chain : (lists : List (List ℕ)) (i : ℕ) → EachOnce lists → i < link_count lists → (c : ℕ) × (c < length lists) × Contains (chain_of lists c) i
has_chain lists i e k = let f = counted_in lists i (omega (arith, e.once i k)) in (f.0, f.1, contains_of i (chain_of lists f.0) f.2)

pub one_chain : (lists : List (List ℕ)) (i c d : ℕ) → EachOnce lists → c < length lists → d < length lists → Contains (chain_of lists c) i → Contains (chain_of lists d) i → c ≡ d
one_chain lists i c d e kc kd mc md =
    elim (cases_eq c d) [
      | inl same ↦ same
      | inr n ↦ absurd (elim (cases_lt i (link_count lists)) [
        | inl b ↦ omega (arith, e.once i b, times_two i lists c d kc kd n, times_of (chain_of lists c) i mc, times_of (chain_of lists d) i md)
        | inr b ↦ omega (arith, e.no_other i b, times_two i lists c d kc kd n, times_of (chain_of lists c) i mc, times_of (chain_of lists d) i md)
      ])
    ]

pub is_index : (lists : List (List ℕ)) (i c : ℕ) → EachOnce lists → c < length lists → Contains (chain_of lists c) i → i < link_count lists
is_index lists i c e k m =
    elim (cases_lt i (link_count lists)) [
      | inl b ↦ b
      | inr b ↦ absurd (omega (arith, e.no_other i b, times-le-all i lists c k, times_of (chain_of lists c) i m))
    ]

-- a list without a number has every other one, as often
pub times-without : (x y : ℕ) (xs : List ℕ) → y ≢ x → times y (without x xs) ≡ times y xs
times-without x y [] n = refl
times-without x y (z ∷ xs) n =
    elim (cases_eq x z) [
      | inl e ↦ let r = times-without x y xs n in grind (arith, nat_tests)
      | inr m ↦ let r = times-without x y xs n in grind (arith, nat_tests)
    ]

pub Contains-without : (x : ℕ) (xs : List ℕ) (y : ℕ) → y ≢ x → Contains xs y → Contains (without x xs) y
Contains-without x xs y n m = contains_of y (without x xs) (omega (arith, times-without x y xs n, times_of xs y m))
