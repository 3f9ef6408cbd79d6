use Rattle.std.specs.Prelude.{◌≡◌, ℕ, ◌+◌, ◌<◌, ◌≤◌, ◌++◌, Option, Some, slice_get, slice_set, slice_index_or, cond, eqb, List, [], ◌∷◌, length}

-- a chain's list
abbrev pub chain_of : List (List ℕ) → ℕ → List ℕ
chain_of lists c = slice_index_or lists c []

-- how many indices there are in all lists
abbrev pub link_count : List (List ℕ) → ℕ
link_count [] = 0
link_count (xs ∷ lists) = length xs + link_count lists

-- 1 for equal numbers, else 0
abbrev pub hit : ℕ → ℕ → ℕ
hit i x = cond (eqb i x) 1 0

-- how often a number stands in a list, and in all lists together
abbrev pub times : ℕ → List ℕ → ℕ
times i [] = 0
times i (x ∷ xs) = hit i x + times i xs

abbrev pub times_all : ℕ → List (List ℕ) → ℕ
times_all i [] = 0
times_all i (xs ∷ lists) = times i xs + times_all i lists

-- each index below the number of links stands in exactly one list, once, and no other number in any
pub record EachOnce (lists : List (List ℕ)) : Type 0 where
  pub once : (i : ℕ) → i < link_count lists → times_all i lists ≡ 1
  pub no_other : (i : ℕ) → link_count lists ≤ i → times_all i lists ≡ 0

-- the list without a number
abbrev pub without : ℕ → List ℕ → List ℕ
without i [] = []
without i (x ∷ xs) = cond (eqb i x) (without i xs) (x ∷ without i xs)

-- the lists with an index put last in a chain
abbrev pub with_last : List (List ℕ) → ℕ → ℕ → List (List ℕ)
with_last lists c i = slice_set lists c (chain_of lists c ++ i ∷ [])

-- the lists with an index taken out of one chain and put last in another
abbrev pub moved : List (List ℕ) → ℕ → ℕ → ℕ → List (List ℕ)
moved lists from to i = slice_set (slice_set lists from (without i (chain_of lists from))) to (chain_of lists to ++ i ∷ [])

-- the lists with the whole list of one chain appended to another, and the first empty
abbrev pub spliced : List (List ℕ) → ℕ → ℕ → List (List ℕ)
spliced lists from to = slice_set (slice_set lists from []) to (chain_of lists to ++ chain_of lists from)

-- r is the index after i, in the list that has i
abbrev pub NextIs : List (List ℕ) → ℕ → Option ℕ → Type 0
NextIs lists i r = (c k : ℕ) → slice_get (chain_of lists c) k ≡ Some i → r ≡ slice_get (chain_of lists c) (k + 1)
