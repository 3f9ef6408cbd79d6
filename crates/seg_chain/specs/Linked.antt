-- How chains lie in two tables of links, `next` and `prev`. Node c, below `heads`, is that of chain c, and node
-- heads + i that of index i. Each chain is a circle through its own node.
use Rattle.std.specs.Prelude.{◌≡◌, ℕ, zero, suc, ◌+◌, ◌-◌, ◌<◌, ◌≤◌, cond, nat_lt, List, [], ◌∷◌, ◌++◌, length, slice_index}
use Rattle.seg_chain.specs.Lists.{chain_of, times_all, link_count}

-- the links from node u over the nodes of xs to node v, both ways
abbrev pub Path : ℕ → (ℕ → ℕ) → (ℕ → ℕ) → ℕ → List ℕ → ℕ → Type 0
Path heads next prev u [] v = (next u ≡ v) × (prev v ≡ u)
Path heads next prev u (x ∷ xs) v = (next u ≡ heads + x) × (prev (heads + x) ≡ u) × Path heads next prev (heads + x) xs v

-- the indices from node u on, up to the node of a chain, and so many at most
unfoldable pub walk : ℕ → (ℕ → ℕ) → ℕ → ℕ → List ℕ
walk heads next zero u = []
walk heads next (suc fuel) u = cond (nat_lt u heads) [] ((u - heads) ∷ walk heads next fuel (next u))

-- the lists of so many first chains
unfoldable pub lists_below : ℕ → (ℕ → ℕ) → ℕ → ℕ → List (List ℕ)
lists_below heads next fuel zero = []
lists_below heads next fuel (suc c) = lists_below heads next fuel c ++ walk heads next fuel (next c) ∷ []

-- the lists of all chains
unfoldable pub lists_of : ℕ → List ℕ → List (List ℕ)
lists_of heads next = lists_below heads (slice_index next) (length next) heads

-- The tables are of one length, and hold these lists: each chain's circle goes over its list, forwards and
-- backwards, and each index that has a node stands in one list, once.
pub record IsLinked (heads : ℕ) (next prev : List ℕ) (lists : List (List ℕ)) : Type 0 where
  pub same : length prev ≡ length next
  pub chains : length lists ≡ heads
  pub total : heads + link_count lists ≡ length next
  pub paths : (c : ℕ) → c < heads → Path heads (slice_index next) (slice_index prev) c (chain_of lists c) c
  pub once : (i : ℕ) → heads + i < length next → times_all i lists ≡ 1
  pub beyond : (i : ℕ) → length next ≤ heads + i → times_all i lists ≡ 0
