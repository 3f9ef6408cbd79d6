-- The table of watches and its index.
use Rattle.std.specs.Prelude.{◌≡◌, ℕ, ◌+◌, ◌*◌, ◌<◌, ◌≤◌, Bool, true, false, ◌&&◌, eqb, List, [], ◌∷◌, Option, Some, None, is_some, slice_get}
use Rattle.std.specs.HashMap.{HashMap, get}
use Rattle.weak_eph.specs.declared.watches.Entry.{Entry}
use Rattle.weak_eph.specs.declared.watches.Chain.{Chain}

-- a chain of one key, where `waits` tells the places at which somebody waits for the key: somebody waits at
-- its first and at its last place and nowhere outside, and each place but the last names the next one
pub record IsChain (waits : ℕ → Bool) (next : ℕ → ℕ) (c : Chain) : Type 0 where
  pub first : waits c.first ≡ true
  pub last : waits c.last ≡ true
  pub within : (i : ℕ) → waits i ≡ true → (c.first ≤ i) × (i ≤ c.last)
  pub goes_on : (i : ℕ) → waits i ≡ true → i < c.last → (i < next i) × (waits (next i) ≡ true)
  pub nearest : (i j : ℕ) → waits i ≡ true → i < c.last → i < j → j < next i → waits j ≡ false

-- the chain of one key, or none where nobody waits for it
abbrev pub IsChainOf : (ℕ → Bool) → (ℕ → ℕ) → Option Chain → Type 0
IsChainOf waits next None = (i : ℕ) → waits i ≡ false
IsChainOf waits next (Some c) = IsChain waits next c

-- the chain that the index has for a key, under the key's word
abbrev pub chain_at : {S : Type 0} → HashMap ℕ Chain S → ℕ → Option Chain
chain_at index key = get eqb index (key * 8 + 1)

module _ {B : Type 0} where
  -- the pairs, with one of this key before them where somebody still waits
  abbrev pub before : ℕ → Option B → List (ℕ × B) → List (ℕ × B)
  before key None pairs = pairs
  before key (Some back) pairs = (key, back) ∷ pairs

  -- the pairs of those who still wait, in the order of adding
  abbrev pub waiting : List (Entry B) → List (ℕ × B)
  waiting [] = []
  waiting (e ∷ entries) = before e.key e.back (waiting entries)

  -- the entry is there, is of this key, and somebody still waits
  abbrev pub is_for : ℕ → Option (Entry B) → Bool
  is_for key None = false
  is_for key (Some e) = eqb key e.key && is_some e.back

  -- somebody waits for this key at this place
  abbrev pub waits_at : List (Entry B) → ℕ → ℕ → Bool
  waits_at entries key i = is_for key (slice_get entries i)

  -- the place that the entry there names as the next one of its key
  abbrev pub next_of : Option (Entry B) → ℕ
  next_of None = 0
  next_of (Some e) = e.next

  abbrev pub next_at : List (Entry B) → ℕ → ℕ
  next_at entries i = next_of (slice_get entries i)

  -- the index has the chain of each key that somebody waits for, and no other
  abbrev pub IsIndexed : List (Entry B) → (ℕ → Option Chain) → Type 0
  IsIndexed entries chain = (key : ℕ) → IsChainOf (waits_at entries key) (next_at entries) (chain key)
