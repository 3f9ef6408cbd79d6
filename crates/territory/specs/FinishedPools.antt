-- What the calls that end a collection do to a pool.
use Rattle.std.specs.Prelude.{◌≡◌, ℕ, ◌+◌, ◌/◌, ◌<◌, ◌==◌, ◌&&◌, ◌||◌, Bool, false, not, if◌then◌else◌, List, [], ◌++◌, length, slice_index_or, slice_set}
use Rattle.std.specs.List.{list_any, filter}
use Rattle.gc_words.specs.Layout.{segment_of, offset_of}
use Rattle.seg_chain.specs.Lists.{chain_of, moved, without}
use Rattle.segment.specs.declared.segment.Role.TheVariants.{From}
use Rattle.segment.specs.Segments.{Segment, IsStart, is_free, is_some_marked, given_back, kept_marked}
use Rattle.territory.specs.declared.territory.Targets.{Targets}
use Rattle.territory.specs.Territories.{from_list}
use Rattle.territory.specs.Pools.{PoolView, numbered, list_of, is_from_role}
use Rattle.territory.specs.Finishing.{target_of}

-- something starts at a in a from-segment
pub record IsHoldable (segments : List Segment) (a : ℕ) : Type 0 where
  pub aside : (numbered segments (segment_of a)).role ≡ From
  pub start : IsStart (numbered segments (segment_of a)) (offset_of a / 2)

-- a is the address of start k of segment n
abbrev pub is_place : ℕ → ℕ → ℕ → Bool
is_place n k a = (segment_of a == n) && (offset_of a / 2 == k)

-- the starts at these addresses are marked, and nothing else differs
pub record AreHeld (old new : List Segment) (held : List ℕ) : Type 0 where
  pub same : length new ≡ length old
  pub parts : (n : ℕ) → numbered new n ≡ record (numbered old n) { marks = (numbered new n).marks }
  pub marks : (n k : ℕ) → slice_index_or (numbered new n).marks k false
      ≡ (slice_index_or (numbered old n).marks k false || list_any (is_place n k) held)

-- no start is held
abbrev pub AreUnheld : List Segment → Type 0
AreUnheld segments = (n : ℕ) → is_some_marked (numbered segments n).marks ≡ false

-- What outlasts each call: outside the end of a collection nothing is held, and each generation has a target.
pub record IsBetween (segments : List Segment) (targets : Targets) : Type 0 where
  pub unheld : AreUnheld segments
  pub greatest : targets.max < 9

-- a segment after the collection: a from-segment is kept where a start is held in it, and else given back
abbrev pub finished : Targets → Segment → Segment
finished targets p =
    if is_from_role p.role
    then (if is_some_marked p.marks then kept_marked p (target_of targets p.generation) else given_back p)
    else p

-- from-segment n is kept or given back
pub record IsFinishedAt (old new : PoolView) (targets : Targets) (n : ℕ) : Type 0 where
  pub segments : new.segments ≡ slice_set old.segments n (finished targets (numbered old.segments n))
  pub areas : new.areas ≡ old.areas
  pub lists : let p = numbered old.segments n in
      new.lists ≡ moved old.lists (list_of p) (list_of (finished targets p)) n
  pub dirty : chain_of new.dirty 1
      ≡ (if is_free (finished targets (numbered old.segments n)).role
      then without n (chain_of old.dirty 1)
      else chain_of old.dirty 1)

-- the list in which a number stands after the collection, and whether its segment is in use then
abbrev pub list_after : Targets → List Segment → ℕ → ℕ
list_after targets segments n = list_of (finished targets (numbered segments n))

abbrev pub is_used_after : Targets → List Segment → ℕ → Bool
is_used_after targets segments n = not (is_free (finished targets (numbered segments n)).role)

-- each from-segment is kept or given back
pub record AreFinished (old new : PoolView) (targets : Targets) : Type 0 where
  pub same : length new.segments ≡ length old.segments
  pub segments : (n : ℕ) → numbered new.segments n ≡ finished targets (numbered old.segments n)
  pub areas : new.areas ≡ old.areas
  pub lists_same : length new.lists ≡ length old.lists
  pub lists : (c : ℕ) → c < 10
      → chain_of new.lists c
      ≡ chain_of old.lists c ++ filter (λ n. list_after targets old.segments n == c) (from_list old.lists)
  pub from : (g : ℕ) → g < 9 → chain_of new.lists (10 + g) ≡ []
  pub dirty : chain_of new.dirty 1 ≡ filter (is_used_after targets old.segments) (chain_of old.dirty 1)
