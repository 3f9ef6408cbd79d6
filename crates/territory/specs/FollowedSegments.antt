-- The same in the two segments between which pairs are copied.
use Rattle.std.specs.Prelude.{◌≡◌, ◌≢◌, ℕ, ◌+◌, ◌*◌, ◌/◌, ◌%◌, ◌<◌, ◌≤◌, List, [], ◌∷◌, ◌++◌, Bool, false, length, slice_get, slice_index, slice_set, Some, ◌⊎◌}
use Rattle.gc_words.specs.declared.address.TheConstants.{SEGMENTS, THREADS}
use Rattle.gc_words.specs.declared.value.Value.TheVariants as value
use Rattle.gc_words.specs.Layout.{address_of}
use Rattle.gc_words.specs.Word.{value_of}
use Rattle.segment.specs.declared.space.Space.TheVariants as space
use Rattle.segment.specs.Segments.{HasRoom, IsSound, IsStart, Segment, is_free, put_in}
use Rattle.segment.specs.Copies.{with_copy}
use Rattle.territory.specs.declared.pool.following.Between.{Between}
use Rattle.territory.specs.Pools.{PoolView, numbered}
use Rattle.territory.specs.Following.{IsFollowedTo}

-- the segment to which pairs are copied; a word for each possible start of the other one; what was copied, and what of it
-- waits to be swept
pub record Reel : Type 0 where
  pub to : Segment
  pub places : List ℕ
  pub own : List (ℕ × ℕ)
  pub waiting : List (ℕ × ℕ)

abbrev pub reel : Segment → List ℕ → List (ℕ × ℕ) → List (ℕ × ℕ) → Reel
reel to places own waiting = record { to = to; places = places; own = own; waiting = waiting }

-- the address of start k of the segment from which pairs are copied, and of the copy at an offset
abbrev pub object_at : Between → ℕ → ℕ
object_at between k = address_of between.thread between.from (2 * k)

abbrev pub copy_at : Between → ℕ → ℕ
copy_at between offset = address_of between.thread between.to offset

-- word `index` of start k refers to start j, which had no place: it was copied to offset r, and word `index` of the copy at
-- offset q refers there now
pub record IsReachedIn (between : Between) (from : Segment) (old new : Reel) (k q index j r : ℕ) : Type 0 where
  pub refers : value_of (slice_index from.words (2 * k + index)) ≡ Some (value.Object (object_at between j))
  pub starts : IsStart from j
  pub unplaced : slice_index old.places j ≡ 0
  pub room : HasRoom old.to 2
  pub offset : r ≡ old.to.top
  pub word : ℕ
  pub word_is : value_of word ≡ Some (value.Object (copy_at between r))
  pub to : new.to ≡ put_in (with_copy old.to from j) (q / 2) index word
  pub places : new.places ≡ slice_set old.places j word
  pub own : new.own ≡ old.own ++ (object_at between j, copy_at between r) ∷ []

abbrev pub IsCarSweptIn : Between → Segment → Reel → Reel → ℕ → ℕ → Type 0
IsCarSweptIn between from old new k q =
    (((b : ℕ) → value_of (slice_index from.words (2 * k)) ≡ Some (value.Object b) → ⊥) × (new ≡ old))
    ⊎ ((j : ℕ) × (r : ℕ) × IsReachedIn between from old new k q 0 j r
    × (new.waiting ≡ old.waiting ++ (object_at between j, copy_at between r) ∷ []))

-- The cdr of start k refers to no object, and start j, which waited last, is taken, with its copy at offset r.
pub record IsTakenIn (between : Between) (from : Segment) (old new : Reel) (k j r : ℕ) : Type 0 where
  pub nothing : (b : ℕ) → value_of (slice_index from.words (2 * k + 1)) ≡ Some (value.Object b) → ⊥
  pub starts : IsStart from j
  pub copy : IsStart old.to (r / 2)
  pub even : r % 2 ≡ 0
  pub waited : old.waiting ≡ new.waiting ++ (object_at between j, copy_at between r) ∷ []
  pub others : new ≡ record old { waiting = new.waiting }

abbrev pub IsCdrSweptIn : Between → Segment → Reel → Reel → ℕ → ℕ → ℕ → ℕ → Type 0
IsCdrSweptIn between from old new k q j r =
    (IsReachedIn between from old new k q 1 j r × (new.waiting ≡ old.waiting)) ⊎ IsTakenIn between from old new k j r

abbrev pub IsTrailIn : Between → Segment → Reel → ℕ → ℕ → Reel → ℕ → ℕ → Bool → Type 0
IsTrailIn between from = IsFollowedTo (IsCarSweptIn between from) (IsCdrSweptIn between from)

-- Pairs are copied between two segments of pairs, of which the one from which they are copied has 512 words.
pub record IsBetween (between : Between) (from to : Segment) (places : List ℕ) : Type 0 where
  pub thread : between.thread < THREADS
  pub from_in : between.from < SEGMENTS
  pub to_in : between.to < SEGMENTS
  pub from_sound : IsSound from
  pub to_sound : IsSound to
  pub from_space : from.space ≡ space.Pair
  pub to_space : to.space ≡ space.Pair
  pub from_size : length from.words ≡ 512
  pub from_starts : length from.births ≡ 256
  pub to_size : length to.words ≤ 512
  pub to_used : is_free to.role ≡ false
  pub each_two : length places ≡ 256

-- start k, whose words are car and cdr, was copied to offset q
pub record IsTip (from to : Segment) (k q car cdr : ℕ) : Type 0 where
  pub start : IsStart from k
  pub copy : IsStart to (q / 2)
  pub even : q % 2 ≡ 0
  pub first : car ≡ slice_index from.words (2 * k)
  pub second : cdr ≡ slice_index from.words (2 * k + 1)

-- so much may wait to be swept that each two words of room may have an object that does
abbrev pub HasSpare : Segment → ℕ → ℕ → Type 0
HasSpare to waiting capacity = length to.words + 2 * waiting ≤ to.top + 2 * capacity

-- ---- in a pool

-- pairs of one segment can be copied to the other one, which is the open one of its area
pub record CanFollow (p : PoolView) (between : Between) : Type 0 where
  pub apart : between.from ≢ between.to
  pub from_space : (numbered p.segments between.from).space ≡ space.Pair
  pub to_space : (numbered p.segments between.to).space ≡ space.Pair
  pub from_size : length (numbered p.segments between.from).words ≡ 512
  pub from_starts : length (numbered p.segments between.from).births ≡ 256
  pub to_size : length (numbered p.segments between.to).words ≡ 512
  pub is_open : slice_get p.areas (numbered p.segments between.to).generation ≡ Some (Some between.to)

-- the pool with another segment of this number
abbrev pub with_segment : PoolView → ℕ → Segment → PoolView
with_segment p n to = record p { segments = slice_set p.segments n to }
