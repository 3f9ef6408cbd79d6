-- Pairs that are copied in one go, and their places.
use Rattle.std.specs.Prelude.{◌≡◌, ℕ, ◌+◌, ◌^◌, ◌<◌, List, [], ◌∷◌, ◌++◌, Bool, true, false, length, take, drop, Some, ◌⊎◌}
use Rattle.gc_words.specs.declared.value.Value.TheVariants as value
use Rattle.gc_words.specs.Layout.{segment_of, thread_of}
use Rattle.gc_words.specs.Word.{value_of}
use Rattle.trace_types.specs.declared.kind.Kind.TheVariants.{Pair}
use Rattle.segment.specs.Segments.{Start}
use Rattle.territory.specs.Following.{IsFollowedTo}
use Rattle.directory.specs.Directories.{sweeper_count}
use Rattle.sweep_model.specs.Hands.{IsAbsent}
use Rattle.sweep_share.specs.Shares.{IsAlike, IsCopied, IsPut, ShareView, start_in}
use Rattle.sweep_share.specs.Following.{IsPairIn, word_in}
use Rattle.sweep_places.specs.Places.{IsOwnStart, PlacesView}

-- a share, and the places of its objects
pub record Sweep : Type 0 where
  pub share : ShareView
  pub places : PlacesView

abbrev pub sweep_of : ShareView → PlacesView → Sweep
sweep_of share places = record { share = share; places = places }

-- they are of one sweeper of one collection
pub record IsOneSweep (share : ShareView) (places : PlacesView) : Type 0 where
  pub number : places.number ≡ share.number
  pub sweepers : sweeper_count places.directory ≡ share.sweepers

-- Word `index` of a refers to a pair b of the from-segment of a, which had no place. It was copied to r in generation g,
-- and word `index` of q, the copy of a, refers there now.
pub record IsReached (g : ℕ) (old new : Sweep) (a q index b r : ℕ) : Type 0 where
  pub refers : value_of (word_in old.share a index) ≡ Some (value.Object b)
  pub thread : thread_of b ≡ thread_of a
  pub segment : segment_of b ≡ segment_of a
  pub own : IsOwnStart old.places.directory old.places.number b
  pub absent : IsAbsent old.places.own b
  pub few : length old.places.own + 1 < 2 ^ 64
  pub start : Start
  pub has : start_in old.share b ≡ Some start
  pub pair : start.kind ≡ Pair
  pub mid : ShareView
  pub copied : IsCopied old.share mid b g r
  pub word : ℕ
  pub word_is : value_of word ≡ Some (value.Object r)
  pub put : IsPut mid new.share q index word g

-- the car of a, whose copy is at q, was swept: it refers to no object, or to a pair that was copied now and is not swept
abbrev pub IsCarSwept : ℕ → Sweep → Sweep → ℕ → ℕ → Type 0
IsCarSwept g old new a q =
    (((b : ℕ) → value_of (word_in old.share a 0) ≡ Some (value.Object b) → ⊥) × (new ≡ old))
    ⊎ ((b : ℕ) × (r : ℕ) × IsReached g old new a q 0 b r
    × (new.places ≡ record old.places {
      own = old.places.own ++ (b, r) ∷ [];
      unswept = old.places.unswept ++ (b, r) ∷ [];
    }))

-- The cdr of a refers to no object. So b, which was to be swept last, is taken: a pair of the same from-segment, whose copy
-- is at r.
pub record IsTaken (g : ℕ) (old new : Sweep) (a b r : ℕ) : Type 0 where
  pub nothing : (c : ℕ) → value_of (word_in old.share a 1) ≡ Some (value.Object c) → ⊥
  pub thread : thread_of b ≡ thread_of a
  pub segment : segment_of b ≡ segment_of a
  pub pair : IsPairIn old.share b
  pub copy_thread : thread_of r ≡ thread_of a
  pub copy : Start
  pub has : start_in old.share r ≡ Some copy
  pub copy_pair : copy.kind ≡ Pair
  pub generation : copy.generation ≡ g
  pub share : new.share ≡ old.share
  pub unswept : old.places.unswept ≡ new.places.unswept ++ (b, r) ∷ []
  pub places : new.places ≡ record old.places { unswept = new.places.unswept }

-- the cdr of a was swept: it refers to b, which was copied to r now and is swept next, or to no object
abbrev pub IsCdrSwept : ℕ → Sweep → Sweep → ℕ → ℕ → ℕ → ℕ → Type 0
IsCdrSwept g old new a q b r =
    (IsReached g old new a q 1 b r × (new.places ≡ record old.places { own = old.places.own ++ (b, r) ∷ [] }))
    ⊎ IsTaken g old new a b r

-- pairs were followed from the one at a on, whose copy is at q, to the one at b, whose copy is at r
abbrev pub IsTrail : ℕ → Sweep → ℕ → ℕ → Sweep → ℕ → ℕ → Bool → Type 0
IsTrail g = IsFollowedTo (IsCarSwept g) (IsCdrSwept g)

-- ---- how far it goes

-- word `index` of a refers to b, a pair of the same from-segment that has no place
pub record RefersToUnplaced (w : Sweep) (a index b : ℕ) : Type 0 where
  pub refers : value_of (word_in w.share a index) ≡ Some (value.Object b)
  pub thread : thread_of b ≡ thread_of a
  pub segment : segment_of b ≡ segment_of a
  pub own : IsOwnStart w.places.directory w.places.number b
  pub absent : IsAbsent w.places.own b
  pub pair : IsPairIn w.share b

-- following can go on by word `index` of a
pub record CanReach (w : Sweep) (a index : ℕ) : Type 0 where
  pub object : ℕ
  pub unplaced : RefersToUnplaced w a index object

-- Following can't go on from b: where its car was swept, by its cdr; where it was not, by the object to which its car refers.
abbrev pub IsTrailEnd : Sweep → ℕ → Bool → Type 0
IsTrailEnd w b true = CanReach w b 1 → ⊥
IsTrailEnd w b false =
    (c : ℕ) × (value_of (word_in w.share b 0) ≡ Some (value.Object c)) × (CanReach w b 0 → ⊥)

-- ---- where memory is refused

-- what a refused copy leaves: the same objects
pub record IsLeft (old new : Sweep) : Type 0 where
  pub alike : IsAlike old.share new.share
  pub starts : (a : ℕ) → start_in new.share a ≡ start_in old.share a
  pub places : new.places ≡ old.places

-- pairs were followed from the one at a on, whose copy is at q, to some pair, and then a copy may have been refused
pub record HasTrail (g : ℕ) (old : Sweep) (a q : ℕ) (new : Sweep) : Type 0 where
  pub mid : Sweep
  pub object : ℕ
  pub copy : ℕ
  pub car_swept : Bool
  pub trail_is : IsTrail g old a q mid object copy car_swept
  pub left : IsLeft mid new

-- ---- the entries of one from-segment

-- the 256 entries from one on
abbrev pub part_at : List ℕ → ℕ → List ℕ
part_at table entry = take 256 (drop entry table)

-- the table with others in their place
abbrev pub with_part : List ℕ → ℕ → List ℕ → List ℕ
with_part table entry part = take entry table ++ (part ++ drop (entry + 256) table)
