-- Pairs that are copied in one go in a share.
use Rattle.std.specs.Prelude.{◌≡◌, ℕ, ◌/◌, ◌<◌, List, [], ◌∷◌, ◌++◌, Bool, true, false, slice_index, slice_set, Some, ◌⊎◌}
use Rattle.gc_words.specs.declared.value.Value.TheVariants as value
use Rattle.gc_words.specs.Layout.{offset_of, segment_of, thread_of}
use Rattle.gc_words.specs.Word.{value_of}
use Rattle.trace_types.specs.declared.kind.Kind.TheVariants.{Pair}
use Rattle.segment.specs.Segments.{Start}
use Rattle.territory.specs.Following.{IsFollowedTo}
use Rattle.territory.specs.Territories.{words_of}
use Rattle.sweep_share.specs.Shares.{IsAlike, IsCopied, IsPut, ShareView, start_in}

-- The share; for each possible start of the from-segment the word that refers to its place, or 0; the objects that were
-- copied, with their places; and those of them that wait to be swept.
pub record ShareTrail : Type 0 where
  pub share : ShareView
  pub places : List ℕ
  pub own : List (ℕ × ℕ)
  pub waiting : List (ℕ × ℕ)

abbrev pub share_trail : ShareView → List ℕ → List (ℕ × ℕ) → List (ℕ × ℕ) → ShareTrail
share_trail share places own waiting = record { share = share; places = places; own = own; waiting = waiting }

-- a pair starts there
abbrev pub IsPairIn : ShareView → ℕ → Type 0
IsPairIn s a = (x : Start) × (start_in s a ≡ Some x) × (x.kind ≡ Pair)

-- word `index` of the start at a
abbrev pub word_in : ShareView → ℕ → ℕ → ℕ
word_in s a index = slice_index (words_of (start_in s a)) index

-- car and cdr are the two words of the pair at a
abbrev pub AreItsWords : ShareView → ℕ → ℕ → ℕ → Type 0
AreItsWords s a car cdr = (car ≡ word_in s a 0) × (cdr ≡ word_in s a 1)

-- Word `index` of a refers to a pair b of the same from-segment, which had no place. It was copied to r in generation g,
-- and word `index` of q, the copy of a, refers there now.
pub record IsReached (g : ℕ) (old new : ShareTrail) (a q index b r : ℕ) : Type 0 where
  pub refers : value_of (word_in old.share a index) ≡ Some (value.Object b)
  pub segment : segment_of b ≡ segment_of a
  pub thread : thread_of b ≡ thread_of a
  pub inside : offset_of b < 512
  pub unplaced : slice_index old.places (offset_of b / 2) ≡ 0
  pub start : Start
  pub has : start_in old.share b ≡ Some start
  pub pair : start.kind ≡ Pair
  pub mid : ShareView
  pub copied : IsCopied old.share mid b g r
  pub word : ℕ
  pub word_is : value_of word ≡ Some (value.Object r)
  pub put : IsPut mid new.share q index word g
  pub places : new.places ≡ slice_set old.places (offset_of b / 2) word
  pub own : new.own ≡ old.own ++ (b, r) ∷ []

-- the car of a, whose copy is at q, was swept: it refers to no object, or to a pair that was copied now and waits
abbrev pub IsCarSwept : ℕ → ShareTrail → ShareTrail → ℕ → ℕ → Type 0
IsCarSwept g old new a q =
    (((b : ℕ) → value_of (word_in old.share a 0) ≡ Some (value.Object b) → ⊥) × (new ≡ old))
    ⊎ ((b : ℕ) × (r : ℕ) × IsReached g old new a q 0 b r × (new.waiting ≡ old.waiting ++ (b, r) ∷ []))

-- The cdr of a refers to no object. So b, which waited last, is taken to be swept next: a pair of the same segment, whose
-- copy is at r.
pub record IsTaken (g : ℕ) (old new : ShareTrail) (a b r : ℕ) : Type 0 where
  pub nothing : (c : ℕ) → value_of (word_in old.share a 1) ≡ Some (value.Object c) → ⊥
  pub segment : segment_of b ≡ segment_of a
  pub thread : thread_of b ≡ thread_of a
  pub pair : IsPairIn old.share b
  pub copy_thread : thread_of r ≡ thread_of a
  pub copy : Start
  pub has : start_in old.share r ≡ Some copy
  pub copy_pair : copy.kind ≡ Pair
  pub generation : copy.generation ≡ g
  pub waited : old.waiting ≡ new.waiting ++ (b, r) ∷ []
  pub others : new ≡ record old { waiting = new.waiting }

-- the cdr of a was swept: it refers to b, which was copied to r now and is swept next, or to no object
abbrev pub IsCdrSwept : ℕ → ShareTrail → ShareTrail → ℕ → ℕ → ℕ → ℕ → Type 0
IsCdrSwept g old new a q b r =
    (IsReached g old new a q 1 b r × (new.waiting ≡ old.waiting)) ⊎ IsTaken g old new a b r

-- pairs were followed from the one at a on, whose copy is at q, to the one at b, whose copy is at r
abbrev pub IsTrail : ℕ → ShareTrail → ℕ → ℕ → ShareTrail → ℕ → ℕ → Bool → Type 0
IsTrail g = IsFollowedTo (IsCarSwept g) (IsCdrSwept g)

-- ---- how far it goes

-- word `index` of a refers to b, a pair of the same from-segment that has no place
pub record RefersToUnplaced (s : ShareView) (places : List ℕ) (a index b : ℕ) : Type 0 where
  pub refers : value_of (word_in s a index) ≡ Some (value.Object b)
  pub segment : segment_of b ≡ segment_of a
  pub thread : thread_of b ≡ thread_of a
  pub inside : offset_of b < 512
  pub unplaced : slice_index places (offset_of b / 2) ≡ 0
  pub pair : IsPairIn s b

-- following can go on by word `index` of a
pub record CanReach (t : ShareTrail) (a index : ℕ) : Type 0 where
  pub object : ℕ
  pub unplaced : RefersToUnplaced t.share t.places a index object

-- Following can't go on from b: where its car was swept, by its cdr; where it was not, by the object to which its car refers.
abbrev pub IsTrailEnd : ShareTrail → ℕ → Bool → Type 0
IsTrailEnd t b true = CanReach t b 1 → ⊥
IsTrailEnd t b false =
    (c : ℕ) × (value_of (word_in t.share b 0) ≡ Some (value.Object c)) × (CanReach t b 0 → ⊥)

-- ---- where memory is refused

-- what a refused copy leaves: the same objects
pub record IsLeft (old new : ShareTrail) : Type 0 where
  pub alike : IsAlike old.share new.share
  pub starts : (a : ℕ) → start_in new.share a ≡ start_in old.share a
  pub places : new.places ≡ old.places
  pub own : new.own ≡ old.own
  pub waiting : new.waiting ≡ old.waiting

-- pairs were followed from the one at a on, whose copy is at q, to some pair, and then a copy may have been refused
pub record HasTrail (g : ℕ) (old : ShareTrail) (a q : ℕ) (new : ShareTrail) : Type 0 where
  pub mid : ShareTrail
  pub object : ℕ
  pub copy : ℕ
  pub car_swept : Bool
  pub trail_is : IsTrail g old a q mid object copy car_swept
  pub left : IsLeft mid new
