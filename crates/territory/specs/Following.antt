-- Pairs that are copied in one go, each led to by the cdr of the one before it.
use Rattle.std.specs.Prelude.{◌≡◌, ℕ, zero, suc, ◌/◌, ◌<◌, List, [], ◌∷◌, ◌++◌, Bool, true, false, slice_index, slice_set, Option, None, Some, ◌⊎◌}
use Rattle.std.specs.FinMap.{get, insert}
use Rattle.gc_words.specs.declared.value.Value.TheVariants as value
use Rattle.gc_words.specs.Layout.{IsAddress, offset_of, segment_of, thread_of}
use Rattle.gc_words.specs.Word.{value_of}
use Rattle.trace_types.specs.declared.kind.Kind.TheVariants.{Pair}
use Rattle.segment.specs.Segments.{Start}
use Rattle.territory.specs.Territories.{AreCardsSound, IsAsBefore, TellsLower, TerritoryView, with_word, words_of}
use Rattle.territory.specs.Copies.{IsPlacedLike, RefersToNoneBelow, copy_in}

-- ---- pairs one after the other, whatever is changed

-- Where Car sweeps the car of a pair, whose copy is known, and Cdr its cdr, which leads to another pair and its copy: so
-- many pairs were swept, from a with its copy q to b with its copy r, which is not swept.
abbrev pub AreFollowed : {S : Type 0} → (S → S → ℕ → ℕ → Type 0) → (S → S → ℕ → ℕ → ℕ → ℕ → Type 0)
    → ℕ → S → ℕ → ℕ → S → ℕ → ℕ → Type 0
AreFollowed Car Cdr zero old a q new b r = (new ≡ old) × (b ≡ a) × (r ≡ q)
AreFollowed {S} Car Cdr (suc n) old a q new b r =
    (mid : S) × (c : ℕ) × (p : ℕ) × (now : S)
    × AreFollowed Car Cdr n old a q mid c p × Car mid now c p × Cdr now new c p b r

-- a sweep that was made or was not
abbrev pub IfSwept : {S : Type 0} → Bool → (S → S → ℕ → ℕ → Type 0) → S → S → ℕ → ℕ → Type 0
IfSwept true Car old new b r = Car old new b r
IfSwept false Car old new b r = new ≡ old

-- pairs were swept from a on, and then the car of b, or not
pub record IsFollowedTo {S : Type 0} (Car : S → S → ℕ → ℕ → Type 0) (Cdr : S → S → ℕ → ℕ → ℕ → ℕ → Type 0)
    (old : S) (a q : ℕ) (new : S) (b r : ℕ) (car_swept : Bool) : Type 0 where
  pub count : ℕ
  pub mid : S
  pub followed : AreFollowed Car Cdr count old a q mid b r
  pub car : IfSwept car_swept Car mid new b r

-- ---- in a territory

-- The territory; for each possible start of the from-segment the word that refers to its place, or 0; the objects that
-- were copied, with their places; and those of them that wait to be swept.
pub record Trail : Type 0 where
  pub territory : TerritoryView
  pub places : List ℕ
  pub own : List (ℕ × ℕ)
  pub waiting : List (ℕ × ℕ)

abbrev pub trail : TerritoryView → List ℕ → List (ℕ × ℕ) → List (ℕ × ℕ) → Trail
trail territory places own waiting =
    record { territory = territory; places = places; own = own; waiting = waiting }

-- a pair starts there
abbrev pub IsPairAt : TerritoryView → ℕ → Type 0
IsPairAt t a = (x : Start) × (get t.starts a ≡ Some x) × (x.kind ≡ Pair)

-- word `index` of the start at a
abbrev pub word_at : TerritoryView → ℕ → ℕ → ℕ
word_at t a index = slice_index (words_of (get t.starts a)) index

-- car and cdr are the two words of the pair at a
abbrev pub AreItsWords : TerritoryView → ℕ → ℕ → ℕ → Type 0
AreItsWords t a car cdr = (car ≡ word_at t a 0) × (cdr ≡ word_at t a 1)

-- x, which starts at b, was copied to r in generation g, and no card was marked
pub record IsCopyOf (old new : TerritoryView) (b g r : ℕ) (x : Start) : Type 0 where
  pub address : IsAddress r
  pub thread_is : thread_of r ≡ old.thread
  pub free : get old.starts r ≡ None
  pub starts : new.starts ≡ insert old.starts r (copy_in g x)
  pub placed : IsPlacedLike old new b x g (segment_of r)
  pub sound : (generation_at : ℕ → Option ℕ) → RefersToNoneBelow generation_at x g
      → AreCardsSound generation_at old → AreCardsSound generation_at new
  pub thread : new.thread ≡ old.thread
  pub dirty : new.dirty ≡ old.dirty
  pub targets : new.targets ≡ old.targets

-- word `index` of the start at q is another one, which refers to generation g
pub record IsWordPut (old new : TerritoryView) (q index word g : ℕ) : Type 0 where
  pub after : new ≡ with_word old q index word g
  pub sound : (generation_at : ℕ → Option ℕ) → TellsLower generation_at (get old.starts q) word g
      → AreCardsSound generation_at old → AreCardsSound generation_at new

-- Word `index` of a refers to a pair b of the same from-segment, which had no place. It was copied to r in generation g,
-- and word `index` of q, the copy of a, refers there now.
pub record IsReached (g : ℕ) (old new : Trail) (a q index b r : ℕ) : Type 0 where
  pub refers : value_of (word_at old.territory a index) ≡ Some (value.Object b)
  pub segment : segment_of b ≡ segment_of a
  pub thread : thread_of b ≡ old.territory.thread
  pub inside : offset_of b < 512
  pub unplaced : slice_index old.places (offset_of b / 2) ≡ 0
  pub start : Start
  pub has : get old.territory.starts b ≡ Some start
  pub pair : start.kind ≡ Pair
  pub mid : TerritoryView
  pub copied : IsCopyOf old.territory mid b g r start
  pub word : ℕ
  pub word_is : value_of word ≡ Some (value.Object r)
  pub put : IsWordPut mid new.territory q index word g
  pub places : new.places ≡ slice_set old.places (offset_of b / 2) word
  pub own : new.own ≡ old.own ++ (b, r) ∷ []

-- the car of a, whose copy is at q, was swept: it refers to no object, or to a pair that was copied now and waits
abbrev pub IsCarSwept : ℕ → Trail → Trail → ℕ → ℕ → Type 0
IsCarSwept g old new a q =
    (((b : ℕ) → value_of (word_at old.territory a 0) ≡ Some (value.Object b) → ⊥) × (new ≡ old))
    ⊎ ((b : ℕ) × (r : ℕ) × IsReached g old new a q 0 b r × (new.waiting ≡ old.waiting ++ (b, r) ∷ []))

-- the car of a is swept, where it was before or is now
abbrev pub IsSweptNow : ℕ → Bool → Trail → Trail → ℕ → ℕ → Type 0
IsSweptNow g true old new a q = new ≡ old
IsSweptNow g false old new a q = IsCarSwept g old new a q

-- The cdr of a refers to no object. So b, which waited last, is taken to be swept next: a pair of the same segment, whose
-- copy is at r.
pub record IsTaken (g : ℕ) (old new : Trail) (a b r : ℕ) : Type 0 where
  pub nothing : (c : ℕ) → value_of (word_at old.territory a 1) ≡ Some (value.Object c) → ⊥
  pub segment : segment_of b ≡ segment_of a
  pub thread : thread_of b ≡ old.territory.thread
  pub pair : IsPairAt old.territory b
  pub copy_thread : thread_of r ≡ old.territory.thread
  pub copy : Start
  pub has : get old.territory.starts r ≡ Some copy
  pub copy_pair : copy.kind ≡ Pair
  pub generation : copy.generation ≡ g
  pub waited : old.waiting ≡ new.waiting ++ (b, r) ∷ []
  pub others : new ≡ record old { waiting = new.waiting }

-- the cdr of a was swept: it refers to b, which was copied to r now and is swept next, or to no object
abbrev pub IsCdrSwept : ℕ → Trail → Trail → ℕ → ℕ → ℕ → ℕ → Type 0
IsCdrSwept g old new a q b r =
    (IsReached g old new a q 1 b r × (new.waiting ≡ old.waiting)) ⊎ IsTaken g old new a b r

-- pairs were followed from the one at a on, whose copy is at q, to the one at b, whose copy is at r
abbrev pub IsTrail : ℕ → Trail → ℕ → ℕ → Trail → ℕ → ℕ → Bool → Type 0
IsTrail g = IsFollowedTo (IsCarSwept g) (IsCdrSwept g)

-- ---- how far it goes

-- word `index` of a refers to b, a pair of the same from-segment that has no place
pub record RefersToUnplaced (t : TerritoryView) (places : List ℕ) (a index b : ℕ) : Type 0 where
  pub refers : value_of (word_at t a index) ≡ Some (value.Object b)
  pub segment : segment_of b ≡ segment_of a
  pub thread : thread_of b ≡ t.thread
  pub inside : offset_of b < 512
  pub unplaced : slice_index places (offset_of b / 2) ≡ 0
  pub pair : IsPairAt t b

-- following can go on by word `index` of a
pub record CanReach (t : Trail) (a index : ℕ) : Type 0 where
  pub object : ℕ
  pub unplaced : RefersToUnplaced t.territory t.places a index object

-- Following can't go on from b: where its car was swept, by its cdr; where it was not, by the object to which its car refers.
abbrev pub IsTrailEnd : Trail → ℕ → Bool → Type 0
IsTrailEnd t b true = CanReach t b 1 → ⊥
IsTrailEnd t b false =
    (c : ℕ) × (value_of (word_at t.territory b 0) ≡ Some (value.Object c)) × (CanReach t b 0 → ⊥)

-- ---- where memory is refused

-- what a refused copy leaves: at most the lists of segments differ
pub record IsLeft (old new : Trail) : Type 0 where
  pub as_before : IsAsBefore old.territory new.territory
  pub thread : new.territory.thread ≡ old.territory.thread
  pub dirty : new.territory.dirty ≡ old.territory.dirty
  pub targets : new.territory.targets ≡ old.territory.targets
  pub places : new.places ≡ old.places
  pub own : new.own ≡ old.own
  pub waiting : new.waiting ≡ old.waiting

-- pairs were followed from the one at a on, whose copy is at q, to some pair, and then a copy may have been refused
pub record HasTrail (g : ℕ) (old : Trail) (a q : ℕ) (new : Trail) : Type 0 where
  pub mid : Trail
  pub object : ℕ
  pub copy : ℕ
  pub car_swept : Bool
  pub trail_is : IsTrail g old a q mid object copy car_swept
  pub left : IsLeft mid new
