-- What contracts see of a sweeper's places.
use Rattle.std.specs.Prelude.{◌≡◌, ℕ, ◌+◌, ◌-◌, ◌<◌, List, length, slice_index, Some, ◌⊎◌}
use Rattle.gc_words.specs.declared.value.Value.TheVariants.{Object}
use Rattle.gc_words.specs.Word.{value_of}
use Rattle.directory.specs.Directories.{CanStart, DirectoryView, HasOwnWords, TellsApart, owner_in, start_of, sweeper_count, word_in}
use Rattle.sweep_model.specs.Hands.{forwarded_at}

-- the sweeper, the directory of the collection, the pairs of an object and its place in the order of forwarding, and
-- those of them whose objects are not swept
pub record PlacesView : Type 0 where
  pub number : ℕ
  pub directory : DirectoryView
  pub own : List (ℕ × ℕ)
  pub unswept : List (ℕ × ℕ)

-- an object of sweeper k that may be forwarded: something may start there, and it is the sweeper's own
pub record IsOwnStart (d : DirectoryView) (k a : ℕ) : Type 0 where
  pub start : CanStart d a
  pub own : owner_in d a ≡ k

-- the pair whose object has this word, and whose place is q
pub record HasPlace (d : DirectoryView) (own : List (ℕ × ℕ)) (word q : ℕ) : Type 0 where
  pub index : ℕ
  pub below : index < length own
  pub word_is : word_in d (forwarded_at own index).0 ≡ word
  pub place_is : (forwarded_at own index).1 ≡ q

-- The table has an entry for each word of the sweeper's range: 0 or a place. A place is that of the pair whose object has
-- this word, and each pair's place stands at the word of its object.
pub record ArePlaces (d : DirectoryView) (number first : ℕ) (table : List ℕ) (own : List (ℕ × ℕ)) : Type 0 where
  pub number_in : number < sweeper_count d
  pub first_is : first ≡ start_of d.ranges number
  pub size : length table ≡ slice_index d.ranges number
  pub within : HasOwnWords d
  pub apart : TellsApart d
  pub starts : (n : ℕ) → n < length own → IsOwnStart d number (forwarded_at own n).0
  pub words : (w : ℕ) → (slice_index table w ≡ 0) ⊎ ((q : ℕ) × (value_of (slice_index table w) ≡ Some (Object q)))
  pub shown : (w q : ℕ) → value_of (slice_index table w) ≡ Some (Object q) → HasPlace d own (first + w) q
  pub noted : (n : ℕ) → n < length own
      → value_of (slice_index table (word_in d (forwarded_at own n).0 - first)) ≡ Some (Object (forwarded_at own n).1)
