-- What contracts see of a share: its territories, in order of their threads.
use Rattle.std.specs.Prelude.{◌≡◌, ◌≢◌, ℕ, ◌+◌, ◌*◌, ◌/◌, ◌%◌, ◌<◌, ◌≤◌, ◌==◌, Bool, false, List, [], ◌∷◌, length, slice_index, slice_index_or, slice_set, option_map, Option, None, Some, IfSome, if◌then◌else◌, refl}
use Rattle.trace_types.specs.declared.kind.Kind.TheVariants.{Pair}
use Rattle.std.specs.Coded.{Coded, code_by, coded×, coded_ℕ, coded_list}
use Rattle.std.specs.FinMap.{get}
use Rattle.gc_words.specs.declared.address.TheConstants.{THREADS}
use Rattle.gc_words.specs.Layout.{IsAddress, segment_of, thread_of}
use Rattle.gc_mail.specs.Recipients.{owner}
use Rattle.segment.specs.Segments.{Start}
use Rattle.territory.specs.Territories.{AreCardsSound, HaveAddresses, SegmentView, TellsLower, TerritoryView, coded_territory, no_territory, segment_at}
use Rattle.territory.specs.Finishing.{AreCardsSoundFor, start_after, when_finished}
use Rattle.territory.specs.Olds.{TellsAbove, when_raised}
use Rattle.territory.specs.Copies.{copy_in, RefersToNoneBelow}

-- the territories of sweeper `number`
pub record ShareView : Type 0 where
  pub number : ℕ
  pub sweepers : ℕ
  pub territories : List TerritoryView

abbrev pub coded_share : Coded ShareView
coded_share = code_by (ℕ × (ℕ × List TerritoryView)) (coded× coded_ℕ (coded× coded_ℕ (coded_list coded_territory)))
    (λ s. (s.number, (s.sweepers, s.territories)))
    (λ p. record { number = p.0; sweepers = p.1.0; territories = p.1.1 }) (λ _. refl)

-- the territory of thread number + i sweepers stands at index i, and none is missing
pub record AreShareOf (number sweepers : ℕ) (territories : List TerritoryView) : Type 0 where
  pub number_in : number < sweepers
  pub most : sweepers ≤ 64
  pub threads : (i : ℕ) → i < length territories
      → (slice_index_or territories i (no_territory 0)).thread ≡ number + i * sweepers
  pub covers : (t : ℕ) → t < 64 → t % sweepers ≡ number → t / sweepers < length territories

-- the index of the territory of a thread, or 255 where the thread is another sweeper's
abbrev pub index_of : ℕ → ℕ → ℕ → ℕ
index_of number sweepers t = if t % sweepers == number then t / sweepers else 255

-- the table of the indices of all threads
abbrev pub AreIndicesOf : ℕ → ℕ → List ℕ → Type 0
AreIndicesOf number sweepers indices =
    (length indices ≡ 64) × ((t : ℕ) → t < 64 → slice_index indices t ≡ index_of number sweepers t)

abbrev pub IsShare : ShareView → Type 0
IsShare s = AreShareOf s.number s.sweepers s.territories

-- the territory at an index
abbrev pub territory_at : ShareView → ℕ → TerritoryView
territory_at s i = slice_index_or s.territories i (no_territory 0)

-- the territory of an address
abbrev pub territory_of : ShareView → ℕ → TerritoryView
territory_of s a = slice_index_or s.territories (thread_of a / s.sweepers) (no_territory 0)

-- what starts at an address of its own
abbrev pub start_in : ShareView → ℕ → Option Start
start_in s a = if owner s.sweepers a == s.number then get (territory_of s a).starts a else None

-- the start, where there is one, is a pair of these words
abbrev pub IsPairOf : Option Start → ℕ → ℕ → Type 0
IsPairOf start car cdr = IfSome start (λ x. (x.kind ≡ Pair) × (x.words ≡ car ∷ cdr ∷ []))

-- whether the address of its own lies in a from-segment
abbrev pub is_from_one : Option SegmentView → Bool
is_from_one None = false
is_from_one (Some p) = p.is_from

abbrev pub is_aside : ShareView → ℕ → Bool
is_aside s a = is_from_one (segment_at (territory_of s a) (segment_of a))

-- the cards of all its territories are sound
abbrev pub AreSound : (ℕ → Option ℕ) → ShareView → Type 0
AreSound generation_at s =
    (i : ℕ) → i < length s.territories → AreCardsSound generation_at (slice_index_or s.territories i (no_territory 0))

-- the threads and the targets of the territories are the same, and so are the from-segments
pub record IsAlike (old new : ShareView) : Type 0 where
  pub number : new.number ≡ old.number
  pub sweepers : new.sweepers ≡ old.sweepers
  pub count : length new.territories ≡ length old.territories
  pub threads : (i : ℕ) → (slice_index_or new.territories i (no_territory 0)).thread
      ≡ (slice_index_or old.territories i (no_territory 0)).thread
  pub targets : (i : ℕ) → (slice_index_or new.territories i (no_territory 0)).targets
      ≡ (slice_index_or old.territories i (no_territory 0)).targets
  pub aside : (a : ℕ) → is_aside new a ≡ is_aside old a

-- word `index` of the start at a is another one, and nothing else changed
pub record IsPut (old new : ShareView) (a index word refers : ℕ) : Type 0 where
  pub alike : IsAlike old new
  pub here : (x : Start) → start_in old a ≡ Some x
      → start_in new a ≡ Some (record x { words = slice_set x.words index word })
  pub others : (b : ℕ) → b ≢ a → start_in new b ≡ start_in old b
  pub sound : (generation_at : ℕ → Option ℕ) → TellsLower generation_at (start_in old a) word refers
      → AreSound generation_at old → AreSound generation_at new

-- q is a new start of its own, the one at a in this generation, and nothing else changed
pub record IsCopied (old new : ShareView) (a generation q : ℕ) : Type 0 where
  pub alike : IsAlike old new
  pub address : IsAddress q
  pub thread : thread_of q ≡ thread_of a
  pub free : start_in old q ≡ None
  pub stays : is_aside new q ≡ false
  pub here : (x : Start) → start_in old a ≡ Some x → start_in new q ≡ Some (copy_in generation x)
  pub others : (b : ℕ) → b ≢ q → start_in new b ≡ start_in old b
  pub sound : (generation_at : ℕ → Option ℕ) (x : Start) → start_in old a ≡ Some x
      → RefersToNoneBelow generation_at x generation → AreSound generation_at old → AreSound generation_at new

-- each of these territories is changed in this way
pub record IsEach (Changed : TerritoryView → TerritoryView → Type 0) (old new : List TerritoryView) : Type 0 where
  pub count : length new ≡ length old
  pub each : (i : ℕ) → i < length old
      → Changed (slice_index_or old i (no_territory 0)) (slice_index_or new i (no_territory 0))

-- ---- raised cards

-- a territory after its marks of at most cg were raised
pub record IsRaisedThere (old new : TerritoryView) (cg : ℕ) : Type 0 where
  pub starts : new.starts ≡ old.starts
  pub segments : (n : ℕ) → segment_at new n ≡ option_map (when_raised cg) (segment_at old n)
  pub thread : new.thread ≡ old.thread
  pub targets : new.targets ≡ old.targets
  pub sound : (generation_at : ℕ → Option ℕ) → TellsAbove cg generation_at
      → AreCardsSound generation_at old → AreCardsSound generation_at new

abbrev pub AreRaised : ℕ → List TerritoryView → List TerritoryView → Type 0
AreRaised cg = IsEach (λ t u. IsRaisedThere t u cg)

-- The marks of at most cg were raised in each territory, and nothing else changed. The cards are sound as before by
-- generations above cg.
pub record IsRaised (old new : ShareView) (cg : ℕ) : Type 0 where
  pub alike : IsAlike old new
  pub starts : (a : ℕ) → start_in new a ≡ start_in old a
  pub there : (i : ℕ) → (territory_at new i).starts ≡ (territory_at old i).starts
  pub marks : (i n : ℕ) → i < length old.territories
      → segment_at (territory_at new i) n ≡ option_map (when_raised cg) (segment_at (territory_at old i) n)
  pub sound : (generation_at : ℕ → Option ℕ) → TellsAbove cg generation_at
      → AreSound generation_at old → AreSound generation_at new

-- ---- the end of the collection

-- A territory after its collection ended and nothing was kept in place: its from-segments are given back, with all that
-- started in them. Cards that were sound for what stays are sound. Each start has an address of its thread.
pub record IsFinished (old new : TerritoryView) : Type 0 where
  pub starts : (a : ℕ) → get new.starts a ≡ start_after old [] a
  pub segments : (n : ℕ) → segment_at new n ≡ when_finished old.targets [] n (segment_at old n)
  pub thread : new.thread ≡ old.thread
  pub targets : new.targets ≡ old.targets
  pub sound : (generation_at : ℕ → Option ℕ) → AreCardsSoundFor generation_at old [] → AreCardsSound generation_at new
  pub thread_in : new.thread < THREADS
  pub addresses : HaveAddresses new

abbrev pub AreFinished : List TerritoryView → List TerritoryView → Type 0
AreFinished = IsEach IsFinished
