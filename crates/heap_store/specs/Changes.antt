-- What a call does to a territory and to the starts of a heap.
use Rattle.std.specs.Prelude.{◌≡◌, ◌≢◌, ℕ, ◌≤◌, false, List, ◌++◌, length, drop, replicate, IsSome, IfOk, Option, Result, Some, None, slice_get}
use Rattle.std.specs.FinMap.{get}
use Rattle.std.specs.Option.{option_map}
use Rattle.gc_words.specs.Layout.{thread_of}
use Rattle.trace_types.specs.declared.kind.Kind.{Kind}
use Rattle.segment.specs.Segments.{Start}
use Rattle.territory.specs.Territories.{SegmentView, TerritoryView, segment_at, AreCardsSound, IsToldMore}
use Rattle.heap_store.specs.Starts.{Starts, lasting}
use Rattle.heap_store.specs.HeapView.{starts_in}

-- no segment is set aside for a collection
abbrev pub HasNoFrom : TerritoryView → Type 0
HasNoFrom t = (n : ℕ) (p : SegmentView) → segment_at t n ≡ Some p → p.is_from ≡ false

-- One start of a territory was added, or was changed and kept its kind, birth and generation.
pub record IsStartChanged (old new : TerritoryView) (a : ℕ) (x : Start) : Type 0 where
  pub its_thread : thread_of a ≡ old.thread
  pub thread : new.thread ≡ old.thread
  pub no_from : HasNoFrom old → HasNoFrom new
  pub here : get new.starts a ≡ Some x
  pub others : (b : ℕ) → b ≢ a → get new.starts b ≡ get old.starts b
  pub same : IsSome (get old.starts a) → lasting (get old.starts a) ≡ lasting (Some x)

-- A start was added, and the cards stay sound.
pub record IsMade (old new : TerritoryView) (a : ℕ) (x : Start) : Type 0 where
  pub changed : IsStartChanged old new a x
  pub free : get old.starts a ≡ None
  pub sound : (before after : ℕ → Option ℕ) → IsToldMore before after old a → AreCardsSound before old
      → AreCardsSound after new

-- A start that was there got other words, and the cards stay sound.
pub record IsRewritten (old new : TerritoryView) (a : ℕ) (x : Start) (words : List ℕ) : Type 0 where
  pub changed : IsStartChanged old new a (record x { words = words })
  pub sound : (generation_at : ℕ → Option ℕ) → AreCardsSound generation_at old
      → AreCardsSound generation_at new

-- a start of generation 0 with so many words
pub record HasYoung (t : TerritoryView) (a count : ℕ) : Type 0 where
  pub start : Start
  pub here : get t.starts a ≡ Some start
  pub its_thread : thread_of a ≡ t.thread
  pub young : start.generation ≡ 0
  pub room : count ≤ length start.words

-- a new object of generation 0
abbrev pub new_start : Kind → ℕ → ℕ → List ℕ → Start
new_start kind length birth words = record {
  kind = kind;
  length = length;
  generation = 0;
  birth = birth;
  words = words;
}

-- the first words are this one
abbrev pub filled : ℕ → ℕ → List ℕ → List ℕ
filled count word words = replicate count word ++ drop count words

-- the first words of the start are this one now
abbrev pub HasFilled : TerritoryView → TerritoryView → ℕ → ℕ → ℕ → Type 0
HasFilled old new a count word =
    (x : Start) → get old.starts a ≡ Some x → IsRewritten old new a x (filled count word x.words)

-- where the call is not refused, this start was added at the place that it gives
abbrev pub MakesStart : {E : Type 0} → TerritoryView → TerritoryView → Start → Result ℕ E → Type 0
MakesStart old new x result = IfOk result (λ a. IsMade old new a x)

-- the generation of what starts somewhere
abbrev pub generation_at : Starts → ℕ → Option ℕ
generation_at f a = option_map (λ (x : Start). x.generation) (f a)

-- the cards of all territories are sound
abbrev pub HaveSoundCards : List TerritoryView → Type 0
HaveSoundCards territories =
    (i : ℕ) (t : TerritoryView) → slice_get territories i ≡ Some t
    → AreCardsSound (generation_at (starts_in territories)) t
