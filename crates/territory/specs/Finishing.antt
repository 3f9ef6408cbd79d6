-- What the end of a collection makes of a territory.
use Rattle.std.specs.Prelude.{◌≡◌, ℕ, ◌+◌, ◌<◌, ◌≤◌, ◌==◌, ◌&&◌, Bool, true, false, not, if◌then◌else◌, min, max, List, [], ◌++◌, length, Option, Some, None, IsSome}
use Rattle.std.specs.List.{list_any, filter}
use Rattle.std.specs.FinMap.{get}
use Rattle.gc_words.specs.Layout.{segment_of}
use Rattle.segment.specs.Segments.{Start, in_generation}
use Rattle.territory.specs.declared.territory.Targets.{Targets}
use Rattle.territory.specs.Territories.{SegmentView, TerritoryView, IsFrom, Refers, segment_at, card_byte, free_numbers, current_numbers, from_numbers, from_list}

-- the generation to which a collection takes what it keeps of a generation
abbrev pub target_of : Targets → ℕ → ℕ
target_of targets generation = min (max (generation + 1) targets.min) targets.max

-- an object or cell of a from-segment starts at a
pub record IsFromStart (t : TerritoryView) (a : ℕ) : Type 0 where
  pub aside : IsFrom (segment_at t (segment_of a))
  pub start : IsSome (get t.starts a)

-- a is one of the held starts
abbrev pub is_held_start : List ℕ → ℕ → Bool
is_held_start held a = list_any (λ b. a == b) held

-- one of the held starts lies in segment n
abbrev pub has_held : List ℕ → ℕ → Bool
has_held held n = list_any (λ b. segment_of b == n) held

-- What starts at a after the collection: in a from-segment a held start, in the target generation, and
-- nothing else; in any other segment what started there.
abbrev pub start_finished : Targets → List ℕ → ℕ → Option SegmentView → Option Start → Option Start
start_finished targets held a None x = x
start_finished targets held a (Some s) x =
    if s.is_from
    then (if is_held_start held a then in_generation (target_of targets s.generation) x else None)
    else x

abbrev pub start_after : TerritoryView → List ℕ → ℕ → Option Start
start_after t held a = start_finished t.targets held a (segment_at t (segment_of a)) (get t.starts a)

-- Segment n after the collection: a from-segment is in use again, in the target generation, where a held
-- start lies in it, and else its number is free.
abbrev pub when_finished : Targets → List ℕ → ℕ → Option SegmentView → Option SegmentView
when_finished targets held n None = None
when_finished targets held n (Some s) =
    if s.is_from
    then (if has_held held n
    then Some (record s { generation = target_of targets s.generation; is_from = false; was_held = true })
    else None)
    else Some s

-- from-segment n is kept, in generation g
abbrev pub is_kept_in : Targets → List ℕ → ℕ → ℕ → Option SegmentView → Bool
is_kept_in targets held g n None = false
is_kept_in targets held g n (Some s) = has_held held n && (target_of targets s.generation == g)

-- The lists after the collection: the from-segments that are given back are behind the free numbers, and
-- those that are kept behind the segments of their target generation, in the order of the list of
-- from-segments.
pub record AreListsFinished (old new : TerritoryView) (held : List ℕ) : Type 0 where
  pub same : length new.lists ≡ length old.lists
  pub free : free_numbers new ≡ free_numbers old ++ filter (λ n. not (has_held held n)) (from_list old.lists)
  pub current : (g : ℕ) → g < 9
      → current_numbers new g
      ≡ current_numbers old g
      ++ filter (λ n. is_kept_in old.targets held g n (segment_at old n)) (from_list old.lists)
  pub from : (g : ℕ) → g < 9 → from_numbers new g ≡ []

-- Cards are sound for what the collection leaves: where a word of a start that stays refers to an object or
-- cell of a generation below the one that the start has afterwards, the byte of its card is at most that
-- generation.
abbrev pub AreCardsSoundFor : (ℕ → Option ℕ) → TerritoryView → List ℕ → Type 0
AreCardsSoundFor generation_at t held =
    (a index b h : ℕ) (x : Start) → start_after t held a ≡ Some x
    → Refers x index b → generation_at b ≡ Some h → h < x.generation
    → card_byte t a index ≤ h
