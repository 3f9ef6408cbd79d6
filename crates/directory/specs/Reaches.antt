-- From the first collected address to the last.
use Rattle.std.specs.Prelude.{◌≡◌, ◌↔◌, ℕ, ◌<◌, ◌≤◌, List, Option, IsSome}
use Rattle.gc_words.specs.Layout.{thread_of, segment_of, offset_of}
use Rattle.directory.specs.declared.reach.Reach.{Reach}
use Rattle.directory.specs.declared.table.FromSegment.{FromSegment}
use Rattle.directory.specs.Tables.{entry_in}
use Rattle.directory.specs.Directories.{DirectoryView, from_in, with_offset, IsCollected}

-- the address lies within a reach
abbrev pub IsWithinReach : Reach → ℕ → Type 0
IsWithinReach r a = (r.least ≤ a) × (a < r.beyond)

-- the address lies between two of these, or is one of them
abbrev pub IsBetween : (ℕ → Type 0) → ℕ → Type 0
IsBetween Among a = (b : ℕ) × (c : ℕ) × Among b × Among c × (b ≤ a) × (a ≤ c)

-- exactly what lies between two of these lies within the reach
abbrev pub Spans : Reach → (ℕ → Type 0) → Type 0
Spans r Among = (a : ℕ) → IsWithinReach r a ↔ IsBetween Among a

-- an address of this thread that lies in a from-segment of its table
abbrev pub LiesInTable : List (Option FromSegment) → ℕ → ℕ → Type 0
LiesInTable table thread a =
    (thread_of a ≡ thread) × IsSome (with_offset (entry_in table (segment_of a)) (offset_of a))

-- exactly what lies between two addresses in from-segments of these tables lies within it
abbrev pub ReachesIn : Reach → List (List (Option FromSegment)) → Type 0
ReachesIn r tables = Spans r (λ a. IsSome (from_in tables a))

-- exactly what lies between two collected addresses lies within it
abbrev pub Reaches : Reach → DirectoryView → Type 0
Reaches r d = Spans r (IsCollected d)
