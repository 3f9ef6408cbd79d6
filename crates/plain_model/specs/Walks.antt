-- The first walks of a graph, length by length.
use Rattle.std.specs.Prelude.{ℕ, List, [], ◌∷◌, option_map, Option, Some, None}
use Rattle.std.specs.FinMap.{find}
use Rattle.std.specs.Ordering.{nat_cmp}
use Rattle.trace_types.specs.Values.{Value, object, Graph, object_at}
use Rattle.trace_types.specs.Finder.{steps_at, reached}

-- the first of the list, where there is one
abbrev pub head_of : List (List ℕ) → Option (List ℕ)
head_of [] = None
head_of (walk ∷ rest) = Some walk

-- the walk, or where there is none the other
abbrev pub or_first : Option (List ℕ) → Option (List ℕ) → Option (List ℕ)
or_first None other = other
or_first (Some walk) other = Some walk

-- the first walk that goes on from a step, by the walks that are found from where it leads
abbrev pub through : (ℕ → Option (List ℕ)) → List (ℕ × ℕ) → Option (List ℕ)
through found [] = None
through found (s ∷ ss) = or_first (option_map (λ walk. s.0 ∷ walk) (found s.1)) (through found ss)

-- a list of the one walk from the object, or of none
abbrev pub listed : ℕ → Option (List ℕ) → List (ℕ × List ℕ)
listed x None = []
listed x (Some walk) = (x, walk) ∷ []

-- the first walk from the object that is a step longer than those that are known, where there is one
unfoldable pub longer_walk : Graph → List (ℕ × List ℕ) → ℕ → List (ℕ × List ℕ)
longer_walk graph known x = listed x (through (λ y. find nat_cmp y known) (steps_at (object_at graph x)))

-- what is reached from a value
abbrev pub held : Graph → Value → Graph
held graph (object birth) = reached graph birth
held graph _ = []
