-- A line of the census.
use Rattle.std.specs.Prelude.{ℕ, List, [], ◌∷◌, ◌++◌, ◌==◌, length, decimal, codes, if◌then◌else◌}
use Rattle.trace_types.specs.Values.{Graph}
use Rattle.trace_types.specs.Printing.{generation_word, of_generation, words_of}

-- of a generation with objects, their number and their words
abbrev pub generation_line : Graph → ℕ → List ℕ
generation_line graph g =
    if length (of_generation g graph) == 0 then []
    else codes "g" ++ generation_word g ++ codes " " ++ decimal (length (of_generation g graph)) ++ codes " "
    ++ decimal (words_of (of_generation g graph)) ++ 10 ∷ []
