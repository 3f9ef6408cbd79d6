-- The printed texts. Every printed line ends with the byte 10.
use Rattle.std.specs.Prelude.{position, unwrap_or, ℕ, zero, suc, ◌/◌, ◌%◌, ◌==◌, List, [], ◌∷◌, ◌++◌, map, filter, fold, length, flat_map, slice_get, sum_by, decimal, codes, nat_abs, Option, Some, None, if◌then◌else◌}
use Rattle.std.specs.Char.{digit_char}
use Rattle.std.specs.Fmt.{signed_decimal}
use Rattle.trace_types.specs.declared.kind.Kind.{Kind}
use Rattle.trace_types.specs.Words.{kind_word}
use Rattle.trace_types.specs.Values.{Value, fixnum, nil, true_value, false_value, bwp, object, objects_in, Object, Graph, object_at, is_guardian, has_bytes, queue_values, size_of}
use Rattle.trace_types.specs.States.{static_generation}
use Rattle.trace_types.specs.Rules.{has}

-- ---- numbers in order of first visit

-- what is printed of an object: the fields, or of a guardian the values of its queue
abbrev pub contents : Object → List Value
contents o = if is_guardian o.kind then queue_values o else o.fields

-- the same of an object that was looked up
abbrev pub contents_at : Option Object → List Value
contents_at None = []
contents_at (Some o) = contents o

-- the births, and this one where it has no number yet
abbrev pub with_number : List ℕ → ℕ → List ℕ
with_number births birth = if has births birth then births else births ++ birth ∷ []

-- the births, and those among the object's contents that have no number yet, from left to right
abbrev pub numbered_at : Graph → Option ℕ → List ℕ → List ℕ
numbered_at graph None births = births
numbered_at graph (Some birth) births = fold with_number births (objects_in (contents_at (object_at graph birth)))

-- the objects that have a number once the first n of them have been gone through
abbrev pub numbered : Graph → Value → ℕ → List ℕ
numbered graph v zero = objects_in (v ∷ [])
numbered graph v (suc n) = let births = numbered graph v n in numbered_at graph (slice_get births n) births

-- the objects that a print of the value shows, in order of first visit
abbrev pub numbering : Graph → Value → List ℕ
numbering graph v = numbered graph v (length graph)

-- ---- the print of a value

-- a generation by its number, or `s` for the static one
abbrev pub generation_word : ℕ → List ℕ
generation_word g = if g == static_generation then codes "s" else decimal g

-- the place of the birth among those that have numbers
abbrev pub number_of : List ℕ → ℕ → ℕ
number_of numbers birth = unwrap_or (position (λ x. x == birth) numbers) 0

-- a value as it is printed, an object by its number
abbrev pub value_text : List ℕ → Value → List ℕ
value_text numbers (fixnum n) = signed_decimal n
value_text numbers nil = codes "nil"
value_text numbers true_value = codes "t"
value_text numbers false_value = codes "f"
value_text numbers bwp = codes "bwp"
value_text numbers (object birth) = codes "#" ++ decimal (number_of numbers birth)

-- two lower-case hexadecimal digits
abbrev pub byte_text : Value → List ℕ
byte_text (fixnum n) = digit_char (nat_abs n / 16) ∷ digit_char (nat_abs n % 16) ∷ []
byte_text _ = []

-- one field or queued value, after a space
abbrev pub content_text : List ℕ → Kind → Value → List ℕ
content_text numbers kind v = codes " " ++ (if has_bytes kind then byte_text v else value_text numbers v)

-- the line of an object: number, kind, generation, creator thread, contents
abbrev pub object_line : List ℕ → ℕ → Option Object → List ℕ
object_line numbers birth None = []
object_line numbers birth (Some o) =
    value_text numbers (object birth) ++ codes " " ++ kind_word o.kind ++ codes " g" ++ generation_word o.generation
    ++ codes " t" ++ decimal o.creator ++ flat_map (content_text numbers o.kind) (contents o) ++ 10 ∷ []

-- the value, and a line for each object that is reached from it, in ascending number
unfoldable pub print_text : Graph → Value → List ℕ
print_text graph v =
    let numbers = numbering graph v in
    codes "= " ++ value_text numbers v ++ 10 ∷ []
    ++ flat_map (λ birth. object_line numbers birth (object_at graph birth)) numbers

-- ---- census

-- the objects of one generation
abbrev pub of_generation : ℕ → Graph → Graph
of_generation g graph = filter (λ entry. entry.1.generation == g) graph

-- the sum of their sizes; queue cells are no objects and are not counted
abbrev pub words_of : Graph → ℕ
words_of graph = sum_by (λ entry. size_of entry.1.kind entry.1.fields) graph

-- of each generation from 0 to 7 and of the static one the number of objects and of words
abbrev pub census : Graph → List (ℕ × ℕ)
census graph =
    map (λ g. (length (of_generation g graph), words_of (of_generation g graph)))
    (0 ∷ 1 ∷ 2 ∷ 3 ∷ 4 ∷ 5 ∷ 6 ∷ 7 ∷ static_generation ∷ [])

-- a line for each generation with objects, from generation g on
abbrev pub census_lines : ℕ → List (ℕ × ℕ) → List ℕ
census_lines g [] = []
census_lines g (pair ∷ pairs) =
    (if pair.0 == 0 then []
    else codes "g" ++ generation_word g ++ codes " " ++ decimal pair.0 ++ codes " " ++ decimal pair.1 ++ 10 ∷ [])
    ++ census_lines (suc g) pairs

-- a line for each generation with objects, in ascending order, the static one last
unfoldable pub census_text : Graph → List ℕ
census_text graph = census_lines 0 (census graph)

-- ---- single lines

-- the generation of an object, or `none` of an immediate
abbrev pub generation_text : Option Object → List ℕ
generation_text None = codes "gen none" ++ 10 ∷ []
generation_text (Some o) = codes "gen " ++ generation_word o.generation ++ 10 ∷ []

-- what there is to say of note k
abbrev pub check_text : ℕ → List ℕ → List ℕ
check_text k word = codes "check " ++ decimal k ++ codes " " ++ word ++ 10 ∷ []

-- the indexes of a walk, or `none`
abbrev pub path_text : Option (List ℕ) → List ℕ
path_text None = codes "path none" ++ 10 ∷ []
path_text (Some walk) = codes "path" ++ flat_map (λ index. codes " " ++ decimal index) walk ++ 10 ∷ []

-- so many objects, and words
abbrev pub size_text : ℕ → ℕ → List ℕ
size_text objects words = codes "size " ++ decimal objects ++ codes " " ++ decimal words ++ 10 ∷ []
