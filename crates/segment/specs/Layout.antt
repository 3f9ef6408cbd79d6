-- How objects lie in words. A space decides whether objects have headers; a header holds kind and length.
use Rattle.std.specs.Prelude.{◌≡◌, ◌≤◌, ℕ, ◌+◌, ◌*◌, ◌/◌, ◌%◌, ◌==◌, Bool, true, false, if◌then◌else◌}
use Rattle.trace_types.specs.declared.kind.Kind.{Kind}
use Rattle.trace_types.specs.declared.kind.Kind.TheVariants as kind
use Rattle.segment.specs.declared.space.Space.{Space}
use Rattle.segment.specs.declared.space.Space.TheVariants as space

-- the space in which objects of a kind lie
abbrev pub space_of : Kind → Space
space_of kind.Pair = space.Pair
space_of kind.Weak = space.Weak
space_of kind.Eph = space.Ephemeron
space_of kind.Boxed = space.Typed
space_of kind.Vector = space.Typed
space_of kind.Guard = space.Typed
space_of kind.OrderedGuard = space.Typed
space_of kind.Bytes = space.Raw
space_of kind.ImmVector = space.Immobile
space_of kind.ImmBytes = space.ImmobileRaw
space_of kind.Cell = space.Cell

-- the number of a space, in tables by space
abbrev pub space_index : Space → ℕ
space_index space.Pair = 0
space_index space.Weak = 1
space_index space.Ephemeron = 2
space_index space.Typed = 3
space_index space.Raw = 4
space_index space.Immobile = 5
space_index space.ImmobileRaw = 6
space_index space.Cell = 7

-- objects of two words have no header: their space says all
abbrev pub has_header : Space → Bool
has_header space.Pair = false
has_header space.Weak = false
has_header space.Ephemeron = false
has_header space.Cell = false
has_header _ = true

-- how many words stand before the fields
abbrev pub skip_of : Space → ℕ
skip_of s = if has_header s then 1 else 0

-- the code of a kind in a header
abbrev pub code_of : Kind → ℕ
code_of kind.Vector = 1
code_of kind.Bytes = 2
code_of kind.ImmVector = 3
code_of kind.ImmBytes = 4
code_of kind.Guard = 5
code_of kind.OrderedGuard = 6
code_of _ = 0

-- the kind of a code in a header
abbrev pub kind_of_code : ℕ → Kind
kind_of_code code =
    if code == 0 then kind.Boxed
    else (if code == 1 then kind.Vector
    else (if code == 2 then kind.Bytes
    else (if code == 3 then kind.ImmVector
    else (if code == 4 then kind.ImmBytes
    else (if code == 5 then kind.Guard else kind.OrderedGuard)))))

-- a header: tag 7 in the lowest three bits, the kind code in the next five, the length above them
abbrev pub header_word : Kind → ℕ → ℕ
header_word k length = length * 256 + code_of k * 8 + 7

-- the first word of a new object: its header, or else a word 0
abbrev pub first_word : Kind → ℕ → ℕ
first_word k length = if has_header (space_of k) then header_word k length else 0

-- the kind of the object with this first word
unfoldable pub kind_of : Space → ℕ → Kind
kind_of space.Pair first = kind.Pair
kind_of space.Weak first = kind.Weak
kind_of space.Ephemeron first = kind.Eph
kind_of space.Cell first = kind.Cell
kind_of _ first = kind_of_code (first / 8 % 32)

-- the fields or bytes of the object with this first word; of a guardian none
unfoldable pub length_of : Space → ℕ → ℕ
length_of s first = if has_header s then first / 256 else 2

-- the words after the header
abbrev pub words_after : Kind → ℕ → ℕ
words_after kind.Boxed length = 1
words_after kind.Vector length = length
words_after kind.ImmVector length = length
words_after kind.Bytes length = (length + 7) / 8
words_after kind.ImmBytes length = (length + 7) / 8
words_after kind.Guard length = 3
words_after kind.OrderedGuard length = 3
words_after _ length = 2

-- the same by the first word
unfoldable pub count_of : Space → ℕ → ℕ
count_of s first = words_after (kind_of s first) (length_of s first)

-- all words of the object: an even number
unfoldable pub size_of : Space → ℕ → ℕ
size_of s first = (skip_of s + count_of s first + 1) / 2 * 2

-- the most fields or bytes that an object may have
abbrev pub greatest_length : ℕ
greatest_length = 4000000

-- the lengths that objects of a kind have
abbrev pub HasLength : Kind → ℕ → Type 0
HasLength kind.Boxed length = length ≡ 1
HasLength kind.Guard length = length ≡ 0
HasLength kind.OrderedGuard length = length ≡ 0
HasLength kind.Vector length = length ≤ greatest_length
HasLength kind.ImmVector length = length ≤ greatest_length
HasLength kind.Bytes length = length ≤ greatest_length
HasLength kind.ImmBytes length = length ≤ greatest_length
HasLength _ length = length ≡ 2
