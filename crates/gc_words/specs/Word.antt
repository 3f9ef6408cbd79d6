use Rattle.std.specs.Prelude.{◌≡◌, ℕ, ◌+◌, ◌-◌, ◌*◌, ◌/◌, ◌%◌, ◌^◌, ◌<◌, ◌≤◌, ◌==◌, if◌then◌else◌, ◌⊎◌, ℤ, pos, negsuc, Option, Some, None, nat_lt}
use Rattle.gc_words.specs.declared.value.Value.{Value}
use Rattle.gc_words.specs.declared.value.Value.TheVariants.{Fixnum, Nil, True, False, Bwp, Object}
use Rattle.gc_words.specs.Layout.{IsAddress}

-- a fixnum is from -2^60 to 2^60 - 1; `negsuc n` is -(n + 1)
abbrev pub IsFixnum : ℤ → Type 0
IsFixnum (pos n) = n < 2 ^ 60
IsFixnum (negsuc n) = n < 2 ^ 60

-- a value whose fixnum, if it is one, is in range
abbrev pub IsInRange : Value → Type 0
IsInRange (Fixnum z) = IsFixnum z
IsInRange v = Unit {0}

-- a value that has a word: its fixnum is in range, and its object's number is that of an address
abbrev pub IsValid : Value → Type 0
IsValid (Fixnum z) = IsFixnum z
IsValid (Object a) = IsAddress a
IsValid v = Unit {0}

-- a fixnum's word: 8 times the fixnum, in two's complement of 64 bits
abbrev pub fixnum_word : ℤ → ℕ
fixnum_word (pos n) = n * 8
fixnum_word (negsuc n) = 2 ^ 64 - (n + 1) * 8

-- the word of a value: the tag is 0 of a fixnum, 1 of an object, 6 of the four immediates 0 to 3
abbrev pub word_of : Value → ℕ
word_of (Fixnum z) = fixnum_word z
word_of Nil = 0 * 8 + 6
word_of True = 1 * 8 + 6
word_of False = 2 * 8 + 6
word_of Bwp = 3 * 8 + 6
word_of (Object a) = a * 8 + 1

-- the fixnum of a word of tag 0
abbrev pub fixnum_of : ℕ → ℤ
fixnum_of w = if nat_lt w (2 ^ 63) then pos (w / 8) else negsuc ((2 ^ 64 - w) / 8 - 1)

-- the value that an object tag has with this number above it
abbrev pub object_of : ℕ → Option Value
object_of a = if a % 2 == 0 then Some (Object a) else None

-- the value that tag 6 has with this number above it
abbrev pub immediate_of : ℕ → Option Value
immediate_of n =
    if n == 0 then Some Nil
    else (if n == 1 then Some True
    else (if n == 2 then Some False
    else (if n == 3 then Some Bwp else None)))

-- the value of a word, by its tag
unfoldable pub value_of : ℕ → Option Value
value_of w =
    if w % 8 == 0 then Some (Fixnum (fixnum_of w))
    else (if w % 8 == 1 then object_of (w / 8)
    else (if w % 8 == 6 then immediate_of (w / 8) else None))

-- the words that have a value: tag 0, tag 1 with an even number above it, tag 6 with at most 3 above it
abbrev pub HasForm : ℕ → Type 0
HasForm w = (w % 8 ≡ 0) ⊎ ((w % 8 ≡ 1) × (w / 8 % 2 ≡ 0)) ⊎ ((w % 8 ≡ 6) × (w / 8 ≤ 3))
