use Rattle.std.specs.Prelude.{ℕ, ◌+◌, ◌/◌, ◌<◌, ◌≤◌, ◌==◌, nat_le, Bool, not, if◌then◌else◌, List, length, map, slice_index}
use Rattle.std.specs.List.{list_any}
use Rattle.cards.specs.declared.table.TheConstants.{WORDS_PER_CARD, CLEAN}

-- the card of a word
abbrev pub card_of : ℕ → ℕ
card_of word = word / WORDS_PER_CARD

-- how many cards so many words have: the last one may stand for fewer words
abbrev pub card_count : ℕ → ℕ
card_count words = (words + 63) / WORDS_PER_CARD

-- a card with a byte of at most the limit: its words may refer to so young an object
abbrev pub IsDirty : List ℕ → ℕ → ℕ → Type 0
IsDirty bytes limit card = (card < length bytes) × (slice_index bytes card ≤ limit)

-- each card from `from` up to `to` has a byte above the limit
abbrev pub NoneDirty : List ℕ → ℕ → ℕ → ℕ → Type 0
NoneDirty bytes limit from to = (card : ℕ) → from ≤ card → card < to → limit < slice_index bytes card

-- each byte of at most the limit is `to` now, and each other one as it was
abbrev pub raised_byte : ℕ → ℕ → ℕ → ℕ
raised_byte limit to byte = if nat_le byte limit then to else byte

abbrev pub raised_bytes : ℕ → ℕ → List ℕ → List ℕ
raised_bytes limit to bytes = map (raised_byte limit to) bytes

-- some card is not clean
abbrev pub has_mark : List ℕ → Bool
has_mark bytes = list_any (λ byte. not (byte == CLEAN)) bytes
