-- What a collection asks of the cards of a segment of older objects, and what it makes of them.
use Rattle.std.specs.Prelude.{ℕ, slice_index}
use Rattle.cards.specs.Cards.{card_of, has_mark, raised_bytes}
use Rattle.segment.specs.Segments.{Segment, place_in}

-- the byte of the card of word `index` of start k, counted after the header
abbrev pub word_byte : Segment → ℕ → ℕ → ℕ
word_byte p k index = slice_index p.cards (card_of (place_in p k index))

-- with each card byte of at most the limit set to `to`, and dirty where some card is not clean then
abbrev pub raised : ℕ → ℕ → Segment → Segment
raised limit to p = record p {
  is_dirty = has_mark (raised_bytes limit to p.cards);
  cards = raised_bytes limit to p.cards;
}
