-- An object's word with its last four bits turned to the top.
use Rattle.std.proofs.Common.{◌≡◌, ℕ, ◌+◌, ◌-◌, ◌*◌, ◌/◌, ◌%◌, ◌^◌, ◌<◌, ◌≤◌, ◌↔◌, Some, min, bit_or, ◌∙◌, ap, arith}
use Rattle.std.proofs.lemmas.Bool.Decides.{nat_tests}
use Rattle.std.specs.Int.Bits.{or_shifted_r}
use Rattle.gc_words.specs.declared.value.Value.TheVariants.{Object}
use Rattle.gc_words.specs.Word.{value_of}
use Rattle.gc_words.specs.Layout.{address_of, thread_of, segment_of, offset_of}
use Rattle.gc_words.proofs.LayoutLaws.{address_of-its_parts}

-- ---- which words refer to an object
pub object_word : (w a : ℕ) → value_of w ≡ Some (Object a) → (w % 16 ≡ 1) × (a ≡ w / 8)
unfolding value_of
object_word w a e = (grind (arith, nat_tests, e), grind (arith, nat_tests, e))

pub word_object : (w : ℕ) → w % 16 ≡ 1 → value_of w ≡ Some (Object (w / 8))
unfolding value_of
word_object w e = grind (arith, nat_tests, e)

-- an address is its parts put together
pub parts_out : (n : ℕ) → address_of (n / 8388608 / 4294967296) (n / 8388608 % 4294967296) (n % 8388608) ≡ n
unfolding thread_of segment_of offset_of
parts_out n = address_of-its_parts n

-- ---- the comparison
turned : (w : ℕ) → w < 2 ^ 64 → bit_or (w / 2 ^ 4) (w * 2 ^ 60 % 2 ^ 64) ≡ w % 16 * 2 ^ 60 + w / 16
turned w fits =
    let low : w * 2 ^ 60 % 2 ^ 64 ≡ w % 16 * 2 ^ 60 = omega arith in
    ap (bit_or (w / 2 ^ 4)) low ∙ or_shifted_r (w % 16) 60 (w / 2 ^ 4) (omega (arith, fits))

-- the distance from the first object of a reach tells whether a word refers to an object there
pub near : (w least beyond turn first last end size : ℕ) → w < 2 ^ 64 → turn ≡ bit_or (w / 2 ^ 4) (w * 2 ^ 60 % 2 ^ 64) → first ≡ (least + 1) / 2 → last ≡ min beyond (2 ^ 61) → end ≡ (last + 1) / 2 → size ≡ end - first → (turn + (2 ^ 64 - (2 ^ 60 + first))) % 2 ^ 64 < size ↔ (w % 16 ≡ 1) × (least ≤ w / 8) × (w / 8 < beyond)
near w least beyond turn first last end size fits by its_first its_last its_end its_size =
    let at : turn ≡ w % 16 * 2 ^ 60 + w / 16 = by ∙ turned w fits in (
      λ test.
          let tag : w % 16 ≡ 1 = omega (arith, at, fits, its_first, its_last, its_end, its_size, test) in
          (tag, omega (arith, at, tag, fits, its_first, its_last, its_end, its_size, test), omega (arith, at, tag, fits, its_first, its_last, its_end, its_size, test)),
      λ o. omega (arith, at, fits, its_first, its_last, its_end, its_size, o.0, o.1, o.2),
    )
