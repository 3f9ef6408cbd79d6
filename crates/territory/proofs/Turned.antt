-- The word of a start less that of the segment's first one, with the last four bits turned to the top.
use Rattle.std.proofs.Common.{◌≡◌, ℕ, ◌+◌, ◌-◌, ◌*◌, ◌/◌, ◌%◌, ◌^◌, ◌<◌, ◌≤◌, Some, bit_or, sym, ◌∙◌, ap, arith}
use Rattle.std.proofs.lemmas.Bool.Decides.{nat_tests}
use Rattle.std.specs.Int.Bits.{or_shifted_r}
use Rattle.gc_words.specs.declared.value.Value.TheVariants.{Object}
use Rattle.gc_words.specs.Word.{value_of}
use Rattle.gc_words.specs.Layout.{address_of, offset_of, segment_of, thread_of}
use Rattle.gc_words.proofs.LayoutLaws.{address_of-its_parts}
use Rattle.gc_words.proofs.WordLaws.{word_of-object}

word_object : (w : ℕ) → w % 16 ≡ 1 → value_of w ≡ Some (Object (w / 8))
unfolding value_of
word_object w e = grind (arith, nat_tests, e)

turned : (w : ℕ) → w < 2 ^ 64 → bit_or (w / 2 ^ 4) (w * 2 ^ 60 % 2 ^ 64) ≡ w % 16 * 2 ^ 60 + w / 16
turned w fits =
    let low : w * 2 ^ 60 % 2 ^ 64 ≡ w % 16 * 2 ^ 60 = omega arith in
    ap (bit_or (w / 2 ^ 4)) low ∙ or_shifted_r (w % 16) 60 (w / 2 ^ 4) (omega (arith, fits))

offset_more : (thread segment k : ℕ) → address_of thread segment (2 * k) ≡ address_of thread segment 0 + 2 * k
unfolding address_of
offset_more thread segment k = omega arith

first_even : (thread segment : ℕ) → address_of thread segment 0 % 2 ≡ 0
unfolding address_of
first_even thread segment = omega arith

first_below : (thread segment : ℕ) → thread < 64 → segment < 4294967296 → address_of thread segment 0 + 8388608 ≤ 2 ^ 61
unfolding address_of
first_below thread segment t n = omega (arith, t, n)

pub start_turned : (w first less k thread segment : ℕ) → w < 2 ^ 64 → thread < 64 → segment < 4294967296 → first ≡ address_of thread segment 0 * 8 + 1 → less ≡ (w + (2 ^ 64 - first)) % 2 ^ 64
    → k ≡ bit_or (less / 2 ^ 4) (less * 2 ^ 60 % 2 ^ 64) → k < 256 → value_of w ≡ Some (Object (address_of thread segment (2 * k)))
start_turned w first less k thread segment fits t n form by turn few =
    let at : k ≡ less % 16 * 2 ^ 60 + less / 16 = turn ∙ turned less (omega (arith, by)) in
    let even : address_of thread segment 0 % 2 ≡ 0 = first_even thread segment in
    let low : address_of thread segment 0 + 8388608 ≤ 2 ^ 61 = first_below thread segment t n in
    let whole : less ≡ 16 * k = omega (arith, at, few) in
    let word : w ≡ first + 16 * k = omega (arith, by, whole, fits, few, form, even, low) in
    let tag : w % 16 ≡ 1 = omega (arith, word, form, even) in
    let number : w / 8 ≡ address_of thread segment 0 + 2 * k = omega (arith, word, form) in
    word_object w tag ∙ ap (λ a. Some (Object a)) (number ∙ sym (offset_more thread segment k))

-- an address by its parts, as a number
parts_sum : (a : ℕ) → (thread_of a * 4294967296 + segment_of a) * 8388608 + offset_of a ≡ a
unfolding address_of
parts_sum a = address_of-its_parts a

pub offset_below : (a : ℕ) → offset_of a ≤ a
offset_below a = omega (arith, parts_sum a)

-- A word that refers to an object in the first 512 words of the segment of a has the upper bits of the word of the segment's
-- first object.
pub same_block : (a b w o : ℕ) → value_of w ≡ Some (Object b) → segment_of b ≡ segment_of a → thread_of b ≡ thread_of a → offset_of b < 512 → o ≡ offset_of a
    → (a * 8 + 1 - 8 * o) / 4096 ≡ w / 4096
same_block a b w o refers segment thread inside is =
    let word : b * 8 + 1 ≡ w = word_of-object w b refers in
    omega (arith, word, parts_sum a, parts_sum b, segment, thread, inside, is)
