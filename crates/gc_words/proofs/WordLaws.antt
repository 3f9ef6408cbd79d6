use Rattle.std.proofs.Common.{◌≡◌, ℕ, ◌^◌, ◌<◌, ◌↔◌, Some, IsSome, IfSome, refl, arith, pos, negsuc}
use Rattle.std.proofs.lemmas.Bool.Decides.{nat_tests}
use Rattle.gc_words.specs.declared.value.Value.{Value}
use Rattle.gc_words.specs.declared.value.Value.TheVariants.{Fixnum, Nil, True, False, Bwp, Object}
use Rattle.gc_words.specs.Word.{IsValid, HasForm, word_of, value_of}

-- decoding undoes encoding
pub value_of-word_of : (v : Value) → IsValid v → value_of (word_of v) ≡ Some v
unfolding value_of
value_of-word_of (Fixnum (pos n)) h = grind (arith, nat_tests)
value_of-word_of (Fixnum (negsuc n)) h = grind (arith, nat_tests)
value_of-word_of Nil h = refl
value_of-word_of True h = refl
value_of-word_of False h = refl
value_of-word_of Bwp h = refl
value_of-word_of (Object a) h = grind (arith, nat_tests)

-- a word of 64 bits that decodes is the word of its value, and that value has a word
pub word_of-value_of : (w : ℕ) → w < 2 ^ 64 → IfSome (value_of w) (λ v. word_of v ≡ w)
unfolding value_of
word_of-value_of w h = grind (arith, nat_tests)

pub value_of_valid : (w : ℕ) → w < 2 ^ 64 → IfSome (value_of w) IsValid
unfolding value_of
value_of_valid w h = grind (arith, nat_tests)

-- the words that decode
pub value_of_some : (w : ℕ) → IsSome (value_of w) ↔ HasForm w
unfolding value_of
value_of_some w = grind (arith, nat_tests)

-- a word that decodes to a place is the word of that place
pub word_of-object : (w a : ℕ) → value_of w ≡ Some (Object a) → word_of (Object a) ≡ w
unfolding value_of
word_of-object w a e = grind (arith, nat_tests, e)
