-- Plain kinds: each word of a pair, a box or a vector is a strong field, and no word of a byte object is one.
use Rattle.std.proofs.Common.{◌≡◌, ℕ, ◌⊎◌, Bool, true, false, cond, List, [], map, get_or, pos, Some, None, refl, ◌∙◌, ap, inl, inr}
use Rattle.std.proofs.lemmas.Bool.{cond-false, cond-true, false≢true}
use Rattle.gc_words.specs.Word.{value_of}
use Rattle.trace_types.specs.declared.kind.Kind.{Kind}
use Rattle.trace_types.specs.declared.kind.Kind.TheVariants as kind
use Rattle.trace_types.specs.Values.{Value, fixnum, has_bytes, is_ephemeron, is_guardian, strong_fields}
use Rattle.trace_types.specs.Collections.{fields_left}
use Rattle.segment.specs.Segments.{Start}
use Rattle.sweep_model.specs.World.{is_strong, strong_value}
use Rattle.heap_store.specs.Starts.{Starts, bytes_of, fields_of, has_values, read_word}
use Rattle.heap_store.specs.Plain.{is_plain}

-- each start is of a plain kind
abbrev pub ArePlain : Starts → Type 0
ArePlain f = (p : ℕ) (x : Start) → f p ≡ Some x → is_plain x.kind ≡ true

-- what holds of pairs, boxes, vectors and byte objects holds of each plain kind
pub by_kind : (P : Kind → Type 0) → P kind.Pair → P kind.Boxed → P kind.Vector → P kind.Bytes
    → (k : Kind) → is_plain k ≡ true → P k
by_kind P pair box vector bytes kind.Pair is = pair
by_kind P pair box vector bytes kind.Boxed is = box
by_kind P pair box vector bytes kind.Vector is = vector
by_kind P pair box vector bytes kind.Bytes is = bytes
by_kind P pair box vector bytes kind.Weak is = absurd (false≢true is)
by_kind P pair box vector bytes kind.Eph is = absurd (false≢true is)
by_kind P pair box vector bytes kind.ImmVector is = absurd (false≢true is)
by_kind P pair box vector bytes kind.ImmBytes is = absurd (false≢true is)
by_kind P pair box vector bytes kind.Guard is = absurd (false≢true is)
by_kind P pair box vector bytes kind.OrderedGuard is = absurd (false≢true is)
by_kind P pair box vector bytes kind.Cell is = absurd (false≢true is)

-- ---- what no plain object loses

pub no_ephemeron : (k : Kind) → is_plain k ≡ true → is_ephemeron k ≡ false
no_ephemeron = by_kind (λ k. is_ephemeron k ≡ false) refl refl refl refl

-- all its fields are strong
pub all_strong : (k : Kind) (fields : List Value) → is_plain k ≡ true → strong_fields k fields ≡ fields
all_strong k fields = by_kind (λ k. strong_fields k fields ≡ fields) refl refl refl refl k

-- and a collection breaks none of them
pub all_left : (set : List ℕ) (k : Kind) (fields : List Value) → is_plain k ≡ true
    → fields_left set k fields ≡ fields
all_left set k fields = by_kind (λ k. fields_left set k fields ≡ fields) refl refl refl refl k

-- ---- words

-- each word of an object of this kind is a strong field
pub record HasFields (k : Kind) : Type 0 where
  pub strong : (i : ℕ) → is_strong k i ≡ true
  pub values : has_values k ≡ true
  pub no_bytes : has_bytes k ≡ false
  pub no_guardian : is_guardian k ≡ false

-- no word of such an object is one
pub record HasBytes (k : Kind) : Type 0 where
  pub no_strong : (i : ℕ) → is_strong k i ≡ false
  pub no_values : has_values k ≡ false
  pub bytes : has_bytes k ≡ true

-- a plain kind is one or the other
pub fields_or_bytes : (k : Kind) → is_plain k ≡ true → HasFields k ⊎ HasBytes k
fields_or_bytes =
    by_kind (λ k. HasFields k ⊎ HasBytes k)
    (inl (record { strong = λ i. refl; values = refl; no_bytes = refl; no_guardian = refl }))
    (inl (record { strong = λ i. refl; values = refl; no_bytes = refl; no_guardian = refl }))
    (inl (record { strong = λ i. refl; values = refl; no_bytes = refl; no_guardian = refl }))
    (inr (record { no_strong = λ i. refl; no_values = refl; bytes = refl }))

-- the value of a field by whether it is a strong one
pub strong_value_is : (x : Start) (i : ℕ) (b : Bool) → is_strong x.kind i ≡ b
    → strong_value (Some x) i ≡ cond b (value_of (get_or x.words i 0)) None
strong_value_is x i b is = ap (λ z. cond z (value_of (get_or x.words i 0)) None) is

-- ---- how fields read

abbrev byte_fields : Start → List Value
byte_fields x = map (λ b. fixnum (pos b)) (bytes_of x.words x.length)

pub fields_of-bytes : (f : Starts) (x : Start) → has_bytes x.kind ≡ true → fields_of f x ≡ byte_fields x
fields_of-bytes f x bytes =
    cond-true (has_bytes x.kind) (byte_fields x) (cond (is_guardian x.kind) [] (map (read_word f) x.words))
    bytes

pub fields_of-words : (f : Starts) (x : Start) → HasFields x.kind → fields_of f x ≡ map (read_word f) x.words
fields_of-words f x has =
    cond-false (has_bytes x.kind) (byte_fields x) (cond (is_guardian x.kind) [] (map (read_word f) x.words))
    has.no_bytes
    ∙ cond-false (is_guardian x.kind) [] (map (read_word f) x.words) has.no_guardian
