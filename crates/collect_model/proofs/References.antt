-- References of a plain start: which of its fields refer to an object, and to which.
use Rattle.std.proofs.Common.{◌≡◌, ℕ, ◌==◌, pos, true, false, List, map, get_or, option_map, IsTrue, IsSome, Option, Some, None, refl, sym, ◌∙◌, ap, subst, inl, inr}
use Rattle.std.specs.List.{AllByRecursion}
use Rattle.std.proofs.lemmas.Bool.{eqb-true, false≢true, or_cases}
use Rattle.std.proofs.lemmas.Option.{none-some, same_Some, slice_get-get_or, get_or_from_slice_get}
use Rattle.gc_words.specs.declared.value.Value.{Value}
use Rattle.gc_words.specs.declared.value.Value.TheVariants as word
use Rattle.gc_words.specs.Word.{value_of}
use Rattle.trace_types.specs.Values as values
use Rattle.trace_types.specs.Values.{fixnum, objects_in}
use Rattle.trace_types.specs.Rules.{has}
use Rattle.segment.specs.Segments.{Start}
use Rattle.sweep_model.specs.World.{strong_value, object_in}
use Rattle.sweep_model.proofs.Names.{word_in}
use Rattle.heap_store.specs.Starts.{Starts, has_values, birth_of, bytes_of, read, read_option, read_word, fields_of, IsThereOption, IsWordThere}
use Rattle.heap_store.specs.Plain.{is_plain}
use Rattle.heap_store.proofs.Kept.{object_some}
use Rattle.collect_model.specs.Worlds.{objects_only}
use Rattle.collect_model.proofs.Members.{each_at, has_one, object_from, object_there}
use Rattle.collect_model.proofs.PlainKinds.{fields_of-bytes, fields_of-words, fields_or_bytes, strong_value_is}

-- ---- values

-- the object that an optional value is
pub place_is : (o : Option Value) (q : ℕ) → object_in o ≡ Some q → o ≡ Some (word.Object q)
place_is (Some (word.Object a)) q e = ap (λ z. Some (word.Object z)) (same_Some a q e)
place_is (Some (word.Fixnum n)) q e = absurd (none-some q e)
place_is (Some word.Nil) q e = absurd (none-some q e)
place_is (Some word.True) q e = absurd (none-some q e)
place_is (Some word.False) q e = absurd (none-some q e)
place_is (Some word.Bwp) q e = absurd (none-some q e)
place_is None q e = absurd (none-some q e)

-- where only objects count, the object stays
pub object_only : (o : Option Value) → object_in (objects_only o) ≡ object_in o
object_only o = at (object_in o)
  where
    at : (p : Option ℕ) → object_in (option_map word.Object p) ≡ p
    at None = refl
    at (Some a) = refl

-- and so does a value that is one
pub only_object : (o : Option Value) (q : ℕ) → object_in o ≡ Some q → objects_only o ≡ o
only_object o q e = ap (option_map word.Object) e ∙ sym (place_is o q e)

module _ (f : Starts) where
  -- a value that reads as an object is one
  pub read_from : (v : Value) (y : ℕ) → IsTrue (has (values.object_in (read f v)) y)
      → (q : ℕ) × (v ≡ word.Object q) × (birth_of (f q) ≡ y)
  read_from (word.Object q) y h = elim (or_cases (birth_of (f q) == y) false h) [
    | inl e ↦ (q, refl, eqb-true (birth_of (f q)) y e)
    | inr none ↦ absurd (false≢true none)
  ]
  read_from (word.Fixnum n) y h = absurd (false≢true h)
  read_from word.Nil y h = absurd (false≢true h)
  read_from word.True y h = absurd (false≢true h)
  read_from word.False y h = absurd (false≢true h)
  read_from word.Bwp y h = absurd (false≢true h)

  option_from : (o : Option Value) (y : ℕ) → IsTrue (has (values.object_in (read_option f o)) y)
      → (q : ℕ) × (o ≡ Some (word.Object q)) × (birth_of (f q) ≡ y)
  option_from None y h = absurd (false≢true h)
  option_from (Some v) y h = let r = read_from v y h in (r.0, ap Some r.1, r.2)

  -- and where it is there, the object starts somewhere
  pub place_there : (o : Option Value) (q : ℕ) → IsThereOption f o → o ≡ Some (word.Object q) → IsSome (f q)
  place_there o q there e = object_some (f q) (subst (IsThereOption f) e there)

  -- ---- words

  word_from : (ws : List ℕ) (y : ℕ) → AllByRecursion (IsWordThere f) ws
      → IsTrue (has (objects_in (map (read_word f) ws)) y)
      → (i : ℕ) × (q : ℕ) × (value_of (get_or ws i 0) ≡ Some (word.Object q))
      × (birth_of (f q) ≡ y) × IsSome (f q)
  word_from ws y all h =
      let r = object_from (read_word f) ws y h in
      let o = option_from (value_of r.1) y r.3 in (
        r.0,
        o.0,
        ap value_of (get_or_from_slice_get ws r.0 r.1 0 r.2) ∙ o.1,
        o.2,
        place_there (value_of r.1) o.0 (each_at (IsWordThere f) ws r.0 r.1 all r.2) o.1,
      )

  word_among : (ws : List ℕ) (i q : ℕ) → object_in (value_of (get_or ws i 0)) ≡ Some q
      → IsTrue (has (objects_in (map (read_word f) ws)) (birth_of (f q)))
  word_among ws i q e =
      let is : value_of (get_or ws i 0) ≡ Some (word.Object q) = place_is _ q e in
      let y = birth_of (f q) in
      object_there (read_word f) ws i (get_or ws i 0) y (slice_get-get_or ws i 0 (word_in ws i q e))
      (subst (λ o. IsTrue (has (values.object_in (read_option f o)) y)) (sym is) (has_one y))

  -- bytes refer to nothing
  no_byte_refers : (bs : List ℕ) (y : ℕ) → IsTrue (has (objects_in (map (λ b. fixnum (pos b)) bs)) y) → ⊥
  no_byte_refers bs y h = false≢true (object_from (λ b. fixnum (pos b)) bs y h).3

  -- ---- fields

  module _ (x : Start) (plain : is_plain x.kind ≡ true) where
    -- a field that refers to an object is a strong one, and the object is somewhere
    pub field_from : (IsTrue (has_values x.kind) → AllByRecursion (IsWordThere f) x.words) → (y : ℕ)
        → IsTrue (has (objects_in (fields_of f x)) y)
        → (i : ℕ) × (q : ℕ) × (object_in (strong_value (Some x) i) ≡ Some q)
        × (birth_of (f q) ≡ y) × IsSome (f q)
    field_from laid y h = elim (fields_or_bytes x.kind plain) [
      | inl has_fields ↦
          let r = word_from x.words y (laid has_fields.values)
          (subst (λ vs. IsTrue (has (objects_in vs) y)) (fields_of-words f x has_fields) h) in
          (r.0, r.1, ap object_in (strong_value_is x r.0 true (has_fields.strong r.0) ∙ r.2), r.3, r.4)
      | inr has_bytes ↦ absurd (no_byte_refers (bytes_of x.words x.length) y
          (subst (λ vs. IsTrue (has (objects_in vs) y)) (fields_of-bytes f x has_bytes.bytes) h))
    ]

    -- and a strong field that refers to an object is among the fields
    pub field_there : (i q : ℕ) → object_in (strong_value (Some x) i) ≡ Some q
        → IsTrue (has (objects_in (fields_of f x)) (birth_of (f q)))
    field_there i q e = elim (fields_or_bytes x.kind plain) [
      | inl has_fields ↦
          subst (λ vs. IsTrue (has (objects_in vs) (birth_of (f q)))) (sym (fields_of-words f x has_fields))
          (word_among x.words i q
          (ap object_in (sym (strong_value_is x i true (has_fields.strong i))) ∙ e))
      | inr has_bytes ↦
          absurd (none-some q (sym (ap object_in (strong_value_is x i false (has_bytes.no_strong i))) ∙ e))
    ]
