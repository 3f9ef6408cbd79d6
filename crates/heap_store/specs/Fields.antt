-- The fields of an object in the words of its start.
use Rattle.std.specs.Prelude.{◌≡◌, ℕ, ◌/◌, ◌%◌, ◌<◌, pos, true, false, Bool, not, ◌&&◌, nat_lt, length, option_map, IfSome, slice_index, slice_index_or, slice_set, Option, Some, None, Result, Ok, Err, if◌then◌else◌}
use Rattle.std.specs.FinMap.{get}
use Rattle.gc_words.specs.declared.value.Value.{Value}
use Rattle.gc_words.specs.declared.value.Value.TheVariants as word
use Rattle.gc_words.specs.Word.{value_of}
use Rattle.trace_types.specs.declared.kind.Kind.{Kind}
use Rattle.trace_types.specs.declared.fault.Fault.{Fault}
use Rattle.trace_types.specs.declared.fault.Fault.TheVariants.{WrongKind, BadIndex}
use Rattle.trace_types.specs.declared.operand.Operand.{Operand}
use Rattle.trace_types.specs.Values.{Object, object_of_value, is_guardian, has_bytes}
use Rattle.trace_types.specs.States.{State, register_value, operand_value}
use Rattle.trace_types.specs.Steps.{fielded_of}
use Rattle.segment.specs.Segments.{Start}
use Rattle.territory.specs.Territories.{TerritoryView, with_word, TellsLower, AreCardsSound}
use Rattle.heap_store.specs.Starts.{Starts, is_cell, word_bytes, byte_at}
use Rattle.heap_store.specs.HeapView.{HeapView, starts_of}
use Rattle.heap_store.specs.Stands.{Stands}

-- the place of the object that the value is, where it is one
abbrev pub place_in : Value → Option ℕ
place_in (word.Object a) = Some a
place_in _ = None

-- the register holds the object at this place, which is of a kind with fields
pub record IsFielded (h : HeapView) (register a : ℕ) : Type 0 where
  pub start : Start
  pub holds : slice_index_or h.registers register word.Nil ≡ word.Object a
  pub here : starts_of h a ≡ Some start
  pub no_cell : is_cell start.kind ≡ false
  pub no_guardian : is_guardian start.kind ≡ false

-- the register holds nothing of a kind with fields
abbrev pub HasNoFields : HeapView → ℕ → Type 0
HasNoFields h register = (s : State) → Stands h s → fielded_of s (register_value s register) ≡ Err WrongKind

abbrev pub or_nil : Option Value → Value
or_nil None = word.Nil
or_nil (Some v) = v

-- the field of an index: a byte is a fixnum
abbrev pub field_in : Option Start → ℕ → Value
field_in None index = word.Nil
field_in (Some x) index =
    if has_bytes x.kind then word.Fixnum (pos (byte_at x.words index))
    else or_nil (value_of (slice_index x.words index))

-- whether the value is a number from 0 to 255
abbrev pub is_byte_word : Value → Bool
is_byte_word (word.Fixnum (pos n)) = nat_lt n 256
is_byte_word _ = false

-- the word after the header that has the field
abbrev pub word_index : Kind → ℕ → ℕ
word_index k index = if has_bytes k then index / 8 else index

abbrev pub generation_or_255 : Option Start → ℕ
generation_or_255 None = 255
generation_or_255 (Some x) = x.generation

-- the generation of what the value refers to, or 255
abbrev pub refers_of : Starts → Value → ℕ
refers_of f (word.Object a) = generation_or_255 (f a)
refers_of f _ = 255

-- ---- a field changed

-- what forbids to put the value into the field of an index
abbrev pub put_fault : Start → ℕ → Value → Option Fault
put_fault x index v =
    if has_bytes x.kind && not (is_byte_word v) then Some WrongKind
    else (if nat_lt index x.length then None else Some BadIndex)

-- The field has the value now: the word that has it is another one, and its card is marked with `refers`.
-- Into a byte object goes a byte, which refers to nothing.
pub record IsPut (old new : TerritoryView) (a : ℕ) (x : Start) (index : ℕ) (v : Value) (refers : ℕ)
    : Type 0 where
  pub within : index < x.length
  pub put_word : ℕ
  pub mark : ℕ
  pub put : new ≡ with_word old a (word_index x.kind index) put_word mark
  pub sound : (generation_at : ℕ → Option ℕ) → TellsLower generation_at (get old.starts a) put_word mark
      → AreCardsSound generation_at old → AreCardsSound generation_at new
  pub value : has_bytes x.kind ≡ false → (value_of put_word ≡ Some v) × (mark ≡ refers)
  pub byte : has_bytes x.kind ≡ true
      → (b : ℕ) × (b < 256) × (v ≡ word.Fixnum (pos b))
      × (word_bytes put_word ≡ slice_set (word_bytes (slice_index x.words (index / 8))) (index % 8) b)

abbrev pub Puts : TerritoryView → TerritoryView → ℕ → Start → ℕ → Value → ℕ → Result (Unit {0}) Fault → Type 0
Puts old new a x index v refers (Ok _) = IsPut old new a x index v refers
Puts old new a x index v refers (Err f) = (new ≡ old) × (put_fault x index v ≡ Some f)

abbrev pub PutsThere : TerritoryView → TerritoryView → ℕ → ℕ → Value → ℕ → Result (Unit {0}) Fault → Type 0
PutsThere old new a index v refers result =
    IfSome (get old.starts a) (λ x. Puts old new a x index v refers result)

-- an index below the length is that of a word
abbrev pub HasRoomFor : ℕ → Start → Type 0
HasRoomFor index x = index < x.length → word_index x.kind index < length x.words

-- ---- generations

-- the generation of the object that the operand is
abbrev pub generation_in : State → Operand → Option ℕ
generation_in s value =
    option_map (λ (o : Object). o.generation) (object_of_value s.graph (operand_value s value))
