-- Values, objects and graphs. An object is named by its birth, the number of the line that made it.
use Rattle.std.specs.Prelude.{◌∷◌, ℕ, ◌+◌, ◌^◌, pos, negsuc, nat_lt, ◌*◌, ◌/◌, ◌==◌, length, ℤ, Bool, true, false, List, [], ◌++◌, map, drop, flat_map, slice_index_or, Option, None}
use Rattle.std.specs.FinMap.{find}
use Rattle.std.specs.Ordering.{nat_cmp, int_eq}
use Rattle.trace_types.specs.declared.kind.Kind.{Kind}
use Rattle.trace_types.specs.declared.kind.Kind.TheVariants.{Weak, Eph, Vector, Bytes, ImmVector, ImmBytes, Guard, OrderedGuard}

-- ---- values

-- All but objects are immediates. `bwp` is Chez Scheme's broken weak pointer.
pub data Value : Type 0 where
  fixnum : ℤ → Value
  nil true_value false_value bwp : Value
  object : ℕ → Value

-- A fixnum has 61 bits, so it is from -2^60 to 2^60 - 1. What antt calls `negsuc n` is -(n + 1).
abbrev pub is_fixnum : ℤ → Bool
is_fixnum (pos n) = nat_lt n (2 ^ 60)
is_fixnum (negsuc n) = nat_lt n (2 ^ 60)

-- whether the value is no fixnum out of range
abbrev pub is_value : Value → Bool
is_value (fixnum n) = is_fixnum n
is_value _ = true

-- whether the value is a number from 0 to 255
abbrev pub is_byte : Value → Bool
is_byte (fixnum (pos n)) = nat_lt n 256
is_byte (fixnum (negsuc n)) = false
is_byte _ = false

-- the object that the value is: one, or none of an immediate
abbrev pub object_in : Value → List ℕ
object_in (object birth) = birth ∷ []
object_in _ = []

-- the objects among the values
abbrev pub objects_in : List Value → List ℕ
objects_in values = flat_map object_in values

-- whether the two are one value
abbrev pub same_value : Value → Value → Bool
same_value (fixnum m) (fixnum n) = int_eq m n
same_value nil nil = true
same_value true_value true_value = true
same_value false_value false_value = true
same_value bwp bwp = true
same_value (object x) (object y) = x == y
same_value _ _ = false

-- ---- objects

-- A byte is the fixnum that `get` gives. The queue has pairs of a value and the line of its registration,
-- the first to be taken first; only a guardian has one, and a guardian has no fields.
pub record Object : Type 0 where
  pub kind : Kind
  pub creator : ℕ
  pub generation : ℕ
  pub fields : List Value
  pub queue : List (Value × ℕ)

-- from births to objects, in ascending order of births
abbrev pub Graph : Type 0
Graph = List (ℕ × Object)

-- the object of this birth, where there is one
abbrev pub object_at : Graph → ℕ → Option Object
object_at graph birth = find nat_cmp birth graph

-- the object that the value is, where it is one
abbrev pub object_of_value : Graph → Value → Option Object
object_of_value graph (object birth) = object_at graph birth
object_of_value graph _ = None

-- guardians of both orders
abbrev pub is_guardian : Kind → Bool
is_guardian Guard = true
is_guardian OrderedGuard = true
is_guardian _ = false

-- ephemeron pairs
abbrev pub is_ephemeron : Kind → Bool
is_ephemeron Eph = true
is_ephemeron _ = false

-- kinds that no collection moves
abbrev pub is_immobile : Kind → Bool
is_immobile ImmVector = true
is_immobile ImmBytes = true
is_immobile _ = false

-- kinds whose fields are bytes
abbrev pub has_bytes : Kind → Bool
has_bytes Bytes = true
has_bytes ImmBytes = true
has_bytes _ = false

-- a field by its index; of an ephemeron 0 is the key and 1 the value
abbrev pub field_at : Object → ℕ → Value
field_at o index = slice_index_or o.fields index nil

-- the key of an ephemeron, and of an entry of a table
abbrev pub key_of : Object → Value
key_of o = field_at o 0

-- the value of an ephemeron, and of an entry of a table
abbrev pub value_of : Object → Value
value_of o = field_at o 1

-- the values that wait in the queue
abbrev pub queue_values : Object → List Value
queue_values o = map (λ entry. entry.0) o.queue

-- ---- strong references

-- the fields that hold their objects: not the car of a weak pair, nor the key and the value of an ephemeron
abbrev pub strong_fields : Kind → List Value → List Value
strong_fields Weak fields = drop 1 fields
strong_fields Eph fields = []
strong_fields _ fields = fields

-- the values of the queue and of the strong fields
abbrev pub strong_values : Object → List Value
strong_values o = queue_values o ++ strong_fields o.kind o.fields

-- the objects among them
abbrev pub strong_references : Object → List ℕ
strong_references o = objects_in (strong_values o)

-- ---- sizes

-- the next even number
abbrev pub rounded_up : ℕ → ℕ
rounded_up n = (n + 1) / 2 * 2

-- the words of an object: a header before the fields of all but pairs, and an even number of words
abbrev pub size_of : Kind → List Value → ℕ
size_of Vector fields = rounded_up (1 + length fields)
size_of ImmVector fields = rounded_up (1 + length fields)
size_of Bytes fields = rounded_up (1 + (length fields + 7) / 8)
size_of ImmBytes fields = rounded_up (1 + (length fields + 7) / 8)
size_of Guard _ = 4
size_of OrderedGuard _ = 4
size_of _ _ = 2
