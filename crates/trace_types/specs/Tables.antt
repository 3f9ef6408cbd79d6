-- Identity tables. A table is a vector, and its entries are pairs, weak pairs or ephemerons.
use Rattle.std.specs.Prelude.{ℕ, Bool, true, false, not, ◌&&◌, ◌||◌, position, Option, Some, None}
use Rattle.trace_types.specs.declared.kind.Kind.{Kind}
use Rattle.trace_types.specs.declared.kind.Kind.TheVariants as kinds
use Rattle.trace_types.specs.declared.operand.Mode.{Mode}
use Rattle.trace_types.specs.declared.operand.Mode.TheVariants.{Pair, Weak, Eph}
use Rattle.trace_types.specs.Values.{Value, nil, bwp, same_value, Object, Graph, object_of_value, key_of}

-- the kind of the entries that a mode makes
abbrev pub entry_kind : Mode → Kind
entry_kind Pair = kinds.Pair
entry_kind Weak = kinds.Weak
entry_kind Eph = kinds.Eph

-- any vector is a table
abbrev pub is_table : Kind → Bool
is_table kinds.Vector = true
is_table kinds.ImmVector = true
is_table _ = false

-- what may be an entry
abbrev pub is_entry : Kind → Bool
is_entry kinds.Pair = true
is_entry kinds.Weak = true
is_entry kinds.Eph = true
is_entry _ = false

-- whether it is an object of these kinds whose field 0 is the value
abbrev pub has_key : Value → Option Object → Bool
has_key key None = false
has_key key (Some o) = is_entry o.kind && same_value (key_of o) key

-- whether a slot with this value holds an entry of the key; there is none of `bwp`
abbrev pub holds_entry : Graph → Value → Value → Bool
holds_entry graph key slot = not (same_value key bwp) && has_key key (object_of_value graph slot)

-- whether a slot with this value is free: it is `nil`, or its entry's key has died
abbrev pub is_free : Graph → Value → Bool
is_free graph slot = same_value slot nil || has_key bwp (object_of_value graph slot)

-- the least slot of the table that holds an entry of the key
abbrev pub where_in : Graph → Object → Value → Option ℕ
where_in graph table key = position (holds_entry graph key) table.fields

-- the least free slot of the table
abbrev pub free_in : Graph → Object → Option ℕ
free_in graph table = position (is_free graph) table.fields
