-- What each command does to a state and prints, or its fault by kinds, indexes, lengths and the state.
use Rattle.std.specs.Prelude.{ℕ, zero, suc, ◌+◌, ◌-◌, pos, Bool, false, not, ◌&&◌, ◌||◌, ◌==◌, nat_lt, nat_le, List, [], ◌∷◌, ◌++◌, length, replicate, set, slice_index_or, codes, Option, Some, None, Result, Ok, Err, if◌then◌else◌}
use Rattle.std.specs.FinMap.{put}
use Rattle.std.specs.FinMap.Entries.{where_key}
use Rattle.std.specs.Ordering.{nat_cmp}
use Rattle.trace_types.specs.declared.kind.Kind.{Kind}
use Rattle.trace_types.specs.declared.operand.Operand.{Operand}
use Rattle.trace_types.specs.declared.command.Command.{Command}
use Rattle.trace_types.specs.declared.command.Command.TheVariants.{Thread, Cons, Weak, Eph, MakeBox, Vector, Bytes, ImmVector, ImmBytes, Guard, OrderedGuard, Reg, Take, Get, Set, Mov, Lock, Unlock, Note, Check, Collect, Print, Census, Gen, Version, TablePut, TableGet, TableDel, Path, Size}
use Rattle.trace_types.specs.declared.operand.CollectArgs.{CollectArgs}
use Rattle.trace_types.specs.declared.operand.CollectArgs.TheVariants.{Plain, Explicit}
use Rattle.trace_types.specs.declared.fault.Fault.{Fault}
use Rattle.trace_types.specs.declared.fault.Fault.TheVariants.{WrongKind, BadIndex, BadLength, NotLocked, NotFixed, BadNote, BadGeneration, TableFull, UnknownCommand}
use Rattle.trace_types.specs.Values.{Value, fixnum, nil, false_value, bwp, object, same_value, Object, Graph, object_at, object_of_value, is_guardian, has_bytes, is_immobile, is_byte, field_at, value_of}
use Rattle.trace_types.specs.States.{State, Registration, register_value, operand_value, with_register, with_object, with_field, with_new, lock_count, Answer, silently}
use Rattle.trace_types.specs.States as states
use Rattle.trace_types.specs.Faults.{◌>>=◌}
use Rattle.trace_types.specs.Collections.{Arguments, are_allowed, plain_arguments, collect}
use Rattle.trace_types.specs.Printing.{print_text, words_of, census_text, generation_text, check_text, path_text, size_text}
use Rattle.trace_types.specs.Tables.{entry_kind, is_table, where_in, free_in}
use Rattle.trace_types.specs.Finder.{path, reached}

-- ---- what a command asks of its operands

-- an object that was looked up
abbrev pub found_object : ℕ → Option Object → Result (ℕ × Object) Fault
found_object birth None = Err WrongKind
found_object birth (Some o) = Ok (birth, o)

-- the object that the value is, with its birth
abbrev pub object_of : State → Value → Result (ℕ × Object) Fault
object_of s (object birth) = found_object birth (object_at s.graph birth)
object_of s _ = Err WrongKind

-- the guardian that the value is
abbrev pub guardian_of : State → Value → Result (ℕ × Object) Fault
guardian_of s v = object_of s v >>= λ g. if is_guardian g.1.kind then Ok g else Err WrongKind

-- the object of a kind with fields that the value is
abbrev pub fielded_of : State → Value → Result (ℕ × Object) Fault
fielded_of s v = object_of s v >>= λ o. if is_guardian o.1.kind then Err WrongKind else Ok o

-- the answer, where the index is below the length
abbrev pub within : Object → ℕ → Answer → Answer
within o index answer = if nat_lt index (length o.fields) then answer else Err BadIndex

-- the most fields or bytes of a new object
abbrev pub greatest_length : State → ℕ
greatest_length s = if s.version == 2 then 4000000 else 1000000

-- the answer, where the length is not too large
abbrev pub not_too_long : State → ℕ → Answer → Answer
not_too_long s n answer = if nat_le n (greatest_length s) then answer else Err BadLength

-- ---- guardians

-- the representative, which is the object itself where none is named
abbrev pub or_itself : State → Value → Option Operand → Value
or_itself s v None = v
or_itself s v (Some r) = operand_value s r

-- a registration more, behind the others
abbrev pub with_registration : State → Registration → State
with_registration s r = record s { registrations = s.registrations ++ r ∷ [] }

-- the first value of the queue goes to the register, or `f`
abbrev pub take_first : State → ℕ → ℕ → Object → List (Value × ℕ) → State
take_first s d birth o [] = with_register s d false_value
take_first s d birth o (entry ∷ rest) = with_register (with_object s birth (record o { queue = rest })) d entry.0

-- ---- locks and notes

-- the state with this lock count of an object; there is no entry for 0
abbrev pub with_lock_count : State → ℕ → ℕ → State
with_lock_count s birth zero = record s { locks = where_key nat_cmp (λ x. not (birth == x)) s.locks }
with_lock_count s birth (suc n) = record s { locks = put nat_cmp birth (suc n) s.locks }

-- whether the value is this object
abbrev pub is_same_object : ℕ → Value → Bool
is_same_object birth (object other) = birth == other
is_same_object birth _ = false

-- what a note and a register come to
abbrev pub checked : State → ℕ → Value → states.Note → Answer
checked s k v states.empty = Err BadNote
checked s k v states.gone = Ok (s, check_text k (codes "gone"))
checked s k v (states.set_to birth) = Ok (s, check_text k (if is_same_object birth v then codes "kept" else codes "other"))

-- ---- collections

-- a plain collection counts itself first, and is never refused
abbrev pub collected : State → CollectArgs → Answer
collected s Plain = silently (collect (record s { collects = s.collects + 1 }) (plain_arguments s.oldest (s.collects + 1)))
collected s (Explicit cg least greatest) =
    let a : Arguments = record { cg = cg; least = least; greatest = greatest } in
    if are_allowed s.version s.oldest a then silently (collect s a) else Err BadGeneration

-- ---- identity tables

-- the table that the value is
abbrev pub table_of : State → Value → Result (ℕ × Object) Fault
table_of s v = object_of s v >>= λ t. if is_table t.1.kind then Ok t else Err WrongKind

-- a key, which may not be `bwp`
abbrev pub whole_key : Value → Result Value Fault
whole_key key = if same_value key bwp then Err WrongKind else Ok key

-- the entry in a slot of the table
abbrev pub entry_in : State → Object → ℕ → Result (ℕ × Object) Fault
entry_in s table slot = object_of s (field_at table slot)

-- The entry's value changes where the key has one, else a new entry goes into the free slot. Register d gets the entry.
abbrev pub put_at : State → ℕ → ℕ → ℕ × Object → Kind → Value → Value → Option ℕ → Option ℕ → Answer
put_at s line d table kind key v (Some slot) free =
    entry_in s table.1 slot >>= λ e. silently (with_register (with_field s e.0 e.1 1 v) d (object e.0))
put_at s line d table kind key v None (Some slot) =
    silently (with_field (with_new s line d kind (key ∷ v ∷ [])) table.0 table.1 slot (object line))
put_at s line d table kind key v None None = Err TableFull

-- what the entry in the slot has, or `f`
abbrev pub found_at : State → Object → Option ℕ → Result Value Fault
found_at s table None = Ok false_value
found_at s table (Some slot) = entry_in s table slot >>= λ e. Ok (value_of e.1)

-- the slot becomes `nil`
abbrev pub emptied : State → ℕ × Object → Option ℕ → State
emptied s table None = s
emptied s table (Some slot) = with_field s table.0 table.1 slot nil

-- ---- the path finder

-- the number and the words of what is reached from the value
abbrev pub size_from : Graph → Value → List ℕ
size_from graph (object birth) = let found = reached graph birth in size_text (length found) (words_of found)
size_from graph _ = size_text 0 0

-- ---- the table of commands

-- What command c does as line n. All operands are valued before a register is changed.
unfoldable pub step : State → ℕ → Command → Answer
step s line (Thread thread) = silently (record s { thread = thread })
step s line (Cons d car cdr) = silently (with_new s line d Kind.Pair (operand_value s car ∷ operand_value s cdr ∷ []))
step s line (Weak d car cdr) = silently (with_new s line d Kind.Weak (operand_value s car ∷ operand_value s cdr ∷ []))
step s line (Eph d key value) = silently (with_new s line d Kind.Eph (operand_value s key ∷ operand_value s value ∷ []))
step s line (MakeBox d value) = silently (with_new s line d Kind.Boxed (operand_value s value ∷ []))
step s line (Vector d n value) = not_too_long s n (silently (with_new s line d Kind.Vector (replicate n (operand_value s value))))
step s line (Bytes d n byte) = not_too_long s n (silently (with_new s line d Kind.Bytes (replicate n (fixnum (pos byte)))))
step s line (ImmVector d n value) = not_too_long s n (silently (with_new s line d Kind.ImmVector (replicate n (operand_value s value))))
step s line (ImmBytes d n byte) = not_too_long s n (silently (with_new s line d Kind.ImmBytes (replicate n (fixnum (pos byte)))))
step s line (Guard d) = silently (with_new s line d Kind.Guard [])
step s line (OrderedGuard d) = silently (with_new s line d Kind.OrderedGuard [])
step s line (Reg guardian o representative) =
    guardian_of s (register_value s guardian) >>= λ g. silently (with_registration s (record {
      line = line;
      guardian = g.0;
      object = operand_value s o;
      representative = or_itself s (operand_value s o) representative;
    }))
step s line (Take d guardian) =
    guardian_of s (register_value s guardian) >>= λ g. silently (take_first s d g.0 g.1 g.1.queue)
step s line (Get d from index) =
    fielded_of s (register_value s from) >>= λ o.
    within o.1 index (silently (with_register s d (field_at o.1 index)))
step s line (Set into index value) =
    fielded_of s (register_value s into) >>= λ o.
    if has_bytes o.1.kind && not (is_byte (operand_value s value)) then Err WrongKind
    else within o.1 index (silently (with_field s o.0 o.1 index (operand_value s value)))
step s line (Mov d value) = silently (with_register s d (operand_value s value))
step s line (Lock value) =
    object_of s (operand_value s value) >>= λ o. silently (with_lock_count s o.0 (lock_count s o.0 + 1))
step s line (Unlock value) =
    object_of s (operand_value s value) >>= λ o.
    if lock_count s o.0 == 0 then Err NotLocked else silently (with_lock_count s o.0 (lock_count s o.0 - 1))
step s line (Note k r) =
    object_of s (register_value s r) >>= λ o.
    if is_immobile o.1.kind || nat_lt 0 (lock_count s o.0)
    then silently (record s { notes = set s.notes k (states.set_to o.0) }) else Err NotFixed
step s line (Check k r) = checked s k (register_value s r) (slice_index_or s.notes k states.empty)
step s line (Collect args) = collected s args
step s line (Print value) = Ok (s, print_text s.graph (operand_value s value))
step s line Census = Ok (s, census_text s.graph)
step s line (Gen value) = Ok (s, generation_text (object_of_value s.graph (operand_value s value)))
step s line Version = if line == 1 then silently (record s { version = 2 }) else Err UnknownCommand
step s line (TablePut d table mode key value) =
    table_of s (register_value s table) >>= λ t.
    whole_key (operand_value s key) >>= λ k.
    put_at s line d t (entry_kind mode) k (operand_value s value) (where_in s.graph t.1 k) (free_in s.graph t.1)
step s line (TableGet d table key) =
    table_of s (register_value s table) >>= λ t.
    whole_key (operand_value s key) >>= λ k.
    found_at s t.1 (where_in s.graph t.1 k) >>= λ v. silently (with_register s d v)
step s line (TableDel table key) =
    table_of s (register_value s table) >>= λ t.
    whole_key (operand_value s key) >>= λ k. silently (emptied s t (where_in s.graph t.1 k))
step s line (Path from to) =
    object_of s (register_value s from) >>= λ a.
    object_of s (operand_value s to) >>= λ b. Ok (s, path_text (path s.graph a.0 b.0))
step s line (Size from) = Ok (s, size_from s.graph (register_value s from))
