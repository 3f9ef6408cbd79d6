-- What a line of a trace says: nothing, one command, or the first fault.
-- The grammar of lines and the order of its faults are this project's own.
use Rattle.std.specs.Prelude.{ℕ, ◌+◌, ◌-◌, ◌*◌, ◌^◌, pos, neg_ℤ, Bool, true, false, not, ◌&&◌, ◌||◌, ◌==◌, nat_le, List, [], ◌∷◌, fold, codes, bytes_eq, Option, Some, None, Result, Ok, Err, if◌then◌else◌}
use Rattle.std.specs.List.{list_all, slice_split}
use Rattle.trace_types.specs.Faults.{◌>>=◌}
use Rattle.trace_types.specs.declared.operand.Operand.{Operand}
use Rattle.trace_types.specs.declared.operand.Operand.TheVariants.{Fixnum, Nil, True, False}
use Rattle.trace_types.specs.declared.operand.Mode.{Mode}
use Rattle.trace_types.specs.declared.command.Command.{Command}
use Rattle.trace_types.specs.declared.command.Command.TheVariants.{Thread, Cons, Weak, Eph, MakeBox, Vector, Bytes, ImmVector, ImmBytes, Guard, OrderedGuard, Reg, Take, Get, Set, Mov, Lock, Unlock, Note, Check, Collect, Print, Census, Gen, Version, TablePut, TableGet, TableDel, Path, Size}
use Rattle.trace_types.specs.declared.operand.CollectArgs.TheVariants.{Plain, Explicit}
use Rattle.trace_types.specs.declared.fault.Fault.{Fault}
use Rattle.trace_types.specs.declared.fault.Fault.TheVariants.{NotText, UnknownCommand, OperandCount, BadRegister, BadNumber, BadThread, BadGeneration}

-- ---- bytes

abbrev pub space : ℕ
space = 32

abbrev pub semicolon : ℕ
semicolon = 59

abbrev pub minus : ℕ
minus = 45

abbrev pub letter_r : ℕ
letter_r = 114

abbrev pub is_between : ℕ → ℕ → ℕ → Bool
is_between least greatest c = nat_le least c && nat_le c greatest

-- from `0` to `9`
abbrev pub is_digit : ℕ → Bool
is_digit c = is_between 48 57 c

-- ---- numerals

-- `0`, or a digit from 1 to 9 followed by digits
abbrev pub is_numeral : List ℕ → Bool
is_numeral [] = false
is_numeral (c ∷ cs) = bytes_eq (c ∷ cs) (codes "0") || (is_between 49 57 c && list_all is_digit cs)

-- the number that the digits write, the first in the highest place
abbrev pub numeral_value : List ℕ → ℕ
numeral_value digits = fold (λ n c. 10 * n + (c - 48)) 0 digits

-- the number of a numeral that is at most the limit, or the fault
abbrev pub numeral_to : ℕ → Fault → List ℕ → Result ℕ Fault
numeral_to limit fault field = if is_numeral field && nat_le (numeral_value field) limit then Ok (numeral_value field) else Err fault

-- ---- the classes of operands

-- `r` and a numeral at most 4095
abbrev pub register : List ℕ → Result ℕ Fault
register [] = Err BadRegister
register (c ∷ number) = if c == letter_r then numeral_to 4095 BadRegister number else Err BadRegister

-- what stands behind `-`: a numeral that is not `0`, in the range of fixnums
abbrev pub negated : List ℕ → Result Operand Fault
negated number = if bytes_eq number (codes "0") then Err BadNumber else numeral_to (2 ^ 60) BadNumber number >>= λ n. Ok (Fixnum (neg_ℤ (pos n)))

-- `nil`, `t`, `f`, or a numeral in the range of fixnums
abbrev pub plain : List ℕ → Result Operand Fault
plain field =
    if bytes_eq field (codes "nil") then Ok Nil
    else if bytes_eq field (codes "t") then Ok True
    else if bytes_eq field (codes "f") then Ok False
    else numeral_to (2 ^ 60 - 1) BadNumber field >>= λ n. Ok (Fixnum (pos n))

-- a register, a fixnum, `nil`, `t` or `f`
abbrev pub value : List ℕ → Result Operand Fault
value [] = Err BadNumber
value (c ∷ cs) =
    if c == letter_r then (register (c ∷ cs) >>= λ r. Ok (Operand.Reg r))
    else if c == minus then negated cs
    else plain (c ∷ cs)

abbrev pub count : List ℕ → Result ℕ Fault
count field = numeral_to 4294967295 BadNumber field

-- a byte, or the number of a note
abbrev pub byte : List ℕ → Result ℕ Fault
byte field = numeral_to 255 BadNumber field

abbrev pub thread : List ℕ → Result ℕ Fault
thread field = numeral_to 63 BadThread field

-- one digit from 0 to 7
abbrev pub generation : List ℕ → Result ℕ Fault
generation (c ∷ []) = if is_between 48 55 c then Ok (c - 48) else Err BadGeneration
generation _ = Err BadGeneration

-- as MIN and MAX also `s`, the static generation
abbrev pub generation_or_static : List ℕ → Result ℕ Fault
generation_or_static field = if bytes_eq field (codes "s") then Ok 8 else generation field

-- `p`, `w` or `e`
abbrev pub mode : List ℕ → Result Mode Fault
mode field =
    if bytes_eq field (codes "p") then Ok Mode.Pair
    else if bytes_eq field (codes "w") then Ok Mode.Weak
    else if bytes_eq field (codes "e") then Ok Mode.Eph
    else Err BadNumber

-- ---- so many operands, and their faults from left to right

abbrev pub no_operand : Command → List (List ℕ) → Result Command Fault
no_operand command [] = Ok command
no_operand command _ = Err OperandCount

abbrev pub one_operand : {A T : Type 0} → (List ℕ → Result A Fault) → (A → T) → List (List ℕ) → Result T Fault
one_operand first make (a ∷ []) = do
  x ← first a
  Ok (make x)
one_operand first make _ = Err OperandCount

abbrev pub two_operands : {A B T : Type 0} → (List ℕ → Result A Fault) → (List ℕ → Result B Fault) → (A → B → T) → List (List ℕ) → Result T Fault
two_operands first second make (a ∷ b ∷ []) = do
  x ← first a
  y ← second b
  Ok (make x y)
two_operands first second make _ = Err OperandCount

abbrev pub three_operands : {A B C T : Type 0} → (List ℕ → Result A Fault) → (List ℕ → Result B Fault) → (List ℕ → Result C Fault) → (A → B → C → T) → List (List ℕ) → Result T Fault
three_operands first second third make (a ∷ b ∷ c ∷ []) = do
  x ← first a
  y ← second b
  z ← third c
  Ok (make x y z)
three_operands first second third make _ = Err OperandCount

-- ---- the commands that take their operands in a way of their own

-- the representative is the object where none is given
abbrev pub registration : List (List ℕ) → Result Command Fault
registration (g ∷ o ∷ r ∷ []) = three_operands register value value (λ guardian object representative. Reg guardian object (Some representative)) (g ∷ o ∷ r ∷ [])
registration operands = two_operands register value (λ guardian object. Reg guardian object None) operands

-- no operands, or three generations
abbrev pub collection : List (List ℕ) → Result Command Fault
collection [] = Ok (Collect Plain)
collection operands = three_operands generation generation_or_static generation_or_static (λ cg least greatest. Collect (Explicit cg least greatest)) operands

-- with anything else than the one field `2` the word is no command word
abbrev pub version : List (List ℕ) → Result Command Fault
version (number ∷ []) = if bytes_eq number (codes "2") then Ok Version else Err UnknownCommand
version _ = Err UnknownCommand

-- a register other than this one
abbrev pub register_but : ℕ → List ℕ → Result ℕ Fault
register_but d field = do
  r ← register field
  if r == d then Err BadRegister else Ok r

abbrev pub is_register : ℕ → Operand → Bool
is_register d (Operand.Reg r) = r == d
is_register d _ = false

-- a value that is not this register
abbrev pub value_but : ℕ → List ℕ → Result Operand Fault
value_but d field = do
  v ← value field
  if is_register d v then Err BadRegister else Ok v

-- the first register is none of the other operands
abbrev pub table_put : List (List ℕ) → Result Command Fault
table_put (d ∷ t ∷ m ∷ k ∷ v ∷ []) = do
  entry ← register d
  table ← register_but entry t
  made ← mode m
  key ← value_but entry k
  datum ← value_but entry v
  Ok (TablePut entry table made key datum)
table_put _ = Err OperandCount

-- ---- lines

-- each command word, with what it makes of the operands
abbrev pub grammar : List (List ℕ × (List (List ℕ) → Result Command Fault))
grammar =
    (codes "thread", one_operand thread Thread)
    ∷ (codes "cons", three_operands register value value Cons)
    ∷ (codes "weak", three_operands register value value Weak)
    ∷ (codes "eph", three_operands register value value Eph)
    ∷ (codes "box", two_operands register value MakeBox)
    ∷ (codes "vec", three_operands register count value Vector)
    ∷ (codes "bytes", three_operands register count byte Bytes)
    ∷ (codes "ivec", three_operands register count value ImmVector)
    ∷ (codes "ibytes", three_operands register count byte ImmBytes)
    ∷ (codes "guard", one_operand register Guard)
    ∷ (codes "oguard", one_operand register OrderedGuard)
    ∷ (codes "reg", registration)
    ∷ (codes "take", two_operands register register Take)
    ∷ (codes "get", three_operands register register count Get)
    ∷ (codes "set", three_operands register count value Set)
    ∷ (codes "mov", two_operands register value Mov)
    ∷ (codes "lock", one_operand value Lock)
    ∷ (codes "unlock", one_operand value Unlock)
    ∷ (codes "note", two_operands byte register Note)
    ∷ (codes "check", two_operands byte register Check)
    ∷ (codes "collect", collection)
    ∷ (codes "print", one_operand value Print)
    ∷ (codes "census", no_operand Census)
    ∷ (codes "gen", one_operand value Gen)
    ∷ (codes "version", version)
    ∷ (codes "tput", table_put)
    ∷ (codes "tget", three_operands register register value TableGet)
    ∷ (codes "tdel", two_operands register value TableDel)
    ∷ (codes "path", two_operands register value Path)
    ∷ (codes "size", one_operand register Size)
    ∷ []

-- what the word's row makes of the operands; a word without a row is no command word
abbrev pub by_word : List (List ℕ × (List (List ℕ) → Result Command Fault)) → List ℕ → List (List ℕ) → Result Command Fault
by_word [] word operands = Err UnknownCommand
by_word (row ∷ rows) word operands = if bytes_eq word row.0 then row.1 operands else by_word rows word operands

-- the first field is the command word
abbrev pub command_in : List (List ℕ) → Result Command Fault
command_in [] = Err UnknownCommand
command_in (word ∷ operands) = by_word grammar word operands

-- an empty line, and one that begins with `;`
abbrev pub is_skipped : List ℕ → Bool
is_skipped [] = true
is_skipped (c ∷ cs) = c == semicolon

-- from the space to `~`
abbrev pub is_printable : ℕ → Bool
is_printable c = is_between space 126 c

-- split at each space: two spaces in a row, and a space at either end, give an empty field
abbrev pub fields : List ℕ → List (List ℕ)
fields line = slice_split (λ c. c == space) line

-- nothing, one command, or the first fault
unfoldable pub read : List ℕ → Result (Option Command) Fault
read line =
    if is_skipped line then Ok None
    else if not (list_all is_printable line) then Err NotText
    else command_in (fields line) >>= λ command. Ok (Some command)
