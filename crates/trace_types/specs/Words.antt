-- The fixed words: of a kind, and of a fault.
use Rattle.std.specs.Prelude.{ℕ, List, codes}
use Rattle.trace_types.specs.declared.kind.Kind.{Kind}
use Rattle.trace_types.specs.declared.kind.Kind.TheVariants.{Pair, Weak, Eph, Boxed, Vector, Bytes, ImmVector, ImmBytes, Guard, OrderedGuard, Cell}
use Rattle.trace_types.specs.declared.fault.Fault.{Fault}
use Rattle.trace_types.specs.declared.fault.Fault.TheVariants.{TooLong, TooManyLines, NotText, UnknownCommand, OperandCount, BadRegister, BadNumber, BadThread, WrongKind, BadIndex, BadLength, NotLocked, NotFixed, BadNote, BadGeneration, TableFull}

-- the word of a kind in traces and prints
abbrev pub kind_word : Kind → List ℕ
kind_word Pair = codes "pair"
kind_word Weak = codes "weak"
kind_word Eph = codes "eph"
kind_word Boxed = codes "box"
kind_word Vector = codes "vec"
kind_word Bytes = codes "bytes"
kind_word ImmVector = codes "ivec"
kind_word ImmBytes = codes "ibytes"
kind_word Guard = codes "guard"
kind_word OrderedGuard = codes "oguard"
kind_word Cell = codes "cell"

-- the text of a fault in a message
abbrev pub fault_text : Fault → List ℕ
fault_text TooLong = codes "line too long"
fault_text TooManyLines = codes "too many lines"
fault_text NotText = codes "byte is not printable ASCII"
fault_text UnknownCommand = codes "unknown command"
fault_text OperandCount = codes "wrong number of operands"
fault_text BadRegister = codes "bad register"
fault_text BadNumber = codes "bad number"
fault_text BadThread = codes "bad thread"
fault_text WrongKind = codes "wrong kind of value"
fault_text BadIndex = codes "index out of range"
fault_text BadLength = codes "length too large"
fault_text NotLocked = codes "not locked"
fault_text NotFixed = codes "neither locked nor immobile"
fault_text BadNote = codes "empty note"
fault_text BadGeneration = codes "bad generation"
fault_text TableFull = codes "table full"
