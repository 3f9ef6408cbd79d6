-- Single refusals.
use Rattle.std.specs.Prelude.{List, [], ◌∷◌, codes}
use Rattle.trace_types.specs.declared.fault.Fault.TheVariants.{BadGeneration, BadIndex, BadLength, BadNote, BadNumber, BadRegister, BadThread, NotFixed, NotLocked, NotText, OperandCount, UnknownCommand, WrongKind}
use Rattle.trace_types.specs.Rows.{Row, usual, refused}

abbrev pub refusal_rows : List Row
refusal_rows =
    -- threads end at 63
    refused usual (codes "thread 64\n") [] 1 BadThread
    -- registers end at 4095
    ∷ refused usual (codes "mov r4096 nil\n") [] 1 BadRegister
    -- the first number that is no fixnum
    ∷ refused usual (codes "mov r0 1152921504606846976\n") [] 1 BadNumber
    -- a wrong number of operands
    ∷ refused usual (codes "cons r0 1\n") [] 1 OperandCount
    -- command words are exact
    ∷ refused usual (codes "Cons r0 1 2\n") [] 1 UnknownCommand
    -- only objects are locked
    ∷ refused usual (codes "lock 7\n") [] 1 WrongKind
    -- an empty note is a fault
    ∷ refused usual (codes "check 0 r0\n") [] 1 BadNote
    -- min above cg + 1
    ∷ refused usual (codes "collect 0 2 2\n") [] 1 BadGeneration
    -- min below the oldest generation for a collection of all
    ∷ refused usual (codes "collect 3 2 3\n") [] 1 BadGeneration
    -- an unlock without a lock
    ∷ refused usual (codes "cons r0 1 2\nunlock r0\n") [] 2 NotLocked
    -- notes are for locked and immobile objects
    ∷ refused usual (codes "cons r0 1 2\nnote 0 r0\n") [] 2 NotFixed
    -- take wants a guardian
    ∷ refused usual (codes "cons r0 1 2\ntake r1 r0\n") [] 2 WrongKind
    -- a tab is no printable byte
    ∷ refused usual (codes "cons\tr0 1 2\n") [] 1 NotText
    -- refused: set r0 9 256
    ∷ refused usual (codes "bytes r0 3 1\nset r0 9 256\n") [] 2 WrongKind
    -- refused: get r1 r0 3
    ∷ refused usual (codes "bytes r0 3 1\nget r1 r0 3\n") [] 2 BadIndex
    -- refused: get r1 r0 0
    ∷ refused usual (codes "guard r0\nget r1 r0 0\n") [] 2 WrongKind
    -- with one generation, collect 2 2 2 is refused
    ∷ refused (record usual { generations = 1; sweepers = 2 }) (codes "collect 2 2 2\n") [] 1 BadGeneration
    -- s is refused in a trace of version 1
    ∷ refused usual (codes "collect 3 s s\n") [] 1 BadGeneration
    -- version 2 stands on line 1 alone; the census of no object prints nothing
    ∷ refused usual (codes "census\nversion 2\n") [] 2 UnknownCommand
    -- s wants a collection of all generations
    ∷ refused usual (codes "version 2\ncollect 2 s s\n") [] 2 BadGeneration
    -- a comment is a line
    ∷ refused usual (codes "; c\nversion 2\n") [] 2 UnknownCommand
    -- only version 2 is a command
    ∷ refused usual (codes "version 3\n") [] 1 UnknownCommand
    -- vectors end at 1,000,000 fields
    ∷ refused usual (codes "vec r0 1000001 nil\n") [] 1 BadLength
    -- 1,000,000 stays the limit in version 1
    ∷ refused usual (codes "vec r0 4000000 nil\n") [] 1 BadLength
    -- vectors of version 2 end at 4,000,000 fields
    ∷ refused usual (codes "version 2\nvec r0 4000001 nil\n") [] 2 BadLength
    ∷ []
