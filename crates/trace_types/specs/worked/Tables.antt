-- Identity tables, and the path finder.
use Rattle.std.specs.Prelude.{List, [], ◌∷◌, ◌++◌, codes}
use Rattle.trace_types.specs.declared.fault.Fault.TheVariants.{BadRegister, TableFull, WrongKind}
use Rattle.trace_types.specs.Rows.{Row, usual, prints, refused}

abbrev pub table_rows : List Row
table_rows =
    -- entries survive a collection, a dead key frees its slot, a full table is a fault
    refused usual (codes "vec r0 2 nil\ncons r1 1 nil\ntput r2 r0 w r1 10\ntget r3 r0 r1\nprint r3\n"
    ++ codes "collect 0 1 1\ntget r3 r0 r1\nprint r3\nmov r1 nil\ncollect 1 2 2\nprint r0\n"
    ++ codes "tput r2 r0 e 5 6\ntput r2 r0 e 7 8\ntput r2 r0 e 9 9\n")
    (codes "= 10\n= 10\n= #0\n#0 vec g2 t0 #1 nil\n#1 weak g2 t0 bwp 10\n") 14 TableFull
    -- a second put changes the entry that is there; a deleted key gives f
    ∷ prints usual (codes "vec r0 1 nil\ncons r1 1 nil\ncons r2 r1 nil\ntput r3 r0 e r1 r2\ntput r3 r0 p r1 7\n"
    ++ codes "tget r4 r0 r1\nprint r4\ntdel r0 r1\ntget r4 r0 r1\nprint r4\n")
    (codes "= 7\n= f\n")
    -- changes of a table or of an entry through other registers are seen
    ∷ prints usual (codes "vec r0 1 nil\nmov r1 r0\ntput r2 r0 p 5 50\ntget r3 r0 5\nprint r3\ntdel r1 5\n"
    ++ codes "tget r3 r0 5\nprint r3\ntput r2 r1 w 6 60\ntget r3 r0 6\nprint r3\nset r2 0 7\n"
    ++ codes "tget r3 r0 6\nprint r3\ntget r3 r0 7\nprint r3\n")
    (codes "= 50\n= f\n= 60\n= f\n= 60\n")
    -- the register of the result is no other operand
    ∷ refused usual (codes "vec r0 1 nil\ntput r1 r0 p r1 01\n") [] 2 BadRegister
    -- a table of length 0
    ∷ refused usual (codes "vec r0 0 nil\ntget r1 r0 1\nprint r1\ntput r1 r0 p 1 1\n")
    (codes "= f\n") 4 TableFull
    -- the shortest walk, first in field order, and the size of what is reached; a weak car is no step
    ∷ prints usual (codes "cons r0 1 nil\nvec r1 3 nil\ncons r2 2 r0\nset r1 1 r2\nset r1 2 r0\npath r1 r0\n"
    ++ codes "path r0 r1\nsize r1\nweak r3 r0 nil\npath r3 r0\n")
    (codes "path 2\npath none\nsize 3 8\npath none\n")
    -- the first of two equal fields, the empty walk, the size of no object
    ∷ prints usual (codes "cons r0 1 nil\ncons r1 r0 r0\npath r1 r0\npath r1 r1\nsize r1\nsize r2\n")
    (codes "path 0\npath\nsize 2 4\nsize 0 0\n")
    -- path wants objects at both ends
    ∷ refused usual (codes "cons r0 1 nil\ncons r1 r0 r0\npath r1 r0\npath r1 r1\nsize r1\nsize r2\npath r2 r0\n")
    (codes "path 0\npath\nsize 2 4\nsize 0 0\n") 7 WrongKind
    -- a broken key makes its slot free and is no key
    ∷ refused usual (codes "cons r1 1 nil\nweak r0 r1 nil\nmov r1 nil\ncollect 0 1 1\nget r2 r0 0\n"
    ++ codes "vec r3 1 nil\ncons r5 r2 9\nset r3 0 r5\ntput r6 r3 p 4 4\nprint r3\ntget r4 r3 r2\n")
    (codes "= #0\n#0 vec g0 t0 #1\n#1 pair g0 t0 4 4\n") 11 WrongKind
    -- places in a queue count from 0, immediates too; cells have no size; a weak car is no step
    ∷ prints usual (codes "guard r0\ncons r1 1 nil\ncons r2 2 nil\nweak r3 r2 nil\nreg r0 r1 7\nreg r0 r2\n"
    ++ codes "mov r1 nil\nmov r2 nil\ncollect 0 1 1\nget r2 r3 0\npath r0 r2\nsize r0\n"
    ++ codes "path r3 r2\n")
    (codes "path 1\nsize 2 6\npath none\n")
    ∷ []
