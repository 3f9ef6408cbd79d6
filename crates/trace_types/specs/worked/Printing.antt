-- Printed texts, and lines that are read.
use Rattle.std.specs.Prelude.{List, [], ◌∷◌, ◌++◌, codes, replicate}
use Rattle.trace_types.specs.declared.fault.Fault.TheVariants.{BadIndex, TooLong, TooManyLines}
use Rattle.trace_types.specs.Rows.{Row, usual, prints, refused}

abbrev pub printing_rows : List Row
printing_rows =
    -- no line, no output, status 0
    prints usual [] []
    -- a shared pair has one number in a print
    ∷ prints usual (codes "cons r0 1 nil\ncons r1 r0 r0\nprint r1\n")
    (codes "= #0\n#0 pair g0 t0 #1 #1\n#1 pair g0 t0 1 nil\n")
    -- largest register, thread and fixnums
    ∷ prints usual (codes "thread 63\ncons r4095 1152921504606846975 -1152921504606846976\nprint r4095\n")
    (codes "= #0\n#0 pair g0 t63 1152921504606846975 -1152921504606846976\n")
    -- boxes, bytes, immobile bytes and vectors, and their words
    ∷ prints usual (codes "box r0 f\nbytes r1 3 10\nibytes r2 0 0\nvec r3 3 nil\nset r3 0 r0\nset r3 1 r1\n"
    ++ codes "set r3 2 r2\nprint r3\ncensus\n")
    (codes "= #0\n#0 vec g0 t0 #1 #2 #3\n#1 box g0 t0 f\n#2 bytes g0 t0 0a 0a 0a\n"
    ++ codes "#3 ibytes g0 t0\ng0 4 10\n")
    -- a print, a census and generation lines
    ∷ prints usual (codes "box r0 f\nbytes r1 3 10\nvec r3 2 nil\nset r3 0 r0\nset r3 1 r1\nprint r3\ncensus\n"
    ++ codes "gen r3\ngen nil\n")
    (codes "= #0\n#0 vec g0 t0 #1 #2\n#1 box g0 t0 f\n#2 bytes g0 t0 0a 0a 0a\ng0 3 8\ngen 0\n"
    ++ codes "gen none\n")
    -- output of the lines before a refused line, status 1
    ∷ refused usual (codes "cons r1 1 nil\nprint r1\nget r0 r1 5\n")
    (codes "= #0\n#0 pair g0 t0 1 nil\n") 3 BadIndex
    -- a last line without a newline is a line
    ∷ prints usual (codes "print nil") (codes "= nil\n")
    -- a comment of 1,024 bytes is skipped
    ∷ prints usual (codes ";" ++ replicate 1023 120 ++ codes "\n") []
    -- a comment of 1,025 bytes is too long
    ∷ refused usual (codes ";" ++ replicate 1024 120 ++ codes "\n") [] 1 TooLong
    -- the first line above the limit is refused
    ∷ refused (record usual { max_lines = 3 }) (codes "print nil\nprint nil\nprint nil\nprint nil\n")
    (codes "= nil\n= nil\n= nil\n") 4 TooManyLines
    -- the input of the rows on faults of devices, where no device fails
    ∷ prints usual (codes "print nil\nprint t\n") (codes "= nil\n= t\n")
    -- a line above the limit that is also too long is too long
    ∷ refused (record usual { max_lines = 1 }) (codes "print nil\n" ++ replicate 1025 120 ++ codes "\n") (codes "= nil\n") 2 TooLong
    -- comments count
    ∷ refused (record usual { max_lines = 1 }) (codes "print nil\n;\n") (codes "= nil\n") 2 TooManyLines
    -- a ring of sixteen pairs over eight threads
    ∷ prints usual (codes "thread 0\ncons r0 0 nil\nthread 1\ncons r1 1 nil\nthread 2\ncons r2 2 nil\n"
    ++ codes "thread 3\ncons r3 3 nil\nthread 4\ncons r4 4 nil\nthread 5\ncons r5 5 nil\n"
    ++ codes "thread 6\ncons r6 6 nil\nthread 7\ncons r7 7 nil\nthread 0\ncons r8 8 nil\n"
    ++ codes "thread 1\ncons r9 9 nil\nthread 2\ncons r10 10 nil\nthread 3\ncons r11 11 nil\n"
    ++ codes "thread 4\ncons r12 12 nil\nthread 5\ncons r13 13 nil\nthread 6\ncons r14 14 nil\n"
    ++ codes "thread 7\ncons r15 15 nil\nset r0 1 r1\nset r1 1 r2\nset r2 1 r3\nset r3 1 r4\n"
    ++ codes "set r4 1 r5\nset r5 1 r6\nset r6 1 r7\nset r7 1 r8\nset r8 1 r9\nset r9 1 r10\n"
    ++ codes "set r10 1 r11\nset r11 1 r12\nset r12 1 r13\nset r13 1 r14\nset r14 1 r15\n"
    ++ codes "set r15 1 r0\nmov r1 nil\nmov r2 nil\nmov r3 nil\nmov r4 nil\nmov r5 nil\n"
    ++ codes "mov r6 nil\nmov r7 nil\nmov r8 nil\nmov r9 nil\nmov r10 nil\nmov r11 nil\n"
    ++ codes "mov r12 nil\nmov r13 nil\nmov r14 nil\nmov r15 nil\ncollect 0 1 1\nprint r0\n")
    (codes "= #0\n#0 pair g1 t0 0 #1\n#1 pair g1 t1 1 #2\n#2 pair g1 t2 2 #3\n"
    ++ codes "#3 pair g1 t3 3 #4\n#4 pair g1 t4 4 #5\n#5 pair g1 t5 5 #6\n#6 pair g1 t6 6 #7\n"
    ++ codes "#7 pair g1 t7 7 #8\n#8 pair g1 t0 8 #9\n#9 pair g1 t1 9 #10\n#10 pair g1 t2 10 #11\n"
    ++ codes "#11 pair g1 t3 11 #12\n#12 pair g1 t4 12 #13\n#13 pair g1 t5 13 #14\n"
    ++ codes "#14 pair g1 t6 14 #15\n#15 pair g1 t7 15 #0\n")
    ∷ []
