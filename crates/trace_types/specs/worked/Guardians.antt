-- Unordered guardians.
use Rattle.std.specs.Prelude.{List, [], ◌∷◌, ◌++◌, codes}
use Rattle.trace_types.specs.Rows.{Row, usual, prints}

abbrev pub guardian_rows : List Row
guardian_rows =
    -- a guarded pair is saved once and then taken; an empty queue gives f
    prints usual (codes "guard r0\ncons r1 5 nil\nreg r0 r1\nmov r1 nil\ncollect 0 1 1\ntake r2 r0\n"
    ++ codes "print r2\ntake r2 r0\nprint r2\n")
    (codes "= #0\n#0 pair g1 t0 5 nil\n= f\n")
    -- one queue entry per registration
    ∷ prints usual (codes "guard r0\ncons r1 5 nil\nreg r0 r1\nreg r0 r1\nmov r1 nil\ncollect 0 1 1\nprint r0\n"
    ++ codes "take r2 r0\ntake r3 r0\ntake r4 r0\ncons r5 r2 r3\nprint r5\nprint r4\n")
    (codes "= #0\n#0 guard g1 t0 #1 #1\n#1 pair g1 t0 5 nil\n= #0\n#0 pair g0 t0 #1 #1\n"
    ++ codes "#1 pair g1 t0 5 nil\n= f\n")
    -- nothing is saved by a guardian that went; an empty census prints nothing
    ∷ prints usual (codes "guard r0\ncons r1 5 nil\nreg r0 r1\nmov r0 nil\nmov r1 nil\ncensus\ncollect 0 1 1\n"
    ++ codes "census\nprint nil\n")
    (codes "g0 2 6\n= nil\n")
    -- weak cars are settled after guardians
    ∷ prints usual (codes "guard r0\ncons r1 5 nil\nweak r2 r1 nil\nreg r0 r1\nmov r1 nil\ncollect 0 1 1\n"
    ++ codes "print r2\ntake r3 r0\nmov r3 nil\ncollect 1 2 2\nprint r2\n")
    (codes "= #0\n#0 weak g1 t0 #1 nil\n#1 pair g1 t0 5 nil\n= #0\n#0 weak g2 t0 bwp nil\n")
    -- the representative is given and the object goes
    ∷ prints usual (codes "guard r0\ncons r1 5 nil\nreg r0 r1 7\nmov r1 nil\ncollect 0 1 1\ncensus\n"
    ++ codes "take r2 r0\nprint r2\n")
    (codes "g1 1 4\n= 7\n")
    -- an older object waits for a collection of its generation
    ∷ prints usual (codes "guard r0\ncons r1 5 nil\nreg r0 r1\ncollect 0 1 1\ncollect 1 2 2\ngen r1\n"
    ++ codes "mov r1 nil\ncollect 0 1 1\ntake r2 r0\nprint r2\ncollect 2 3 3\ntake r2 r0\n"
    ++ codes "print r2\n")
    (codes "gen 2\n= f\n= #0\n#0 pair g3 t0 5 nil\n")
    -- an unordered guardian gives both at once, by registration line
    ∷ prints usual (codes "guard r0\ncons r1 2 nil\ncons r2 1 r1\nreg r0 r1\nreg r0 r2\nmov r1 nil\n"
    ++ codes "mov r2 nil\ncollect 0 1 1\nprint r0\n")
    (codes "= #0\n#0 guard g1 t0 #1 #2\n#1 pair g1 t0 2 nil\n#2 pair g1 t0 1 #1\n")
    -- an older guardian's new queue entry keeps a young representative
    ∷ prints usual (codes "guard r0\ncollect 0 1 1\ncollect 1 2 2\ncons r1 5 nil\ncons r2 6 nil\nreg r0 r1 r2\n"
    ++ codes "mov r1 nil\nmov r2 nil\ncollect 0 1 1\nprint r0\ncollect 0 1 1\ncollect 1 2 2\n"
    ++ codes "print r0\n")
    (codes "= #0\n#0 guard g2 t0 #1\n#1 pair g1 t0 6 nil\n= #0\n#0 guard g2 t0 #1\n"
    ++ codes "#1 pair g2 t0 6 nil\n")
    -- weak pairs to guarded ports, descriptor numbers as representatives
    ∷ prints usual (codes "; ports 100 and 101\nguard r0\nvec r1 4 nil\nvec r2 3 0\nreg r0 r2 100\n"
    ++ codes "weak r3 r2 nil\nset r1 0 r3\nvec r4 3 0\nreg r0 r4 101\nweak r3 r4 nil\n"
    ++ codes "set r1 1 r3\ncollect\nmov r2 nil\ncollect\ncollect\ncollect\nprint r1\ntake r5 r0\n"
    ++ codes "print r5\ntake r5 r0\nprint r5\n")
    (codes "= #0\n#0 vec g2 t0 #1 #2 nil nil\n#1 weak g2 t0 bwp nil\n#2 weak g2 t0 #3 nil\n"
    ++ codes "#3 vec g2 t0 0 0 0\n= 100\n= f\n")
    -- a queue is sorted by line only among what one collection adds
    ∷ prints usual (codes "guard r0\ncons r1 1 nil\ncollect 0 1 1\nreg r0 r1\ncons r2 2 nil\nreg r0 r2\n"
    ++ codes "mov r1 nil\nmov r2 nil\ncollect 0 1 1\ncollect 1 2 2\nprint r0\n")
    (codes "= #0\n#0 guard g2 t0 #1 #2\n#1 pair g2 t0 2 nil\n#2 pair g2 t0 1 nil\n")
    -- nothing saves it
    ∷ prints usual (codes "guard r0\nreg r0 r0\nmov r0 nil\ncollect 0 1 1\ncensus\nprint t\n")
    (codes "= t\n")
    -- the one that is dropped is saved by the other, and then the other way round
    ∷ prints usual (codes "guard r0\nguard r1\nreg r0 r1\nreg r1 r0\nmov r1 nil\ncollect 0 1 1\ntake r2 r0\n"
    ++ codes "mov r0 nil\ncollect 1 2 2\nprint r2\n")
    (codes "= #0\n#0 guard g2 t0 #1\n#1 guard g2 t0\n")
    -- it keeps its representative as long as the guardian and is never given
    ∷ prints usual (codes "guard r0\ncons r1 1 nil\nreg r0 7 r1\nmov r1 nil\ncollect 0 1 1\ncensus\n"
    ++ codes "take r2 r0\nprint r2\nmov r0 nil\ncollect 1 2 2\ncensus\n")
    (codes "g1 2 6\n= f\n")
    -- it is kept while guardian and object are
    ∷ prints usual (codes "guard r0\ncons r1 1 nil\ncons r2 2 nil\nreg r0 r1 r2\nmov r2 nil\ncollect 0 1 1\n"
    ++ codes "census\nmov r0 nil\ncollect 1 2 2\ncensus\n")
    (codes "g1 3 8\ng2 1 2\n")
    -- we: the representative of a living registration counts as accessible; Chez: it does not
    ∷ prints usual (codes "guard r4\ncons r7 1 2\ncons r3 3 4\nreg r4 r7 r3\nguard r1\nreg r1 r3 99\n"
    ++ codes "mov r3 nil\ncollect 0 0 0\nprint r1\nmov r7 nil\ncollect 3 3 3\nprint r1\nprint r4\n")
    (codes "= #0\n#0 guard g0 t0\n= #0\n#0 guard g3 t0 99\n= #0\n#0 guard g3 t0 #1\n"
    ++ codes "#1 pair g3 t0 3 4\n")
    -- we keep the representative as long as the guardian; Chez drops it
    ∷ prints usual (codes "guard r0\ncons r1 1 2\nweak r2 r1 nil\nreg r0 nil r1\nmov r1 nil\ncollect 0 1 1\n"
    ++ codes "print r2\n")
    (codes "= #0\n#0 weak g1 t0 #1 nil\n#1 pair g1 t0 1 2\n")
    -- a guardian and the one that it is registered with die together
    ∷ prints usual (codes "guard r0\nguard r1\nreg r0 r1\nmov r0 nil\nmov r1 nil\ncensus\ncollect 0 1 1\n"
    ++ codes "census\nprint nil\n")
    (codes "g0 2 8\n= nil\n")
    -- a guardian that is saved by another gets what is registered with it in the same collection
    ∷ prints usual (codes "guard r0\nguard r1\ncons r2 5 nil\nreg r0 r1\nreg r1 r2\nmov r1 nil\nmov r2 nil\n"
    ++ codes "collect 0 1 1\nprint r0\n")
    (codes "= #0\n#0 guard g1 t0 #1\n#1 guard g1 t0 #2\n#2 pair g1 t0 5 nil\n")
    -- a representative that is the guardian itself
    ∷ prints usual (codes "guard r0\ncons r1 5 nil\nreg r0 r1 r0\nmov r1 nil\ncollect 0 1 1\nprint r0\ncensus\n"
    ++ codes "take r2 r0\nprint r2\n")
    (codes "= #0\n#0 guard g1 t0 #0\ng1 1 4\n= #0\n#0 guard g1 t0\n")
    -- a static guardian with a young object
    ∷ prints usual (codes "version 2\nguard r0\ncollect 3 s s\ncons r1 5 nil\nreg r0 r1\nmov r1 nil\n"
    ++ codes "collect 0 1 1\ngen r0\nprint r0\ntake r2 r0\nprint r2\n")
    (codes "gen s\n= #0\n#0 guard gs t0 #1\n#1 pair g1 t0 5 nil\n= #0\n#0 pair g1 t0 5 nil\n")
    ∷ []
