-- Generations, locks, notes and the static generation.
use Rattle.std.specs.Prelude.{List, [], ◌∷◌, ◌++◌, codes}
use Rattle.trace_types.specs.Rows.{Row, usual, prints}

abbrev pub moving_rows : List Row
moving_rows =
    -- a store into an older object keeps the young one
    prints usual (codes "vec r0 2 nil\ncollect 0 1 1\ncollect 1 2 2\ncons r1 9 nil\nset r0 1 r1\nmov r1 nil\n"
    ++ codes "collect 0 1 1\nprint r0\n")
    (codes "= #0\n#0 vec g2 t0 nil #1\n#1 pair g1 t0 9 nil\n")
    -- notes of locked and immobile objects, kept, gone and other
    ∷ prints usual (codes "cons r0 1 nil\nlock r0\nnote 0 r0\ncollect 0 1 1\ncheck 0 r0\ngen r0\nunlock r0\n"
    ++ codes "collect 1 2 2\ncheck 0 r0\ngen r0\nivec r1 2 nil\nnote 1 r1\ncollect 0 1 1\n"
    ++ codes "check 1 r1\ncheck 1 r0\nmov r1 nil\ncollect 1 2 2\ncheck 1 r0\ncensus\n")
    (codes "check 0 kept\ngen 1\ncheck 0 gone\ngen 2\ncheck 1 kept\ncheck 1 other\n"
    ++ codes "check 1 gone\ng2 1 2\n")
    -- the fourth plain collect collects generation 1
    ∷ prints usual (codes "cons r0 1 nil\ncollect\ngen r0\ncollect\ncollect\ncollect\ngen r0\n")
    (codes "gen 1\ngen 2\n")
    -- everything of an older generation counts as accessible
    ∷ prints usual (codes "cons r0 1 nil\ncollect 0 1 1\ncons r1 2 nil\nset r0 1 r1\nmov r0 nil\nmov r1 nil\n"
    ++ codes "collect 0 1 1\ncensus\ncollect 1 2 2\ncensus\n")
    (codes "g1 2 4\n")
    -- younger objects jump to the least target
    ∷ prints usual (codes "cons r0 1 nil\ncollect 2 2 3\ngen r0\ncollect 2 2 3\ngen r0\ncons r1 1 nil\n"
    ++ codes "collect 0 0 0\ngen r1\n")
    (codes "gen 2\ngen 3\ngen 0\n")
    -- an unlocked object's note is gone after a collection of its generation, even into the same one, and stays while only younger ones are collected
    ∷ prints usual (codes "cons r0 1 nil\nlock r0\nnote 0 r0\ncollect 0 1 1\nunlock r0\ncollect 0 0 1\n"
    ++ codes "check 0 r0\ncollect 1 1 1\ncheck 0 r0\ngen r0\n")
    (codes "check 0 kept\ncheck 0 gone\ngen 1\n")
    -- two locks want two unlocks; a locked object is kept without a register
    ∷ prints usual (codes "cons r0 1 nil\nlock r0\nlock r0\nnote 9 r0\ncons r1 r0 nil\nweak r2 r0 nil\n"
    ++ codes "unlock r0\nmov r0 nil\nmov r1 nil\ncollect 0 1 1\nprint r2\ncensus\nget r0 r2 0\n"
    ++ codes "check 9 r0\nunlock r0\nmov r0 nil\ncollect 1 2 2\nprint r2\ncheck 9 r0\n")
    (codes "= #0\n#0 weak g1 t0 #1 nil\n#1 pair g1 t0 1 nil\ng1 2 4\ncheck 9 kept\n= #0\n"
    ++ codes "#0 weak g2 t0 bwp nil\ncheck 9 gone\n")
    -- a registered pair in the static generation is never found dead
    ∷ prints usual (codes "version 2\nguard r0\ncons r1 5 nil\nreg r0 r1\ncollect 3 s s\nmov r1 nil\n"
    ++ codes "collect 3 3 3\ngen r0\ntake r2 r0\nprint r2\ncons r3 1 nil\nmov r3 nil\n"
    ++ codes "collect 0 1 1\ncensus\n")
    (codes "gen s\n= f\ngs 2 6\n")
    -- a static object is never reclaimed and its note stays
    ∷ prints usual (codes "version 2\nivec r0 1 nil\ncons r1 1 nil\nlock r1\nnote 0 r0\nnote 1 r1\n"
    ++ codes "collect 3 s s\nunlock r1\nmov r2 r0\nmov r0 nil\nmov r3 r1\nmov r1 nil\n"
    ++ codes "collect 3 3 3\ncheck 0 r2\ncheck 1 r3\ncheck 1 r2\nmov r2 nil\nmov r3 nil\n"
    ++ codes "collect 3 s s\ncensus\n")
    (codes "check 0 kept\ncheck 1 kept\ncheck 1 other\ngs 2 4\n")
    -- a collection of generation 0 into itself
    ∷ prints usual (codes "cons r0 1 nil\ncons r1 2 nil\nmov r1 nil\ncollect 0 0 0\ngen r0\ncensus\n")
    (codes "gen 0\ng0 1 2\n")
    -- a locked object keeps a cycle that nothing else refers to
    ∷ prints usual (codes "cons r0 1 nil\ncons r1 2 r0\nset r0 1 r1\nweak r2 r0 nil\nlock r0\nmov r0 nil\n"
    ++ codes "mov r1 nil\ncollect 0 1 1\ncensus\nprint r2\nget r0 r2 0\nunlock r0\nmov r0 nil\n"
    ++ codes "collect 1 2 2\nprint r2\n")
    (codes "g1 3 6\n= #0\n#0 weak g1 t0 #1 nil\n#1 pair g1 t0 1 #2\n#2 pair g1 t0 2 #1\n= #0\n"
    ++ codes "#0 weak g2 t0 bwp nil\n")
    -- with one generation each fourth plain collection takes it all
    ∷ prints (record usual { generations = 1 }) (codes "cons r0 1 nil\ncollect\nmov r0 nil\ncollect\ncollect\ncensus\ncollect\ncensus\n")
    (codes "g1 1 2\n")
    ∷ []
