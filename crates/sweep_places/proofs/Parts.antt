-- The entries of one from-segment in the table.
use Rattle.std.proofs.Common.{◌≡◌, ℕ, ◌+◌, ◌-◌, ◌<◌, ◌≤◌, List, ◌++◌, length, get_or, take, drop, set, sym, ap, ◌∙◌, arith, length-append}
use Rattle.std.proofs.lemmas.List.{drop-drop, drop_at, get_or_append_left, get_or-append-add, length-take-le, length-drop, set-append_left, set-append_right, take-append-drop, take_at}
use Rattle.sweep_places.specs.Following.{part_at, with_part}

-- what stands in their place
pub part_is : (table part : List ℕ) (entry : ℕ) → entry ≤ length table → length part ≡ 256
    → part_at (with_part table entry part) entry ≡ part
part_is table part entry inside size =
    ap (take 256) (drop_at (take entry table) (part ++ drop (entry + 256) table) entry (length-take-le entry table inside))
    ∙ take_at part (drop (entry + 256) table) 256 size

-- the same entries in their place
pub same_part : (table : List ℕ) (entry : ℕ) → with_part table entry (part_at table entry) ≡ table
same_part table entry =
    ap (λ rest. take entry table ++ (take 256 (drop entry table) ++ rest)) (sym (drop-drop 256 entry table))
    ∙ (ap (λ rest. take entry table ++ rest) (take-append-drop 256 (drop entry table))
    ∙ take-append-drop entry table)

-- as many stand there
pub size_is : (table part : List ℕ) (entry : ℕ) → entry + 256 ≤ length table → length part ≡ 256
    → length (with_part table entry part) ≡ length table
size_is table part entry inside size =
    length-append (take entry table) (part ++ drop (entry + 256) table)
    ∙ (omega (arith, length-append part (drop (entry + 256) table), length-take-le entry table (omega arith), length-drop (entry + 256) table, size))

-- one of them
pub entry_is : (table part : List ℕ) (entry i : ℕ) → entry ≤ length table → i < length part
    → get_or (with_part table entry part) (entry + i) 0 ≡ get_or part i 0
entry_is table part entry i inside below =
    let n : length (take entry table) ≡ entry = length-take-le entry table inside in
    ap (λ m. get_or (with_part table entry part) (m + i) 0) (sym n)
    ∙ (get_or-append-add (take entry table) (part ++ drop (entry + 256) table) i 0
    ∙ get_or_append_left part (drop (entry + 256) table) 0 i below)

-- another one of them
pub entry_set : (table part : List ℕ) (entry i word : ℕ) → entry ≤ length table → i < length part
    → with_part table entry (set part i word) ≡ set (with_part table entry part) (entry + i) word
entry_set table part entry i word inside below =
    let n : length (take entry table) ≡ entry = length-take-le entry table inside in
    let at : entry + i - entry ≡ i = omega arith in
    sym (set-append_right (take entry table) (part ++ drop (entry + 256) table) entry (entry + i) word n (omega arith)
    ∙ ap (λ rest. take entry table ++ rest)
    (ap (λ j. set (part ++ drop (entry + 256) table) j word) at
    ∙ set-append_left part (drop (entry + 256) table) i word below))
