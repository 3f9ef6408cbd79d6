-- What contracts see of a registry.
use Rattle.std.specs.Prelude.{ℕ, ◌+◌, List, [], map, replicate, slice_index_or, Option, Some, None}
use Rattle.std.specs.List.{range_with_len}
use Rattle.gc_words.specs.declared.value.Value.TheVariants as word
use Rattle.gc_words.specs.declared.registration.Registration.{Registration}
use Rattle.seg_chain.specs.Lists.{chain_of}

-- generations 0 to 8
abbrev pub level_count : ℕ
level_count = 9

-- no entry is asked for that isn't there
abbrev pub no_registration : Registration
no_registration = record { line = 0; guardian = 0; object = word.Nil; representative = word.Nil }

abbrev pub entry_at : List Registration → ℕ → Registration
entry_at entries index = slice_index_or entries index no_registration

-- the registrations of each level: chain 1 + l has the indices of level l
abbrev pub levels : List Registration → Option (List (List ℕ)) → List (List Registration)
levels entries None = replicate level_count []
levels entries (Some lists) =
    map (λ level. map (entry_at entries) (chain_of lists (1 + level))) (range_with_len 0 level_count)
