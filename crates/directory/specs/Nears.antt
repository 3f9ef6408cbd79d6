-- The from-segment that was looked at last.
use Rattle.std.specs.Prelude.{◌≡◌, ◌<◌, Some}
use Rattle.territory.specs.Finishing.{target_of}
use Rattle.directory.specs.declared.near.Near.{Near}
use Rattle.directory.specs.Tables.{entry_at}
use Rattle.directory.specs.Directories.{DirectoryView}

-- it is no thread's, or the from-segment of its thread and number in the directory, with its target
abbrev pub IsNear : DirectoryView → Near → Type 0
IsNear d near =
    near.thread < 64
    → (entry_at d.tables near.thread near.segment ≡ Some near.from)
    × (near.target ≡ target_of d.targets near.from.generation)
