-- What was looked up of the pair that is swept next.
use Rattle.std.specs.Prelude.{◌≡◌, ℕ, Some}
use Rattle.gc_words.specs.Layout.{segment_of, thread_of}
use Rattle.directory.specs.declared.table.FromSegment.{FromSegment}
use Rattle.directory.specs.Directories.{DirectoryView}
use Rattle.directory.specs.Tables.{entry_at}

-- the directory has this from-segment for the thread and the segment of x
abbrev pub HasEntry : DirectoryView → ℕ → FromSegment → Type 0
HasEntry d x from = entry_at d.tables (thread_of x) (segment_of x) ≡ Some from
