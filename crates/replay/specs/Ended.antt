-- What the lines of a source leave, before the output is flushed.
use Rattle.std.specs.Prelude.{[], ◌≡◌, ℕ, List, Some, None}
use Rattle.std.specs.Io.KnownBytes.{Appends}
use Rattle.gc_io.specs.Outside.{Rose}
use Rattle.trace_types.specs.declared.limits.Limits.{Limits}
use Rattle.heap_store.specs.Stands.{Stands}
use Rattle.replay.specs.Built.{run}
use Rattle.replay.specs.Rows.{Read, Wrote, ReadFailed, RanOut, Row, done, refused, read_fault, no_memory}
use Rattle.replay.specs.declared.lines.Ending.{Ending}
use Rattle.replay.specs.declared.lines.Ending.TheVariants.{All, At, ReadFault, WriteFault, NoMemory}

abbrev pub Ended : Ending → Limits → List ℕ → Read → Wrote → Type 0
Ended (All heap) limits bytes source out =
    ((run limits bytes).stop ≡ None) × (source.after ≡ Some []) × Appends out.before out.after (run limits bytes).text × Stands heap (run limits bytes).state
Ended (At n f heap) limits bytes source out =
    ((run limits bytes).stop ≡ Some (n, f)) × Appends out.before out.after (run limits bytes).text × Stands heap (run limits bytes).state
Ended ReadFault limits bytes source out = ReadFailed limits bytes source out
Ended WriteFault limits bytes source out = Unit {0}
Ended NoMemory limits bytes source out = RanOut limits bytes source out

-- A fault of the outside is told only where its count rose.
abbrev pub HasRisen : Ending → Read → Wrote → Type 0
HasRisen (All heap) source out = Unit {0}
HasRisen (At n f heap) source out = Unit {0}
HasRisen ReadFault source out = Rose source.faults source.faults_after
HasRisen WriteFault source out = Rose out.faults out.faults_after
HasRisen NoMemory source out = Unit {0}

-- the same with the output flushed
abbrev pub Closed : Ending → Limits → List ℕ → Read → Wrote → Type 0
Closed (All heap) limits bytes source out = Row done limits bytes source out × Stands heap (run limits bytes).state
Closed (At n f heap) limits bytes source out = Row (refused n f) limits bytes source out × Stands heap (run limits bytes).state
Closed ReadFault limits bytes source out = Row read_fault limits bytes source out
Closed WriteFault limits bytes source out = Unit {0}
Closed NoMemory limits bytes source out = Row no_memory limits bytes source out
