-- What holds of the source and of the output at the end of a run.
use Rattle.std.specs.Prelude.{[], ◌≡◌, ℕ, ◌-◌, ◌<◌, List, ◌++◌, length, take, Option, Some, None}
use Rattle.std.specs.Io.KnownBytes.{Consumes, Appends}
use Rattle.gc_io.specs.Outside.{AllFlushed, Rose}
use Rattle.trace_types.specs.declared.fault.Fault.{Fault}
use Rattle.trace_types.specs.declared.limits.Limits.{Limits}
use Rattle.trace_types.specs.Lines.{lines_of, whole_of}
use Rattle.replay.specs.Built.{run, run_lines}
use Rattle.replay.specs.Engine.{IsFront}

-- What a source tells and how often it failed, before a call and after it.
pub record Read : Type 0 where
  pub before : Option (List ℕ)
  pub after : Option (List ℕ)
  pub faults : ℕ
  pub faults_after : ℕ

-- The same of a sink.
pub record Wrote : Type 0 where
  pub before : Option (List ℕ)
  pub after : Option (List ℕ)
  pub flushed : Option ℕ
  pub flushed_after : Option ℕ
  pub faults : ℕ
  pub faults_after : ℕ

abbrev pub read_of : {S : Type 0} → (S → Option (List ℕ)) → (S → ℕ) → S → S → Read
read_of left faults old new = record { before = left old; after = left new; faults = faults old; faults_after = faults new }

abbrev pub wrote_of : {O : Type 0} → (O → Option (List ℕ)) → (O → Option ℕ) → (O → ℕ) → O → O → Wrote
wrote_of written flushed faults old new = record {
  before = written old;
  after = written new;
  flushed = flushed old;
  flushed_after = flushed new;
  faults = faults old;
  faults_after = faults new;
}

-- xs is a front of ys, and not all of it
abbrev pub IsProperFront : List ℕ → List ℕ → Type 0
IsProperFront xs ys = (n : ℕ) × (n < length ys) × (xs ≡ take n ys)

-- the status that is due by the run, before anything is written to `err`
pub data Due : Type 0 where
  done : Due
  refused : ℕ → Fault → Due
  read_fault : Due
  no_memory : Due

-- The bytes have been read to their end, and the run over them ends All.
pub record Done (limits : Limits) (bytes : List ℕ) (source : Read) (out : Wrote) : Type 0 where
  pub all : (run limits bytes).stop ≡ None
  pub nothing_left : source.after ≡ Some []
  pub text : Appends out.before out.after (run limits bytes).text
  pub flushed : AllFlushed out.flushed out.flushed_after out.after

-- The run ends at line n with the fault f.
pub record Refused (limits : Limits) (bytes : List ℕ) (n : ℕ) (f : Fault) (source : Read) (out : Wrote) : Type 0 where
  pub ends : (run limits bytes).stop ≡ Some (n, f)
  pub text : Appends out.before out.after (run limits bytes).text
  pub flushed : AllFlushed out.flushed out.flushed_after out.after

-- The run over the lines that were ended among the bytes taken ends All, and a read failed.
pub record ReadFailed (limits : Limits) (bytes : List ℕ) (source : Read) (out : Wrote) : Type 0 where
  pub rose : Rose source.faults source.faults_after
  pub taken : List ℕ
  pub consumed : Consumes (Some bytes) source.after taken
  pub all : (run limits (whole_of taken)).stop ≡ None
  pub text : Appends out.before out.after (run limits (whole_of taken)).text

-- A number of first lines were performed, none of them refused.
pub record RanOut (limits : Limits) (bytes : List ℕ) (source : Read) (out : Wrote) : Type 0 where
  pub first : List (List ℕ)
  pub others : List (List ℕ)
  pub lines : lines_of bytes ≡ first ++ others
  pub all : (run_lines limits first).stop ≡ None
  pub text : Appends out.before out.after (run_lines limits first).text

abbrev pub Row : Due → Limits → List ℕ → Read → Wrote → Type 0
Row done limits bytes source out = Done limits bytes source out
Row (refused n f) limits bytes source out = Refused limits bytes n f source out
Row read_fault limits bytes source out = ReadFailed limits bytes source out
Row no_memory limits bytes source out = RanOut limits bytes source out

-- without its last 4,096 bytes
abbrev pub early : List ℕ → List ℕ
early taken = take (length taken - 4096) taken

-- Whatever ended the run, the output has a front of the text of all the bytes, and at least the text of the whole lines
-- among the bytes taken but for the last 4,096.
pub record Progress (limits : Limits) (bytes : List ℕ) (source : Read) (out : Wrote) : Type 0 where
  pub taken : List ℕ
  pub consumed : Consumes (Some bytes) source.after taken
  pub text : List ℕ
  pub written : Appends out.before out.after text
  pub front : IsFront text (run limits bytes).text
  pub least : IsFront (run limits (whole_of (early taken))).text text
