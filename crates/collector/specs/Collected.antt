-- What a collection of a heap does.
use Rattle.std.specs.Prelude.{◌≡◌, ℕ, ◌+◌, ◌<◌, ◌||◌, Bool, false, List, length, take, sum_by, is_some, slice_index, IsTrue, Some, Result, Ok, Err}
use Rattle.std.specs.FinMap.{find}
use Rattle.std.specs.Ordering.{nat_cmp}
use Rattle.gc_words.specs.declared.registration.Registration.{Registration}
use Rattle.trace_types.specs.declared.operand.CollectArgs.{CollectArgs}
use Rattle.trace_types.specs.declared.operand.CollectArgs.TheVariants.{Explicit, Plain}
use Rattle.trace_types.specs.Values.{is_immobile}
use Rattle.trace_types.specs.States.{State}
use Rattle.trace_types.specs.Collections.{Arguments, plain_arguments}
use Rattle.segment.specs.Segments.{Start}
use Rattle.heap_store.specs.declared.error.HeapError.{HeapError}
use Rattle.heap_store.specs.Starts.{is_cell}
use Rattle.heap_store.specs.HeapView.{HeapView, starts_of}
use Rattle.heap_store.specs.Stands.{Stands}
use Rattle.collect_model.specs.Counts.{copied_by}
use Rattle.collector.specs.declared.report.Report.{Report}

-- the arguments of a collection, where a plain one has this number
abbrev pub arguments_in : ℕ → ℕ → CollectArgs → Arguments
arguments_in oldest number Plain = plain_arguments oldest number
arguments_in oldest number (Explicit cg least greatest) = record { cg = cg; least = least; greatest = greatest }

-- how many plain collections there were, with one of these arguments: a plain one counts itself
abbrev pub counted_in : CollectArgs → ℕ → ℕ
counted_in Plain before = before + 1
counted_in (Explicit cg least greatest) before = before

-- the answer without its report
abbrev pub without_report : Result Report HeapError → Result (Unit {0}) HeapError
without_report (Ok report) = Ok tt
without_report (Err e) = Err e

-- a start that no collection moves: its kind is immobile, or it is locked
abbrev pub is_fixed : HeapView → ℕ → Start → Bool
is_fixed h a x = is_immobile x.kind || is_some (find nat_cmp a h.locks)

-- an object that may not be moved has its old place, where it is kept
abbrev pub KeepsFixed : HeapView → HeapView → Type 0
KeepsFixed old new =
    (a b : ℕ) (x y : Start) → starts_of old a ≡ Some x → is_cell x.kind ≡ false → IsTrue (is_fixed old a x)
    → starts_of new b ≡ Some y → y.birth ≡ x.birth → b ≡ a

-- The report has a number for each sweeper: how many objects and cells it copied.
pub record AreCounted (old : HeapView) (args : CollectArgs) (n : ℕ) (counts : List ℕ) : Type 0 where
  pub count : length counts ≡ n
  pub each : (s : State) (k : ℕ) → Stands old s → k < n
      → slice_index counts k ≡ copied_by s (arguments_in s.oldest (counted_in args s.collects) args).cg n k

-- how many registrations there are of the generations that are collected
abbrev pub registrations_up_to : ℕ → List (List Registration) → ℕ
registrations_up_to cg registry = sum_by length (take (cg + 1) registry)
