-- What the calls of a source and of a sink do to the bytes that they tell and to their counts of faults.
use Rattle.std.specs.Prelude.{◌≡◌, ℕ, ◌+◌, ◌<◌, ◌≤◌, min, List, length, take, Option, Some, Result, Ok, Err, MatchResult, IfSome, OnErr}
use Rattle.std.specs.Io.KnownBytes.{Consumes, Keeps, Appends, IsAtEnd}
use Rattle.gc_io.specs.declared.traits.Failed.{Failed}

-- One more, but a count stays at 2^64 - 1.
abbrev pub count_up : ℕ → ℕ
count_up n = min (n + 1) 18446744073709551615

-- A count rose in a call, or stood at its last value when the call began.
abbrev pub Rose : ℕ → ℕ → Type 0
Rose before now = count_up before ≤ now

-- A count never falls, and a call fails only where it rose.
pub record HasCause {T : Type 0} (before now : ℕ) (result : Result T Failed) : Type 0 where
  pub later : before ≤ now
  pub failed : OnErr result (Rose before now)

-- a count of faults that counts each failed call once, and no other
abbrev pub count_faults : {T : Type 0} → ℕ → Result T Failed → ℕ
count_faults before (Ok _) = before
count_faults before (Err _) = count_up before

-- A read took the next n bytes into the front of the buffer, none only at the end; a failed one took nothing.
abbrev pub Reads : Option (List ℕ) → Option (List ℕ) → Result ℕ Failed → List ℕ → Type 0
Reads old new result into = MatchResult result
    (λ n. (n ≤ length into) × Consumes old new (take n into) × (n ≡ 0 → IsAtEnd new))
    (λ _. Keeps old new)

-- A write appended the first n bytes, at least one; a failed one appended nothing.
abbrev pub Writes : Option (List ℕ) → Option (List ℕ) → Result ℕ Failed → List ℕ → Type 0
Writes old new result piece = MatchResult result
    (λ n. (0 < n) × (n ≤ length piece) × Appends old new (take n piece))
    (λ _. Keeps old new)

-- How many bytes are flushed stays, where it is told.
abbrev pub StaysFlushed : Option ℕ → Option ℕ → Type 0
StaysFlushed old new = IfSome old (λ n. new ≡ Some n)

-- All bytes are flushed, where both are told.
abbrev pub AllFlushed : Option ℕ → Option ℕ → Option (List ℕ) → Type 0
AllFlushed old new written = IfSome old (λ _. IfSome written (λ bytes. new ≡ Some (length bytes)))
