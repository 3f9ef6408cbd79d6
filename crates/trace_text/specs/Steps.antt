-- What the steps of a reader do: a look at what is held, and a read behind it.
use Rattle.std.specs.Prelude.{◌≡◌, ◌⊎◌, ℕ, ◌+◌, ◌<◌, ◌≤◌, List, [], ◌++◌, length, take, true, Option, Some, None}
use Rattle.std.specs.Io.KnownBytes.{Consumes, IsAtEnd}
use Rattle.trace_text.specs.Reader.{Reader}
use Rattle.trace_text.specs.Next.{Gives, KeepsAll}
use Rattle.trace_text.specs.declared.reader.Next.{Next}

-- What is held says, without a read, what comes next, if it does.
abbrev pub Splits : Option Next → List ℕ → Reader → Type 0
Splits (Some next) bytes new = Gives next bytes new
Splits None bytes new = KeepsAll bytes new

-- The buffer begins with the held bytes and n more, which the source gave, none only at its end.
pub record ReadsBehind (before after : Option (List ℕ)) (held : List ℕ) (count n : ℕ) (buffer : List ℕ) : Type 0 where
  pub taken : List ℕ
  pub begins : take (count + n) buffer ≡ held ++ taken
  pub size : length taken ≡ n
  pub fits : count + n ≤ length buffer
  pub consumed : Consumes before after taken
  pub at_end : n ≡ 0 → IsAtEnd after

-- More bytes were taken, or the source has ended.
pub record Fills (before after : Option (List ℕ)) (old new : Reader) : Type 0 where
  pub taken : List ℕ
  pub consumed : Consumes before after taken
  pub held : new.held ≡ old.held ++ taken
  pub line : new.line ≡ []
  pub either : ((taken ≡ []) × (new.ended ≡ true) × IsAtEnd after) ⊎ ((0 < length taken) × (new.ended ≡ old.ended))
