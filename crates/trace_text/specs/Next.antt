-- What the next line is.
use Rattle.std.specs.Prelude.{◌≡◌, ◌≢◌, ◌⊎◌, ℕ, ◌<◌, ◌≤◌, List, [], ◌∷◌, ◌++◌, length, true, false, Option, Some, Result, Ok, Err}
use Rattle.std.specs.Io.KnownBytes.{Consumes}
use Rattle.gc_io.specs.declared.traits.Failed.{Failed}
use Rattle.trace_types.specs.Lines.{IsPlain, first_of, lines_of, head_line}
use Rattle.trace_text.specs.Reader.{Reader, HoldsLess}
use Rattle.trace_text.specs.declared.reader.Next.{Next}
use Rattle.trace_text.specs.declared.reader.Next.TheVariants.{Line, TooLong, End}

-- Of these bytes a line was given that a newline ends, all within 4,096 bytes with what is held.
pub record GivesEnded (bytes : List ℕ) (new : Reader) : Type 0 where
  pub bytes_are : bytes ≡ new.line ++ 10 ∷ new.held
  pub window : length (new.line ++ 10 ∷ new.held) ≤ 4096

-- All of these bytes were given as the last line of an ended source.
pub record GivesLast (bytes : List ℕ) (new : Reader) : Type 0 where
  pub bytes_are : bytes ≡ new.line
  pub some : new.line ≢ []
  pub nothing : new.held ≡ []
  pub ended : new.ended ≡ true

-- A line of at most 1,024 bytes was given.
pub record GivesLine (bytes : List ℕ) (new : Reader) : Type 0 where
  pub plain : IsPlain new.line
  pub short : length new.line ≤ 1024
  pub either : GivesEnded bytes new ⊎ GivesLast bytes new

-- More than 1,024 bytes stand before the next newline, and all are held.
pub record GivesTooLong (bytes : List ℕ) (new : Reader) : Type 0 where
  pub held : bytes ≡ new.held
  pub long : 1024 < length (first_of new.held)
  pub line : new.line ≡ []

-- The source has ended, and no byte is held.
pub record GivesEnd (bytes : List ℕ) (new : Reader) : Type 0 where
  pub none : bytes ≡ []
  pub held : new.held ≡ []
  pub line : new.line ≡ []
  pub ended : new.ended ≡ true

-- No byte is lost, and what is held is less than a line of a source that has not ended.
pub record KeepsAll (bytes : List ℕ) (new : Reader) : Type 0 where
  pub held : bytes ≡ new.held
  pub plain : IsPlain new.held
  pub short : length new.held ≤ 1024
  pub line : new.line ≡ []
  pub going : new.ended ≡ false

-- what each answer says of the bytes that were held and those that were taken
abbrev pub Gives : Next → List ℕ → Reader → Type 0
Gives Line bytes new = GivesLine bytes new
Gives TooLong bytes new = GivesTooLong bytes new
Gives End bytes new = GivesEnd bytes new

abbrev pub Answers : Result Next Failed → List ℕ → Reader → Type 0
Answers (Ok next) bytes new = Gives next bytes new
Answers (Err _) bytes new = KeepsAll bytes new

-- Bytes were taken, only where less than a line was held, and the answer is of what was held and these.
pub record Nexts (before after : Option (List ℕ)) (result : Result Next Failed) (old new : Reader) : Type 0 where
  pub taken : List ℕ
  pub consumed : Consumes before after taken
  pub asked : (taken ≡ []) ⊎ HoldsLess old
  pub answer : Answers result (old.held ++ taken) new

-- What each answer says of the lines of all the bytes that were held or left: their first line was given, is too long,
-- or isn't there; a failed read leaves them as they were.
abbrev pub GivesLines : Result Next Failed → List ℕ → Reader → Option (List ℕ) → Type 0
GivesLines (Ok Line) bytes new after =
    (rest : List ℕ) × (after ≡ Some rest) × (lines_of bytes ≡ new.line ∷ lines_of (new.held ++ rest)) × (length new.line ≤ 1024)
GivesLines (Ok TooLong) bytes new after = 1024 < length (head_line (lines_of bytes))
GivesLines (Ok End) bytes new after = lines_of bytes ≡ []
GivesLines (Err _) bytes new after = (rest : List ℕ) × (after ≡ Some rest) × (lines_of bytes ≡ lines_of (new.held ++ rest))
