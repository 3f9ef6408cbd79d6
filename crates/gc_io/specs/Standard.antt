-- What an adapter over a reader or a writer of std is seen as.
use Rattle.std.specs.Prelude.{ℕ, List, Option}

pub record ReaderState : Type 0 where
  -- the bytes that the reader has left, where it tells them
  pub left : Option (List ℕ)
  -- how often it failed, counted up to 2^64 - 1
  pub faults : ℕ

pub record WriterState : Type 0 where
  -- the bytes that the writer holds, where it tells them
  pub written : Option (List ℕ)
  -- how often it failed, counted up to 2^64 - 1
  pub faults : ℕ
