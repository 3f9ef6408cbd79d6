-- What a source and a sink in memory are seen as.
use Rattle.std.specs.Prelude.{ℕ, List}

pub record SourceState : Type 0 where
  -- the bytes that it has not given
  pub left : List ℕ
  -- how many bytes a call gives at most
  pub piece : ℕ
  -- the numbers of the calls that fail, counted from 1
  pub fails : List ℕ
  -- how many calls there were, counted up to 2^64 - 1
  pub calls : ℕ
  -- how many of them failed, counted up to 2^64 - 1
  pub faults : ℕ

pub record SinkState : Type 0 where
  -- the bytes that were written
  pub written : List ℕ
  -- how many of them are flushed
  pub flushed : ℕ
  -- how many bytes it takes in all
  pub room : ℕ
  -- how many bytes a write takes at most
  pub piece : ℕ
  -- the numbers of the calls that fail, writes and flushes counted together from 1
  pub fails : List ℕ
  -- how many calls there were, counted up to 2^64 - 1
  pub calls : ℕ
  -- how many of them failed, counted up to 2^64 - 1
  pub faults : ℕ
