use Rattle.std.specs.Prelude.{◌≡◌, ℕ, ◌+◌, ◌*◌, ◌/◌, ◌%◌, ◌<◌}
use Rattle.gc_words.specs.declared.address.TheConstants.{THREADS, SEGMENTS, OFFSETS}

-- parts that an object's place can have: each in range, and the offset even
pub record HasParts (thread segment offset : ℕ) : Type 0 where
  pub thread_in : thread < THREADS
  pub segment_in : segment < SEGMENTS
  pub offset_in : offset < OFFSETS
  pub even : offset % 2 ≡ 0

-- the address number: the thread, then the segment, then the offset in the lowest places
unfoldable pub address_of : ℕ → ℕ → ℕ → ℕ
address_of thread segment offset = (thread * SEGMENTS + segment) * OFFSETS + offset

-- the parts of an address number
unfoldable pub thread_of : ℕ → ℕ
thread_of a = a / OFFSETS / SEGMENTS

unfoldable pub segment_of : ℕ → ℕ
segment_of a = a / OFFSETS % SEGMENTS

unfoldable pub offset_of : ℕ → ℕ
offset_of a = a % OFFSETS

-- the number of some address: 61 bits, and even
abbrev pub IsAddress : ℕ → Type 0
IsAddress a = (a < THREADS * SEGMENTS * OFFSETS) × (a % 2 ≡ 0)

-- the parts of this address number are these
pub record IsMadeOf (a thread segment offset : ℕ) : Type 0 where
  pub its_thread : thread_of a ≡ thread
  pub its_segment : segment_of a ≡ segment
  pub its_offset : offset_of a ≡ offset
