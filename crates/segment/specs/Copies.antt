-- Copies of objects: all words of one at once.
use Rattle.std.specs.Prelude.{ℕ, ◌+◌, ◌*◌, ◌/◌, List, ◌++◌, length, slice_index, slice_set, take, drop}
use Rattle.segment.specs.Segments.{Segment, size_at, opened}

-- all words of start k, its header among them
abbrev pub run_at : Segment → ℕ → List ℕ
run_at p k = take (size_at p k) (drop (2 * k) p.words)

-- words with others in their place from `at` on
abbrev pub with_words : List ℕ → ℕ → List ℕ → List ℕ
with_words words at run = take at words ++ (run ++ drop (at + length run) words)

-- with a new object at the top that has these words and this birth
abbrev pub with_run : Segment → List ℕ → ℕ → Segment
with_run p run birth = record p {
  top = p.top + length run;
  words = with_words p.words p.top run;
  births = slice_set p.births (p.top / 2) birth;
}

-- with a copy of start k of segment q at the top
abbrev pub with_copy : Segment → Segment → ℕ → Segment
with_copy p q k = with_run p (run_at q k) (slice_index q.births k)

-- a segment of just its size that has a copy of start k of segment q alone
abbrev pub opened_copy : Segment → ℕ → ℕ → Segment
opened_copy q k generation = with_copy (opened q.space generation (size_at q k) 1) q k
