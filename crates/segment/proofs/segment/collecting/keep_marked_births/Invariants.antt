use Rattle.std.proofs.Common.{◌≡◌, ℕ, ◌<◌, ◌≤◌, false, cond, get_or, vec_len}
use Rattle.segment.proofs.segment.collecting.keep_marked_births.Given as goal

abbrev pub invariant-loop-k : goal.invariant-loop-k
invariant-loop-k l = record {
  long : vec_len l.births ≡ vec_len l.initial.births;
  done : (j : ℕ) → j < l.k → get_or l.births.items j 0 ≡ cond (get_or l.marks.items j false) (get_or l.initial.births.items j 0) 0;
  rest : (j : ℕ) → l.k ≤ j → get_or l.births.items j 0 ≡ get_or l.initial.births.items j 0;
}
