use Rattle.std.proofs.Common.{◌≡◌, ℕ, ◌<◌, false, cond, get_or, List, Bool, length, sym, ◌∙◌, arith}
use Rattle.std.proofs.lemmas.List.{ext_get_or}
use Rattle.segment.specs.Segments.{marked_births}
use Rattle.segment.proofs.Collected.{length-marked_births, get_or-marked_births}
use Rattle.segment.proofs.segment.collecting.keep_marked_births.Goals as goal

all_kept : (new old : List ℕ) (marks : List Bool) → length new ≡ length old → length marks ≡ length old → ((k : ℕ) → k < length old → get_or new k 0 ≡ cond (get_or marks k false) (get_or old k 0) 0) → new ≡ marked_births old marks
all_kept new old marks long same each =
    ext_get_or 0 new (marked_births old marks) (long ∙ sym (length-marked_births old marks)) (λ k within. each k (omega arith) ∙ sym (get_or-marked_births old marks k same))

pub returns : goal.returns
returns c = all_kept _ _ _ (omega arith) (omega arith) (λ k within. c.loop-k.invariant.done k (omega arith))
