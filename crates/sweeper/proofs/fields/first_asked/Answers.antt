use Rattle.std.proofs.Common.{slice_index, inl, inr, ap, ◌∙◌, arith}
use Rattle.std.proofs.lemmas.Bool.{cases_lt}
use Rattle.sweeper.specs.Sweepers.{asked_by}
use Rattle.sweeper.proofs.Fielding.{passed_over}
use Rattle.sweeper.proofs.fields.first_asked.Goals as goal

pub loop-index-preserved-in_default : goal.loop-index-preserved-in_default
loop-index-preserved-in_default c = record {
  none = λ i low high. elim (cases_lt i c.loop-index.index) [
    | inl below ↦ c.loop-index.invariant.none i low below
    | inr here ↦
        ap (λ k. asked_by c.args.directory.now (slice_index c.args.words.now k)) (omega (arith, high, here))
        ∙ passed_over c.args.directory.now c.reach-reach.result _ c.reach-reach.ensures c.in_default.ensures.none
  ];
  near = c.loop-index.invariant.near;
}
