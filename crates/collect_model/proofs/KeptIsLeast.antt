-- What the rules reach over addresses is what is kept by births.
use Rattle.std.proofs.Common.{ap, subst, IsTrue}
use Rattle.trace_types.specs.Kept.{kept}
use Rattle.trace_types.specs.Rules.{has, least}
use Rattle.owned_core.proofs.Resting.{same_tests}
use Rattle.owned_core.specs.Settings.{rules_of}
use Rattle.heap_store.specs.Starts.{birth_of}
use Rattle.collect_model.specs.Laws.{KeptIsLeast}
use Rattle.collect_model.proofs.Reaching.{kept_reached}
use Rattle.collect_model.proofs.Keeping.{reached_kept}

pub kept_is_least : KeptIsLeast
kept_is_least h s targets n w stands plain setting p x is =
    same_tests (has (kept s targets.cg) x.birth) (has (least (rules_of w)) p)
    (kept_reached h s targets n w stands plain setting p x is)
    (λ there. subst (λ b. IsTrue (has (kept s targets.cg) b)) (ap birth_of is)
    (reached_kept h s targets n w stands plain setting p there))
