use Rattle.std.proofs.lemmas.Option.{slice_get_within}
use Rattle.weak_eph.proofs.Halfway.{with_state-set}
use Rattle.weak_eph.proofs.memory.MemFieldsWeakFields.break_slot.Goals as goal

pub returns-clause-slots : goal.returns-clause-slots
returns-clause-slots c = with_state-set _ _ c.index_mut.result.now _ (slice_get_within _ _ _ c.requires.1) c.index_mut.ensures.value
