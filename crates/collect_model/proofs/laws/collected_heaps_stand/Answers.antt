use Rattle.collect_model.proofs.KeptIsLeast.{kept_is_least}
use Rattle.collect_model.proofs.Collected.{collected_stands, copies_are_counted}
use Rattle.collect_model.proofs.laws.collected_heaps_stand.Goals as goal

pub returns-clause-kept : goal.returns-clause-kept
returns-clause-kept c = kept_is_least

pub returns-clause-stands : goal.returns-clause-stands
returns-clause-stands c = collected_stands

pub returns-clause-counts : goal.returns-clause-counts
returns-clause-counts c = copies_are_counted
