use Rattle.owned_core.proofs.laws.slots_stand_once.Goals as goal
use Rattle.owned_core.proofs.Once.{slots_once}
use Rattle.owned_core.proofs.Once.{unswept_absent}
use Rattle.owned_core.proofs.Once.{unmet_absent}

pub returns-clause-once : goal.returns-clause-once
returns-clause-once c = slots_once

pub returns-clause-unswept : goal.returns-clause-unswept
returns-clause-unswept c = unswept_absent

pub returns-clause-unmet : goal.returns-clause-unmet
returns-clause-unmet c = unmet_absent
