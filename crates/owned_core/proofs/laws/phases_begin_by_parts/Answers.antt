use Rattle.owned_core.proofs.laws.phases_begin_by_parts.Goals as goal
use Rattle.owned_core.proofs.PhaseParts.{start_by_parts}
use Rattle.owned_core.proofs.PhaseParts.{change_by_parts}

pub returns-clause-start : goal.returns-clause-start
returns-clause-start c = start_by_parts

pub returns-clause-next : goal.returns-clause-next
returns-clause-next c = change_by_parts
