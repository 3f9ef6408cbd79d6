use Rattle.owned_core.proofs.laws.phases_begin_with_invariant.Goals as goal
use Rattle.owned_core.proofs.Resting.{start_holds}
use Rattle.owned_core.proofs.Resting.{phase_holds}
use Rattle.owned_core.proofs.Resting.{more_rules}
use Rattle.owned_core.proofs.Resting.{given_keeps}

pub returns-clause-start : goal.returns-clause-start
returns-clause-start c = start_holds

pub returns-clause-next : goal.returns-clause-next
returns-clause-next c = phase_holds

pub returns-clause-more : goal.returns-clause-more
returns-clause-more c = more_rules

pub returns-clause-given : goal.returns-clause-given
returns-clause-given c = given_keeps
