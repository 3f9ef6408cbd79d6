use Rattle.owned_core.proofs.laws.phases_forward.Goals as goal
use Rattle.owned_core.proofs.Serving.{phases_forward}

pub returns : goal.returns
returns c = phases_forward
