use Rattle.owned_core.proofs.laws.phases_end.Goals as goal
use Rattle.owned_core.proofs.Ranks.{events_lower_rank, events_end, messages_are_bounded}
use Rattle.owned_core.proofs.Quiet.{quiet_is_idle_or_sends}

pub returns-clause-lower : goal.returns-clause-lower
returns-clause-lower c = events_lower_rank

pub returns-clause-end : goal.returns-clause-end
returns-clause-end c = events_end

pub returns-clause-messages : goal.returns-clause-messages
returns-clause-messages c = messages_are_bounded

pub returns-clause-quiet : goal.returns-clause-quiet
returns-clause-quiet c = quiet_is_idle_or_sends
