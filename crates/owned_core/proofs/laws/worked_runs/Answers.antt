use Rattle.owned_core.proofs.laws.worked_runs.Goals as goal
use Rattle.owned_core.proofs.Runs.{ephemeron_is_kept, ephemeron_is_broken, own_slot_is_asked, own_key_watches_nothing}

pub returns-clause-kept : goal.returns-clause-kept
returns-clause-kept c = ephemeron_is_kept

pub returns-clause-broken : goal.returns-clause-broken
returns-clause-broken c = ephemeron_is_broken

pub returns-clause-own_slot : goal.returns-clause-own_slot
returns-clause-own_slot c = own_slot_is_asked

pub returns-clause-own_key : goal.returns-clause-own_key
returns-clause-own_key c = own_key_watches_nothing
