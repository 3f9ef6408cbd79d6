use Rattle.trace_types.proofs.Least.{least_meets, least_below, least_among, least_same, least_phase}
use Rattle.trace_types.proofs.Renaming.{least-renamed}
use Rattle.trace_types.proofs.laws.least_sets.Goals as goal

pub returns-clause-least : goal.returns-clause-least
returns-clause-least c rules = record { meets_each = least_meets rules; below_each = least_below rules }

pub returns-clause-grows : goal.returns-clause-grows
returns-clause-grows c rules others among = least_among rules others among

pub returns-clause-renamed : goal.returns-clause-renamed
returns-clause-renamed c name rules apart = least-renamed name rules apart

pub returns-clause-of_a_set : goal.returns-clause-of_a_set
returns-clause-of_a_set c rules others one other x = least_same rules others one other x

pub returns-clause-goes_on : goal.returns-clause-goes_on
returns-clause-goes_on c rules more x = least_phase rules more x
