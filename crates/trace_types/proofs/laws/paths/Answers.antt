use Rattle.trace_types.proofs.Walking.{path_is_first}
use Rattle.trace_types.proofs.Reaching.{reach_is_least}
use Rattle.trace_types.proofs.laws.paths.Goals as goal

pub returns-clause-path : goal.returns-clause-path
returns-clause-path c graph a b o found = path_is_first graph a b o found

pub returns-clause-reach : goal.returns-clause-reach
returns-clause-reach c s a well = reach_is_least s a well
