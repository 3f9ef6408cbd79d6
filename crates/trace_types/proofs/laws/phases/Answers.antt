use Rattle.trace_types.proofs.Meeting.{accessible_is_least}
use Rattle.trace_types.proofs.Phases.{phases_grow}
use Rattle.trace_types.proofs.Serving.{phases_are_least}
use Rattle.trace_types.proofs.laws.phases.Goals as goal

pub returns-clause-accessible : goal.returns-clause-accessible
returns-clause-accessible c s cg well = accessible_is_least s cg well

pub returns-clause-grow : goal.returns-clause-grow
returns-clause-grow c s cg = phases_grow s cg

pub returns-clause-least : goal.returns-clause-least
returns-clause-least c s cg well = phases_are_least s cg well
