use Rattle.trace_types.proofs.worked.Weak
use Rattle.trace_types.proofs.worked.Guardians
use Rattle.trace_types.proofs.worked.Ordered
use Rattle.trace_types.proofs.worked.Moving
use Rattle.trace_types.proofs.worked.Printing
use Rattle.trace_types.proofs.worked.Tables
use Rattle.trace_types.proofs.worked.Refusals
use Rattle.trace_types.proofs.worked.Forms
use Rattle.trace_types.proofs.worked.Workloads
use Rattle.trace_types.proofs.laws.worked_rows.Goals as goal

pub returns-clause-weak : goal.returns-clause-weak
returns-clause-weak c = Weak.hold

pub returns-clause-guardians : goal.returns-clause-guardians
returns-clause-guardians c = Guardians.hold

pub returns-clause-ordered : goal.returns-clause-ordered
returns-clause-ordered c = Ordered.hold

pub returns-clause-moving : goal.returns-clause-moving
returns-clause-moving c = Moving.hold

pub returns-clause-printing : goal.returns-clause-printing
returns-clause-printing c = Printing.hold

pub returns-clause-tables : goal.returns-clause-tables
returns-clause-tables c = Tables.hold

pub returns-clause-refusals : goal.returns-clause-refusals
returns-clause-refusals c = Refusals.hold

pub returns-clause-forms : goal.returns-clause-forms
returns-clause-forms c = Forms.hold

pub returns-clause-workloads : goal.returns-clause-workloads
returns-clause-workloads c = Workloads.hold

pub returns-clause-drawn : goal.returns-clause-drawn
returns-clause-drawn c = Workloads.draws_first
