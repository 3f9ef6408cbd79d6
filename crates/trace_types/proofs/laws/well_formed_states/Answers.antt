use Rattle.trace_types.specs.WellFormed.{greatest_line}
use Rattle.trace_types.proofs.Collecting.{collect_well_formed}
use Rattle.trace_types.proofs.Steadiness.{step_well_formed}
use Rattle.trace_types.proofs.Opening.{opening_well_formed, step_leaves_next}
use Rattle.trace_types.proofs.ReadingFits.{read_fits}
use Rattle.trace_types.proofs.Lasting.{run_well_formed}
use Rattle.trace_types.proofs.Counting.{census_adds_up}
use Rattle.trace_types.proofs.laws.well_formed_states.Goals as goal

pub returns-clause-opening : goal.returns-clause-opening
returns-clause-opening c oldest least most = opening_well_formed oldest least most

pub returns-clause-collect : goal.returns-clause-collect
returns-clause-collect c s a well allowed = collect_well_formed greatest_line s a allowed well

pub returns-clause-step : goal.returns-clause-step
returns-clause-step c s s' line command text well next fits e = step_well_formed greatest_line s s' line command text well next next.bounded fits e

pub returns-clause-next : goal.returns-clause-next
returns-clause-next c s s' line command text well next fits e = step_leaves_next s s' line command text well next fits e

pub returns-clause-read : goal.returns-clause-read
returns-clause-read c line command e = read_fits line command e

pub returns-clause-run : goal.returns-clause-run
returns-clause-run c limits bytes least most lines = run_well_formed limits bytes least most lines

pub returns-clause-census : goal.returns-clause-census
returns-clause-census c s well = census_adds_up s well
