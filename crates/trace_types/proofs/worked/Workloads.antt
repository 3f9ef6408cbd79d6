use Rattle.std.proofs.Common.{refl}
use Rattle.std.specs.Fmt.{digits}
use Rattle.trace_types.specs.Rules.{least}
use Rattle.trace_types.specs.Kept.{accessible, accessible_or_served, waited_for, kept}
use Rattle.trace_types.specs.Collections.{collect}
use Rattle.trace_types.specs.Printing.{print_text, census_text}
use Rattle.trace_types.specs.Finder.{path, reach}
use Rattle.trace_types.specs.Steps.{step}
use Rattle.trace_types.specs.Reading.{read}
use Rattle.trace_types.specs.Lines.{lines_of}
use Rattle.trace_types.specs.Run.{run_from}
use Rattle.trace_types.specs.Runs.{run}
use Rattle.trace_types.specs.Rows.{Hold}
use Rattle.trace_types.specs.worked.Workloads.{workload_rows, DrawsFirst}
use Rattle.trace_types.specs.Workloads.{generated}

pub hold : Hold workload_rows
unfolding generated digits least accessible accessible_or_served waited_for kept collect print_text census_text path reach step read lines_of run_from run
hold = refl

pub draws_first : DrawsFirst
unfolding digits
draws_first = refl
