use Rattle.trace_types.proofs.Generating.{workload_lines}
use Rattle.trace_types.proofs.Accepting.{workload_accepted}
use Rattle.trace_types.proofs.laws.workloads.Goals as goal

pub returns-clause-lines : goal.returns-clause-lines
returns-clause-lines c number count = workload_lines number count

pub returns-clause-accepted : goal.returns-clause-accepted
returns-clause-accepted c limits number count least most lines room = workload_accepted limits number count least most lines room
