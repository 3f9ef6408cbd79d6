use Rattle.std.proofs.Common.{◌+◌, ◌-◌}
use Rattle.replay.proofs.Performing.{Performing}
use Rattle.replay.proofs.lines.perform_lines.Given as goal

abbrev pub invariant-lines : goal.invariant-lines
invariant-lines g l = Performing l.limits
    (record { before = g.S.Source.left l.fn.source; after = g.S.Source.left l.source; faults = g.S.Source.faults l.fn.source; faults_after = g.S.Source.faults l.source })
    (record {
      before = g.O.Sink.written l.fn.out;
      after = g.O.Sink.written l.out;
      flushed = g.O.Sink.flushed l.fn.out;
      flushed_after = g.O.Sink.flushed l.out;
      faults = g.O.Sink.faults l.fn.out;
      faults_after = g.O.Sink.faults l.out;
    })
    l.reader l.engine l.number

abbrev pub decreases-lines : goal.decreases-lines
decreases-lines g l = l.limits.max_lines + 2 - l.number
