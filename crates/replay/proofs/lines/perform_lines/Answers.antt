use Rattle.std.proofs.Common.{◌≡◌, ◌++◌, sym, subst, ◌∙◌, List, ℕ, Ok, Err, take}
use Rattle.std.specs.Io.KnownBytes.{Appends}
use Rattle.trace_text.specs.Next.{Gives}
use Rattle.trace_text.specs.declared.reader.Next.{Next}
use Rattle.heap_store.specs.HeapView.{HeapView}
use Rattle.heap_store.specs.Stands.{Stands}
use Rattle.heap_store.specs.declared.error.HeapError.{HeapError}
use Rattle.replay.specs.Built.{line_turn}
use Rattle.replay.specs.Engine.{Turns}
use Rattle.replay.proofs.Told.{flushed_twice, rose_later}
use Rattle.replay.proofs.Performing.{end_rows, long_rows, failed_rows, fault_rows, memory_rows, write_rows, running_on, start_rows, start_running}
use Rattle.replay.proofs.lines.perform_lines.Goals as goal

pub returns-in-Err-clause-ended : goal.returns-in-Err-clause-ended
returns-in-Err-clause-ended g c = λ bytes e. (start_rows c.args.limits.now _ _ _ _ _ bytes e).0

pub returns-in-Err-clause-progress : goal.returns-in-Err-clause-progress
returns-in-Err-clause-progress g c = λ bytes e. (start_rows c.args.limits.now _ _ _ _ _ bytes e).1

pub returns-in-Err-new-clause-ended : goal.returns-in-Err-new-clause-ended
returns-in-Err-new-clause-ended g c = λ bytes e. (start_rows c.args.limits.now _ _ _ _ _ bytes e).0

pub returns-in-Err-new-clause-progress : goal.returns-in-Err-new-clause-progress
returns-in-Err-new-clause-progress g c = λ bytes e. (start_rows c.args.limits.now _ _ _ _ _ bytes e).1

pub lines-init : goal.lines-init
lines-init g c = start_running c.args.limits.now _ _ _ _ _ c.in-Ok.reader c.in-Ok-new.engine c.in-Ok.ensures c.in-Ok-new.ensures.opening c.in-Ok-new.ensures.newest

pub returns-in-Ok-TooLong-clause-ended : goal.returns-in-Ok-TooLong-clause-ended
returns-in-Ok-TooLong-clause-ended g c = λ bytes e.
    let n = c.in-Ok-TooLong.ensures.next in
    let a = subst (λ (x : Next). Gives x (c.lines.reader.held ++ n.taken) c.next.new.self) c.in-Ok-TooLong.field-0-is n.answer in
    let stands = subst (λ (h : HeapView). Stands h c.lines.invariant.state) (sym c.into_heap.ensures) c.lines.invariant.stands in
    (long_rows _ _ _ _ _ _ c.lines.invariant _ (g.S.Source.faults c.next.new.source) _ c.next.new.self n c.in-Ok-TooLong.ensures.ended c.in-Ok-TooLong.ensures.stays
    a c.into_heap.result stands bytes e).0

pub returns-in-Ok-TooLong-clause-progress : goal.returns-in-Ok-TooLong-clause-progress
returns-in-Ok-TooLong-clause-progress g c = λ bytes e.
    let n = c.in-Ok-TooLong.ensures.next in
    let a = subst (λ (x : Next). Gives x (c.lines.reader.held ++ n.taken) c.next.new.self) c.in-Ok-TooLong.field-0-is n.answer in
    let stands = subst (λ (h : HeapView). Stands h c.lines.invariant.state) (sym c.into_heap.ensures) c.lines.invariant.stands in
    (long_rows _ _ _ _ _ _ c.lines.invariant _ (g.S.Source.faults c.next.new.source) _ c.next.new.self n c.in-Ok-TooLong.ensures.ended c.in-Ok-TooLong.ensures.stays
    a c.into_heap.result stands bytes e).1

pub returns-in-Ok-TooLong-clause-flushed : goal.returns-in-Ok-TooLong-clause-flushed
returns-in-Ok-TooLong-clause-flushed g c = c.lines.invariant.flushed

pub returns-in-Ok-TooLong-clause-later : goal.returns-in-Ok-TooLong-clause-later
returns-in-Ok-TooLong-clause-later g c = c.lines.invariant.write_later

pub returns-in-Ok-End-clause-ended : goal.returns-in-Ok-End-clause-ended
returns-in-Ok-End-clause-ended g c = λ bytes e.
    let n = c.in-Ok-End.ensures.next in
    let a = subst (λ (x : Next). Gives x (c.lines.reader.held ++ n.taken) c.next.new.self) c.in-Ok-End.field-0-is n.answer in
    let stands = subst (λ (h : HeapView). Stands h c.lines.invariant.state) (sym c.into_heap-in-Ok-End.ensures) c.lines.invariant.stands in
    (end_rows _ _ _ _ _ _ c.lines.invariant _ (g.S.Source.faults c.next.new.source) _ c.next.new.self n c.in-Ok-End.ensures.ended c.in-Ok-End.ensures.stays
    a c.into_heap-in-Ok-End.result stands bytes e).0

pub returns-in-Ok-End-clause-progress : goal.returns-in-Ok-End-clause-progress
returns-in-Ok-End-clause-progress g c = λ bytes e.
    let n = c.in-Ok-End.ensures.next in
    let a = subst (λ (x : Next). Gives x (c.lines.reader.held ++ n.taken) c.next.new.self) c.in-Ok-End.field-0-is n.answer in
    let stands = subst (λ (h : HeapView). Stands h c.lines.invariant.state) (sym c.into_heap-in-Ok-End.ensures) c.lines.invariant.stands in
    (end_rows _ _ _ _ _ _ c.lines.invariant _ (g.S.Source.faults c.next.new.source) _ c.next.new.self n c.in-Ok-End.ensures.ended c.in-Ok-End.ensures.stays
    a c.into_heap-in-Ok-End.result stands bytes e).1

pub returns-in-Ok-End-clause-flushed : goal.returns-in-Ok-End-clause-flushed
returns-in-Ok-End-clause-flushed g c = c.lines.invariant.flushed

pub returns-in-Ok-End-clause-later : goal.returns-in-Ok-End-clause-later
returns-in-Ok-End-clause-later g c = c.lines.invariant.write_later

pub returns-in-Err-next-clause-ended : goal.returns-in-Err-next-clause-ended
returns-in-Err-next-clause-ended g c = λ bytes e.
    let n = c.in-Err-next.ensures.next in
    let rose = rose_later _ _ _ c.lines.invariant.read_later c.in-Err-next.ensures.cause.failed in
    (failed_rows _ _ _ _ _ _ c.lines.invariant _ (g.S.Source.faults c.next.new.source) _ c.next.new.self n c.in-Err-next.ensures.ended c.in-Err-next.ensures.stays
    n.answer rose bytes e).0

pub returns-in-Err-next-clause-progress : goal.returns-in-Err-next-clause-progress
returns-in-Err-next-clause-progress g c = λ bytes e.
    let n = c.in-Err-next.ensures.next in
    let rose = rose_later _ _ _ c.lines.invariant.read_later c.in-Err-next.ensures.cause.failed in
    (failed_rows _ _ _ _ _ _ c.lines.invariant _ (g.S.Source.faults c.next.new.source) _ c.next.new.self n c.in-Err-next.ensures.ended c.in-Err-next.ensures.stays
    n.answer rose bytes e).1

pub returns-in-Err-next-clause-cause : goal.returns-in-Err-next-clause-cause
returns-in-Err-next-clause-cause g c = rose_later _ _ _ c.lines.invariant.read_later c.in-Err-next.ensures.cause.failed

pub returns-in-Err-next-clause-flushed : goal.returns-in-Err-next-clause-flushed
returns-in-Err-next-clause-flushed g c = c.lines.invariant.flushed

pub returns-in-Err-next-clause-later : goal.returns-in-Err-next-clause-later
returns-in-Err-next-clause-later g c = c.lines.invariant.write_later

pub returns-in-Err-Fault-clause-ended : goal.returns-in-Err-Fault-clause-ended
returns-in-Err-Fault-clause-ended g c = λ bytes e.
    let n = c.in-Ok-Line.ensures.next in
    let a = subst (λ (x : Next). Gives x (c.lines.reader.held ++ n.taken) c.next.new.self) c.in-Ok-Line.field-0-is n.answer in
    let s = c.lines.invariant.state in
    let turns = subst (λ (x : HeapError). Turns c.args.limits.now s c.lines.number c.line.result.now (Err x) c.perform.new.text.items c.perform.new.engine.heap)
    c.in-Err-Fault.field-0-is (c.in-Err-Fault.ensures.turn s c.lines.invariant.stands) in
    let turn = subst (λ (l : List ℕ). line_turn c.args.limits.now s c.lines.number l ≡ Err c.in-Err-Fault.fault) c.line.ensures turns.0 in
    let stands = subst (λ (h : HeapView). Stands h s) (sym c.into_heap-in-Err-Fault.ensures) turns.1 in
    (fault_rows _ _ _ _ _ _ c.lines.invariant _ (g.S.Source.faults c.next.new.source) _ c.next.new.self n c.in-Ok-Line.ensures.ended c.in-Ok-Line.ensures.stays
    a c.in-Err-Fault.fault turn c.into_heap-in-Err-Fault.result stands bytes e).0

pub returns-in-Err-Fault-clause-progress : goal.returns-in-Err-Fault-clause-progress
returns-in-Err-Fault-clause-progress g c = λ bytes e.
    let n = c.in-Ok-Line.ensures.next in
    let a = subst (λ (x : Next). Gives x (c.lines.reader.held ++ n.taken) c.next.new.self) c.in-Ok-Line.field-0-is n.answer in
    let s = c.lines.invariant.state in
    let turns = subst (λ (x : HeapError). Turns c.args.limits.now s c.lines.number c.line.result.now (Err x) c.perform.new.text.items c.perform.new.engine.heap)
    c.in-Err-Fault.field-0-is (c.in-Err-Fault.ensures.turn s c.lines.invariant.stands) in
    let turn = subst (λ (l : List ℕ). line_turn c.args.limits.now s c.lines.number l ≡ Err c.in-Err-Fault.fault) c.line.ensures turns.0 in
    let stands = subst (λ (h : HeapView). Stands h s) (sym c.into_heap-in-Err-Fault.ensures) turns.1 in
    (fault_rows _ _ _ _ _ _ c.lines.invariant _ (g.S.Source.faults c.next.new.source) _ c.next.new.self n c.in-Ok-Line.ensures.ended c.in-Ok-Line.ensures.stays
    a c.in-Err-Fault.fault turn c.into_heap-in-Err-Fault.result stands bytes e).1

pub returns-in-Err-Fault-clause-flushed : goal.returns-in-Err-Fault-clause-flushed
returns-in-Err-Fault-clause-flushed g c = c.lines.invariant.flushed

pub returns-in-Err-Fault-clause-later : goal.returns-in-Err-Fault-clause-later
returns-in-Err-Fault-clause-later g c = c.lines.invariant.write_later

pub returns-in-Err-perform : goal.returns-in-Err-perform
returns-in-Err-perform g c =
    let n = c.in-Ok-Line.ensures.next in
    let a = subst (λ (x : Next). Gives x (c.lines.reader.held ++ n.taken) c.next.new.self) c.in-Ok-Line.field-0-is n.answer in
    let rows = memory_rows _ _ _ _ _ _ c.lines.invariant _ (g.S.Source.faults c.next.new.source) _ c.next.new.self n c.in-Ok-Line.ensures.ended c.in-Ok-Line.ensures.stays a in
    record {
      ended = λ bytes e. (rows bytes e).0;
      progress = λ bytes e. (rows bytes e).1;
      cause = tt;
      flushed = c.lines.invariant.flushed;
      later = c.lines.invariant.write_later;
    }

pub returns-in-Err-put-clause-progress : goal.returns-in-Err-put-clause-progress
returns-in-Err-put-clause-progress g c = λ bytes e.
    let n = c.in-Ok-Line.ensures.next in
    let a = subst (λ (x : Next). Gives x (c.lines.reader.held ++ n.taken) c.next.new.self) c.in-Ok-Line.field-0-is n.answer in
    let s = c.lines.invariant.state in
    let turns = c.in-Ok-perform.ensures.turn s c.lines.invariant.stands in
    let turn = subst (λ (l : List ℕ). line_turn c.args.limits.now s c.lines.number l ≡ Ok turns.0) c.line.ensures turns.1 in
    let text = c.deref.ensures.value ∙ turns.3 in
    let appended = subst (λ (t : List ℕ). Appends (g.O.Sink.written c.lines.out) (g.O.Sink.written c.put.new.out) (take c.in-Err-put.ensures.err.0 t)) text c.in-Err-put.ensures.err.2 in
    write_rows _ _ _ _ _ _ c.lines.invariant _ (g.S.Source.faults c.next.new.source) _ c.next.new.self n c.in-Ok-Line.ensures.ended c.in-Ok-Line.ensures.stays
    a turns.0 turn c.in-Err-put.ensures.err.0 _ (g.O.Sink.flushed c.put.new.out) (g.O.Sink.faults c.put.new.out) appended bytes e

pub returns-in-Err-put-clause-cause : goal.returns-in-Err-put-clause-cause
returns-in-Err-put-clause-cause g c = rose_later _ _ _ c.lines.invariant.write_later c.in-Err-put.ensures.cause.failed

pub returns-in-Err-put-clause-flushed : goal.returns-in-Err-put-clause-flushed
returns-in-Err-put-clause-flushed g c = flushed_twice _ _ _ c.lines.invariant.flushed c.in-Err-put.ensures.flushed

pub lines-preserved : goal.lines-preserved
lines-preserved g c =
    let n = c.in-Ok-Line.ensures.next in
    let a = subst (λ (x : Next). Gives x (c.lines.reader.held ++ n.taken) c.next.new.self) c.in-Ok-Line.field-0-is n.answer in
    let s = c.lines.invariant.state in
    let turns = c.in-Ok-perform.ensures.turn s c.lines.invariant.stands in
    let turn = subst (λ (l : List ℕ). line_turn c.args.limits.now s c.lines.number l ≡ Ok turns.0) c.line.ensures turns.1 in
    let text = c.deref.ensures.value ∙ turns.3 in
    let appended = subst (λ (t : List ℕ). Appends (g.O.Sink.written c.lines.out) (g.O.Sink.written c.put.new.out) t) text c.in-Ok-put.ensures.ok in
    running_on _ _ _ _ _ _ c.lines.invariant _ (g.S.Source.faults c.next.new.source) _ c.next.new.self n c.in-Ok-Line.ensures.ended c.in-Ok-Line.ensures.stays
    a turns.0 turn c.perform.new.engine turns.2 c.in-Ok-perform.ensures.newest c.in-Ok-perform.ensures.within
    _ (g.O.Sink.flushed c.put.new.out) (g.O.Sink.faults c.put.new.out) appended c.in-Ok-put.ensures.flushed
    c.in-Ok-Line.ensures.cause.later c.in-Ok-put.ensures.cause.later
