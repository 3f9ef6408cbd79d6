use Rattle.std.proofs.Common.{◌≡◌, sym, ◌∙◌, subst}
use Rattle.trace_types.specs.declared.limits.Limits.{Limits}
use Rattle.replay.specs.Rows.{read_of, wrote_of, Progress}
use Rattle.replay.specs.Ended.{Closed}
use Rattle.replay.specs.declared.lines.Ending.TheVariants.{NoMemory}
use Rattle.replay.proofs.Performing.{start_rows}
use Rattle.replay.proofs.Heading.{headline, completed, same_words}
use Rattle.replay.proofs.top.replay_main.Goals as goal

pub returns-in-Ok-clause-table : goal.returns-in-Ok-clause-table
returns-in-Ok-clause-table g c = λ w form bytes e.
    let same : c.in-Ok.words.limits ≡ w.limits = same_words c.in-Ok.words w (sym c.in-Ok.ensures.ok ∙ form) in
    let closed = subst (λ (l : Limits). Closed c.run-ending.result l bytes
    (read_of g.S.Source.left g.S.Source.faults c.args.source.now c.run-ending.new.source)
    (wrote_of g.O.Sink.written g.O.Sink.flushed g.O.Sink.faults c.args.out.now c.run-ending.new.out)) same (c.run-ending.ensures.closed bytes e) in
    let progress = subst (λ (l : Limits). Progress l bytes
    (read_of g.S.Source.left g.S.Source.faults c.args.source.now c.run-ending.new.source)
    (wrote_of g.O.Sink.written g.O.Sink.flushed g.O.Sink.faults c.args.out.now c.run-ending.new.out)) same (c.run-ending.ensures.progress bytes e) in
    headline w.limits bytes _ _ _ c.report.result c.run-ending.result closed progress c.run-ending.ensures.cause c.report.ensures

pub returns-in-Ok-clause-complete : goal.returns-in-Ok-clause-complete
returns-in-Ok-clause-complete g c = λ w form bytes e.
    completed c.report.result.status w.limits bytes c.report.result.heap _ _ _ (returns-in-Ok-clause-table g c w form bytes e)

pub returns-in-Err-NoMemory-clause-table : goal.returns-in-Err-NoMemory-clause-table
returns-in-Err-NoMemory-clause-table g c = λ w form bytes e.
    let rows = start_rows w.limits (g.S.Source.left c.args.source.now) (g.S.Source.faults c.args.source.now)
    (g.O.Sink.written c.args.out.now) (g.O.Sink.flushed c.args.out.now) (g.O.Sink.faults c.args.out.now) bytes e in
    headline w.limits bytes _ _ _ c.report_memory.result NoMemory rows.0 rows.1 tt c.report_memory.ensures
