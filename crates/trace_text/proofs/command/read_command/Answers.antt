use Rattle.std.proofs.Common.{◌≡◌, Ok, ◌∙◌, sym, ap}
use Rattle.trace_types.specs.Reading.{command_in, fields}
use Rattle.trace_text.proofs.Answering.{read-skipped, read-not_text, read-Ok, read-Err}
use Rattle.trace_text.proofs.Printable.{command_in-printable}
use Rattle.trace_text.proofs.command.read_command.Goals as goal

pub returns-then-is_skipped : goal.returns-then-is_skipped
returns-then-is_skipped c = sym (read-skipped c.args.line.now (sym c.is_skipped.ensures ∙ c.if-is_skipped.true))

pub returns-in-Ok : goal.returns-in-Ok
returns-in-Ok c =
    let line = c.args.line.now in
    let said : command_in (fields line) ≡ Ok c.in-Ok.command = ap command_in (sym c.of.ensures) ∙ sym c.read_fields.ensures ∙ c.in-Ok.is in
    sym (read-Ok line c.in-Ok.command (sym c.is_skipped.ensures ∙ c.if-is_skipped.false) (command_in-printable line c.in-Ok.command said) said)

pub returns-in-Err : goal.returns-in-Err
returns-in-Err c =
    sym (read-not_text c.args.line.now (sym c.is_skipped.ensures ∙ c.if-is_skipped.false) (sym c.is_printable.ensures ∙ c.if-not-is_printable.true))

pub returns-in-Err-2 : goal.returns-in-Err-2
returns-in-Err-2 c =
    sym (read-Err c.args.line.now c.in-Err.field-0
    (sym c.is_skipped.ensures ∙ c.if-is_skipped.false)
    (sym c.is_printable.ensures ∙ c.if-not-is_printable.false)
    (ap command_in (sym c.of.ensures) ∙ sym c.read_fields.ensures ∙ c.in-Err.is))
