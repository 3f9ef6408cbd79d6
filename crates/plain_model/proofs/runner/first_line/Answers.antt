use Rattle.std.proofs.Common.{◌+◌, ◌∷◌, length, take, sym, ap, ◌∙◌}
use Rattle.std.proofs.lemmas.List.{take_rest}
use Rattle.trace_types.specs.Lines.{lines_of}
use Rattle.plain_model.proofs.Lining.{line_ended, line_left}
use Rattle.plain_model.proofs.runner.first_line.Goals as goal

pub returns-in-Some-clause-lines : goal.returns-in-Some-clause-lines
returns-in-Some-clause-lines c =
    line_ended c.args.bytes.now c.in-Some.place (sym c.in-Some.ensures)
    ∙ ap (λ rest. take c.in-Some.place c.args.bytes.now ∷ lines_of rest) (sym (take_rest c.args.bytes.now (c.in-Some.place + 1)))

pub returns-in-None-clause-lines : goal.returns-in-None-clause-lines
returns-in-None-clause-lines c =
    line_left c.args.bytes.now c.requires (sym c.in-None.ensures)
    ∙ ap (λ rest. c.args.bytes.now ∷ lines_of rest) (sym (take_rest c.args.bytes.now (length c.args.bytes.now)))
