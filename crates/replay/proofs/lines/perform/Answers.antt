use Rattle.std.proofs.Common.{◌≡◌, ◌≤◌, sym, ap, ◌∙◌, arith, [], Ok, None, Some}
use Rattle.trace_types.specs.Reading.{read}
use Rattle.trace_types.proofs.ReadingFits.{read_fits}
use Rattle.trace_types.specs.Runs.{performed}
use Rattle.replay.specs.Built.{built_step}
use Rattle.replay.proofs.Turning.{turn_performed, turns_step}
use Rattle.replay.proofs.lines.perform.Goals as goal

pub returns-in-Ok-None-clause-turn : goal.returns-in-Ok-None-clause-turn
returns-in-Ok-None-clause-turn g c = λ s stands.
    let within : c.args.number ≤ c.args.limits.now.max_lines = omega arith in
    let is : read c.args.line.now ≡ Ok None = sym c.read_command.ensures ∙ c.in-Ok-None.is ∙ ap Ok c.in-Ok-None.field-0-is in (
      (s, []),
      turn_performed c.args.limits.now s c.args.number c.args.line.now c.requires.short within ∙ ap (performed built_step s c.args.number) is,
      stands,
      c.requires.empty,
    )

pub returns-in-Ok-Some-clause-turn : goal.returns-in-Ok-Some-clause-turn
returns-in-Ok-Some-clause-turn g c = λ s stands.
    let within : c.args.number ≤ c.args.limits.now.max_lines = omega arith in
    let is : read c.args.line.now ≡ Ok (Some c.in-Ok-Some.command) = sym c.read_command.ensures ∙ c.in-Ok-Some.is ∙ ap Ok c.in-Ok-Some.field-0-is in
    turns_step c.args.limits.now s c.args.number c.args.line.now c.in-Ok-Some.command c.step.result c.args.text.now.items c.step.new.text.items c.step.new.self.heap
    c.requires.short within is c.requires.empty (c.step.ensures.step s stands)

pub step-requires-clause-operands : goal.step-requires-clause-operands
step-requires-clause-operands g c κs within =
    read_fits c.args.line.now c.in-Ok-Some.command (sym c.read_command.ensures ∙ c.in-Ok-Some.is ∙ ap Ok c.in-Ok-Some.field-0-is)
