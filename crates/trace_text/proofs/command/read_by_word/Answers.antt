use Rattle.std.proofs.Common.{◌∙◌}
use Rattle.trace_types.specs.Reading.{grammar}
use Rattle.trace_text.proofs.Wording.{by_word-of_length}
use Rattle.trace_text.proofs.command.read_by_word.Goals as goal

pub returns-in-3 : goal.returns-in-3
returns-in-3 c = c.read_three_letters.ensures ∙ by_word-of_length grammar 3 c.args.word.now c.args.operands c.in-3.is

pub returns-in-4 : goal.returns-in-4
returns-in-4 c = c.read_four_letters.ensures ∙ by_word-of_length grammar 4 c.args.word.now c.args.operands c.in-4.is

pub returns-in-5 : goal.returns-in-5
returns-in-5 c = c.read_five_letters.ensures ∙ by_word-of_length grammar 5 c.args.word.now c.args.operands c.in-5.is

pub returns-in-6 : goal.returns-in-6
returns-in-6 c = c.read_six_letters.ensures ∙ by_word-of_length grammar 6 c.args.word.now c.args.operands c.in-6.is

pub returns-in-7 : goal.returns-in-7
returns-in-7 c = c.read_seven_letters.ensures ∙ by_word-of_length grammar 7 c.args.word.now c.args.operands c.in-7.is
