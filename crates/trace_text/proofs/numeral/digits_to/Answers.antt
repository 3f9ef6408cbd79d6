use Rattle.std.proofs.Common.{◌≡◌, ◌&&◌, nat_le, false, Some, None, sym, ap, ◌∙◌, arith}
use Rattle.std.specs.List.{list_all}
use Rattle.std.proofs.Math.Bool.{and-false}
use Rattle.std.proofs.lemmas.Bool.{cond-false}
use Rattle.trace_types.specs.Reading.{is_digit, numeral_value}
use Rattle.trace_text.proofs.Growing.{numeral_value_over}
use Rattle.trace_text.proofs.numeral.digits_to.Goals as goal

pub returns-then-limit-value : goal.returns-then-limit-value
returns-then-limit-value c =
    let text = c.args.text.now in
    let above : nat_le (numeral_value text) c.args.limit ≡ false = numeral_value_over c.args.limit text c.loop-c.c-index (omega arith) (omega arith) in
    sym (cond-false _ (Some (numeral_value text)) None (ap (λ b. list_all is_digit text && b) above ∙ and-false (list_all is_digit text)))
