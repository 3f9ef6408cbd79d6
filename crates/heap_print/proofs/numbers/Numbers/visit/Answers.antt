use Rattle.std.proofs.Common.{ℕ, List, ◌+◌, ◌*◌, ◌/◌, ◌%◌, ◌++◌, ap, sym, ◌∙◌, arith}
use Rattle.trace_types.specs.Printing.{number_of}
use Rattle.heap_print.proofs.Visited.{visited_number}
use Rattle.heap_print.proofs.numbers.Numbers.visit.Goals as goal

pub invariant_of-self : goal.invariant_of-self
invariant_of-self c = (c.find_row.ensures.noted _ c.self.invariant.0, c.find_row.ensures.last)

pub overflow_mul-place : goal.overflow_mul-place
overflow_mul-place c =
    let noted = c.in_ok-row.ensures.noted _ c.self.invariant.0 in
    omega (arith, noted.room, c.in_ok-row.ensures.within, c.find_row.new.rows.small, c.find_row.new.rows.ok)

pub overflow_add-place : goal.overflow_add-place
overflow_add-place c =
    let noted = c.in_ok-row.ensures.noted _ c.self.invariant.0 in
    omega (arith, noted.room, c.in_ok-row.ensures.within, c.find_row.new.rows.small, c.find_row.new.rows.ok)

pub find_number-requires-clause-within : goal.find_number-requires-clause-within
find_number-requires-clause-within c =
    let noted = c.in_ok-row.ensures.noted _ c.self.invariant.0 in
    omega (arith, noted.room, c.in_ok-row.ensures.within)

pub find_number-requires-clause-note : goal.find_number-requires-clause-note
find_number-requires-clause-note c =
    rw c.in_ok-row.ensures.row ((c.in_ok-row.ensures.noted _ c.self.invariant.0).notes c.args.word c.requires)

pub invariant_of-self-in_err-number : goal.invariant_of-self-in_err-number
invariant_of-self-in_err-number c =
    (c.find_number.ensures.noted _ (ap (λ row. 256 * row + c.args.word / 16 % 256) c.in_ok-row.ensures.row) (omega (arith, c.in_ok-row.ensures.row, c.in_ok-row.ensures.within)) (c.in_ok-row.ensures.noted _ c.self.invariant.0), c.find_row.ensures.last)

pub invariant_of-self-2 : goal.invariant_of-self-2
invariant_of-self-2 c =
    (c.find_number.ensures.noted _ (ap (λ row. 256 * row + c.args.word / 16 % 256) c.in_ok-row.ensures.row) (omega (arith, c.in_ok-row.ensures.row, c.in_ok-row.ensures.within)) (c.in_ok-row.ensures.noted _ c.self.invariant.0), c.find_row.ensures.last)

pub returns-clause-number : goal.returns-clause-number
returns-clause-number c = λ more.
    ap (λ (ns : List ℕ). number_of (ns ++ more) c.args.word) c.in_ok-number.ensures.numbers ∙ visited_number c.self.inside.words.items c.args.word more ∙ sym c.in_ok-number.ensures.number
