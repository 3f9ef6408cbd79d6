use Rattle.std.proofs.Common.{◌≡◌, ◌+◌, ◌-◌, ◌≤◌, length, take, drop, arith, length-take, length-drop, subst}
use Rattle.std.proofs.lemmas.List.{take_all}
use Rattle.trace_types.specs.Lines.{IsPlain}
use Rattle.trace_text.proofs.Searches.{plain-searched}
use Rattle.trace_text.proofs.bytes.newline_after.Goals as goal

pub returns-in-Some-clause-first : goal.returns-in-Some-clause-first
returns-in-Some-clause-first c =
    let b = c.args.bytes.now in
    let s = c.args.searched in
    let size : length (take (length b - s) (drop s b)) ≡ length b - s = simp (length-take, length-drop) (omega arith) in
    let fits : c.in-Some.at ≤ length b - s = omega (arith, size, c.in-Some.ensures.0.high) in
    plain-searched b s c.in-Some.at fits c.requires.plain c.in-Some.ensures.0.before

pub returns-in-None-clause-none : goal.returns-in-None-clause-none
returns-in-None-clause-none c =
    let b = c.args.bytes.now in
    let s = c.args.searched in
    let n = length (take (length b - s) (drop s b)) in
    let size : n ≡ length b - s = simp (length-take, length-drop) (omega arith) in
    let whole : take (s + n) b ≡ b = take_all (s + n) b (omega arith) in
    subst IsPlain whole (plain-searched b s n (omega arith) c.requires.plain c.in-None.ensures)
