use Rattle.std.proofs.Common.{◌≡◌, length, arith}
use Rattle.std.proofs.lemmas.Bool.Decides.{nat_tests}
use Rattle.plain_model.proofs.Running.{one_more, refused, ended}
use Rattle.plain_model.proofs.runner.run.Goals as goal

pub returns-in-Err-Fault : goal.returns-in-Err-Fault
returns-in-Err-Fault c =
    let refuses = rw c.in-Err-Fault.field-0-is at c.in-Err-Fault.ensures in
    rw (c.in-Err-Fault.field-0-is, refuses.1)
    (refused c.args.limits c.args.bytes.now c.loop-rest.state c.loop-rest.text.items c.loop-rest.number c.loop-rest.rest.now
    c.first_line.result.0.now c.first_line.result.1.now c.in-Err-Fault.fault c.loop-rest.invariant c.first_line.ensures.lines refuses.0)

pub loop-rest-preserved : goal.loop-rest-preserved
loop-rest-preserved c =
    rw (c.in_ok-extend_from_slice-in-Ok.ensures.items, c.deref.ensures.value)
    (one_more c.args.limits c.args.bytes.now c.loop-rest.state c.loop-rest.text.items c.loop-rest.number c.loop-rest.rest.now
    c.first_line.result.0.now c.first_line.result.1.now c.turn.new.state c.in-Ok.said.items c.requires.lines c.loop-rest.invariant
    c.first_line.ensures.lines c.first_line.ensures.shorter c.in-Ok.ensures)

pub returns : goal.returns
returns c =
    let none : length c.loop-rest.rest.now ≡ 0 = grind (arith, nat_tests) in
    ended c.args.limits c.args.bytes.now c.loop-rest.state c.loop-rest.text.items c.loop-rest.number c.loop-rest.rest.now
    c.loop-rest.invariant none
