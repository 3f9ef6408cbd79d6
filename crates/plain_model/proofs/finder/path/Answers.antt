use Rattle.std.proofs.Common.{◌<◌, length, nat_cmp, Some, sym, ap, ◌∙◌, arith}
use Rattle.std.specs.FinMap.{find}
use Rattle.trace_types.specs.Finder.{path}
use Rattle.plain_model.proofs.Walking.{longer_found, path_here, path_later, path_nowhere}
use Rattle.plain_model.proofs.finder.path.Goals as goal

pub returns-in-Some : goal.returns-in-Some
unfolding path
returns-in-Some c =
    let less : c.loop-steps._steps < length c.args.state.now.graph = omega (arith, ap length c.graph-steps-end.ensures) in
    path_here c.args.state.now.graph c.loop-steps._steps c.args.a c.args.b c.in_ok-indexes-in-Some.indexes.items _ less
    (sym (c.loop-steps.invariant.0 c.args.a) ∙ (rw c.deref.ensures.value at c.in-Some.ensures)
    ∙ ap Some (sym c.in_ok-indexes-in-Some.ensures))
    c.loop-steps.invariant.1

pub loop-steps-preserved : goal.loop-steps-preserved
loop-steps-preserved c =
    let less : c.loop-steps._steps < length c.args.state.now.graph = omega (arith, ap length c.graph-steps-end.ensures) in (
      λ x. ap (find nat_cmp x) (rw c.deref-in-loop-steps.ensures.value at c.in_ok-walks-2.ensures)
          ∙ longer_found c.args.state.now.graph c.loop-steps._steps c.args.b c.loop-steps.walks.items c.loop-steps.invariant.0 x,
      path_later c.args.state.now.graph c.loop-steps._steps c.args.a c.args.b _ less
          (sym (c.loop-steps.invariant.0 c.args.a) ∙ (rw c.deref.ensures.value at c.in-None.ensures)) c.loop-steps.invariant.1,
    )

pub returns : goal.returns
unfolding path
returns c =
    path_nowhere c.args.state.now.graph c.loop-steps._steps c.args.a c.args.b _
    (omega (arith, ap length c.graph-steps-end.ensures)) c.loop-steps.invariant.1
