use Rattle.std.proofs.Common.{arith}
use Rattle.heap_print.proofs.Texts.{lines_more, lines_all}
use Rattle.heap_print.proofs.counts.census_text.Goals as goal

pub loop-generation-preserved : goal.loop-generation-preserved
loop-generation-preserved c =
    lines_more c.census.inside.generations _ _ _ _ _ _ _ c.census.view_is (omega (arith, c.loop-generation-test.true, c.census.invariant)) c.from.ensures
    c.loop-generation.invariant c.in_ok-push_count.ensures

pub returns : goal.returns
returns c = lines_all c.census.inside.generations _ _ _ _ c.census.view_is (omega (arith, c.loop-generation-test.false, c.census.invariant)) c.loop-generation.invariant
