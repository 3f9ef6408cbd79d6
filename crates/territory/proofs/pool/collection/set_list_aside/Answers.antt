use Rattle.std.proofs.Common.{sym, ◌∙◌, arith}
use Rattle.territory.proofs.Asides.{once_in, in_list, linked_at, next_here, aside_used, aside_more, aside_end, aside_all}
use Rattle.territory.proofs.pool.collection.set_list_aside.Goals as goal

pub index_mut-requires : goal.index_mut-requires
index_mut-requires c = omega (arith, (next_here _ _ _ _ _ c.loop-count.invariant.aside (once_in c.args.lists.now c.args.list c.in-Some.n c.requires.each_once c.requires.list_in) (sym c.loop-count.invariant.here ∙ c.in-Some.is) (in_list c.args.segments.now.items c.args.lists.now c.args.list c.loop-count._count c.in-Some.n c.requires.in_use (sym c.loop-count.invariant.here ∙ c.in-Some.is))).0)

pub set_aside-requires : goal.set_aside-requires
set_aside-requires c = aside_used _ _ _ _ _ _ c.loop-count.invariant.aside (once_in c.args.lists.now c.args.list c.in-Some.n c.requires.each_once c.requires.list_in) (sym c.loop-count.invariant.here ∙ c.in-Some.is) (in_list c.args.segments.now.items c.args.lists.now c.args.list c.loop-count._count c.in-Some.n c.requires.in_use (sym c.loop-count.invariant.here ∙ c.in-Some.is)) c.index_mut.ensures.value

pub next-at-requires : goal.next-at-requires
next-at-requires c = linked_at c.args.lists.now c.args.list c.loop-count._count c.in-Some.n c.requires.each_once c.requires.list_in (sym c.loop-count.invariant.here ∙ c.in-Some.is)

pub loop-count-preserved : goal.loop-count-preserved
loop-count-preserved c = record {
  aside = aside_more _ _ _ _ _ _ _ c.loop-count.invariant.aside (once_in c.args.lists.now c.args.list c.in-Some.n c.requires.each_once c.requires.list_in) (sym c.loop-count.invariant.here ∙ c.in-Some.is) (in_list c.args.segments.now.items c.args.lists.now c.args.list c.loop-count._count c.in-Some.n c.requires.in_use (sym c.loop-count.invariant.here ∙ c.in-Some.is)) c.index_mut.ensures.value c.set_aside.ensures;
  here = c.next-at.ensures _ _ (sym c.loop-count.invariant.here ∙ c.in-Some.is);
}

pub returns-in-None : goal.returns-in-None
returns-in-None c = aside_end _ _ _ _ _ c.loop-count.invariant.aside c.loop-count.invariant.here c.in-None.is

pub returns : goal.returns
returns c = aside_all c.args.segments.now.items c.loop-count.segments.items c.args.lists.now c.args.list c.loop-count._count c.loop-count.invariant.aside c.requires.list_in c.requires.known (omega (arith, c.loop-count-test.false, c.len-count-end.ensures))
