-- The one list of territories is taken.
use Rattle.std.proofs.Common.{sym, subst}
use Rattle.collector.specs.Dealt.{AreGathered}
use Rattle.collector.proofs.Taking.{gathered_one}
use Rattle.collector.proofs.gathering.gather_from_one.Goals as goal

pub returns : goal.returns
returns c =
    subst (AreGathered 1 c.args.owns.items) (sym c.into_territories.ensures)
    (gathered_one c.args.owns.items c.pop.new.self.items c.in-Some.own c.in-Some.ensures.items c.requires.one
    c.requires.whole)
