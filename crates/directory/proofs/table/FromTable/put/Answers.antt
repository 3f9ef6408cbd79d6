use Rattle.std.proofs.Common.{◌∙◌, ap}
use Rattle.directory.specs.Tables.{entry_in}
use Rattle.directory.proofs.Reaching.{reached_kept, reached_set}
use Rattle.directory.proofs.table.FromTable.put.Goals as goal

pub invariant_of-self : goal.invariant_of-self
invariant_of-self c = reached_kept c.self.inside.entries.items _ c.self.inside.reach c.lengthen.ensures.same c.self.invariant

pub invariant_of-self-2 : goal.invariant_of-self-2
invariant_of-self-2 c =
    reached_set c.self.inside.entries.items c.lengthen.new.entries.items c.self.inside.reach c.of_segment.result c.with-self-inside.result c.args.segment c.args.from
    (ap (λ t. entry_in t c.args.segment) c.self.view_is ∙ c.requires) c.lengthen.ensures.same c.in_ok-lengthen.ensures.long
    c.of_segment.ensures c.with-self-inside.ensures c.self.invariant
