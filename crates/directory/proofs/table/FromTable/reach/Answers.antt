use Rattle.std.proofs.Common.{◌*◌, subst, arith}
use Rattle.directory.specs.Reaches.{LiesInTable, Spans}
use Rattle.directory.proofs.Reaching.{reached_moved}
use Rattle.directory.proofs.table.FromTable.reach.Goals as goal

pub returns : goal.returns
returns c =
    reached_moved c.args.self.now c.self.inside.reach (record { least = c.saturating_add.result; beyond = c.saturating_add-2.result }) c.args.thread
    (c.args.thread * 4294967296 * 8388608) c.requires (omega arith) c.saturating_add.ensures c.saturating_add-2.ensures
    (subst (λ t. Spans c.self.inside.reach (LiesInTable t 0)) c.self.view_is c.self.invariant)
