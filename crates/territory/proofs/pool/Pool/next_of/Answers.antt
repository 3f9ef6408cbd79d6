use Rattle.std.proofs.Common.{◌∙◌}
use Rattle.territory.proofs.Nexts.{next_in_from, next_in_current, none_if, other_role}
use Rattle.territory.proofs.pool.Pool.next_of.Goals as goal

pub returns-in-From : goal.returns-in-From
returns-in-From c = next_in_from _ _ _ _ _ _ c.self.view_is c.requires.settled c.requires.used c.next-next.ensures (none_if _ c.if-is_some.ensures) c.index-segment.ensures c.role.ensures c.in-From.is

pub returns-in-Free : goal.returns-in-Free
returns-in-Free c = next_in_current _ _ _ _ _ _ _ _ c.self.view_is c.requires.settled c.requires.used c.next-next.ensures (none_if _ c.if-is_some.ensures) c.index-segment.ensures c.role.ensures (other_role _ c.in-Free.is) (c.from.ensures ∙ c.generation.ensures) c.first.ensures
