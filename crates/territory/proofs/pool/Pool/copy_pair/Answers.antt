use Rattle.std.proofs.Common.{ap, ◌∙◌}
use Rattle.territory.specs.Pools.{PoolView, numbered}
use Rattle.territory.proofs.PairCopies.{two_words, settled_pair}
use Rattle.territory.proofs.pool.Pool.copy_pair.Goals as goal

pub copy_two-requires-clause-size_is : goal.copy_two-requires-clause-size_is
copy_two-requires-clause-size_is c = two_words c.self.inside.segments.items c.args.from c.args.k (ap (λ (v : PoolView). (numbered v.segments c.args.from).space) c.self.view_is ∙ c.requires.from_space)

pub returns-clause-settled : goal.returns-clause-settled
returns-clause-settled c = settled_pair _ _ _ _ _ _ c.self.view_is c.requires.settled c.requires.start c.requires.within c.requires.used c.requires.from_space c.requires.space c.requires.room c.copy_two.ensures.after
