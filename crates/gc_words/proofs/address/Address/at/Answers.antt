use Rattle.std.proofs.Common.{subst, arith}
use Rattle.gc_words.specs.Layout.{address_of, IsMadeOf}
use Rattle.gc_words.proofs.LayoutLaws.{address_of_parts}
use Rattle.gc_words.proofs.address.Address.at.Goals as goal

pub returns-clause-parts : goal.returns-clause-parts
unfolding address_of
returns-clause-parts c =
    subst (λ n. IsMadeOf n c.args.thread c.args.segment c.args.offset) (omega arith) (address_of_parts c.args.thread c.args.segment c.args.offset c.requires)
