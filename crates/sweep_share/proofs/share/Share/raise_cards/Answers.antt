use Rattle.std.proofs.Common.{sym, subst}
use Rattle.sweep_share.specs.Shares.{AreRaised, IsRaised, ShareView}
use Rattle.sweep_share.proofs.Raising.{is_raised}
use Rattle.sweep_share.proofs.share.Share.raise_cards.Goals as goal

pub returns : goal.returns
returns c =
    subst (λ (z : ShareView). IsRaised c.args.self.now (record z { territories = c.raise_all.new.territories.items }) c.args.cg)
    (sym c.self.view_is)
    (is_raised c.args.self.now c.raise_all.new.territories.items c.args.cg
    (subst (λ (z : ShareView). AreRaised c.args.cg z.territories c.raise_all.new.territories.items) c.self.view_is c.raise_all.ensures))
