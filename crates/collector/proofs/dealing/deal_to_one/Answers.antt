-- One sweeper has all territories.
use Rattle.std.proofs.Common.{[], ◌∷◌, ◌++◌, ◌∙◌, ap}
use Rattle.collector.proofs.DealtOut.{dealt_one}
use Rattle.collector.proofs.dealing.deal_to_one.Goals as goal

pub returns : goal.returns
returns c =
    dealt_one c.args.territories.items c.push.new.self.items
    (c.in_ok-push.ensures.items ∙ (ap (λ l. l ++ c.new.result ∷ []) c.new-owns.ensures.items ∙ ap (λ o. o ∷ []) c.new.ensures))
