use Rattle.std.proofs.Common.{◌≡◌, Some, slice_index_or, refl, sym, ap, subst, ◌∙◌, IsSome}
use Rattle.std.specs.FinMap.{get}
use Rattle.territory.specs.Territories.{TerritoryView}
use Rattle.sweep_share.specs.Shares.{AreShareOf, IsCopied, ShareView}
use Rattle.sweep_share.proofs.Places.{if_there, own_of, own_start, read_is}
use Rattle.sweep_share.proofs.Copying.{is_copied}
use Rattle.sweep_share.proofs.Putting.{with_territory}
use Rattle.sweep_share.proofs.share.Share.copy_pair.Goals as goal

pub returns-clause-copied : goal.returns-clause-copied
returns-clause-copied c =
    let own = own_of c.args.self.now c.args.at (subst IsSome (sym c.requires.pair.1) refl) in
    let within = c.index-i.ensures.within in
    let is = read_is c.args.self.now c.args.at c.index-i.result c.index_mut.result.now c.index-i.ensures.value within
    (subst (λ (z : ShareView). c.index_mut.result.now ≡ slice_index_or z.territories c.index-i.result c.index_mut.result.now) c.self.view_is c.index_mut.ensures.value) in
    let has : get c.index_mut.result.now.starts c.args.at ≡ Some c.requires.pair.0 =
    ap (λ (z : TerritoryView). get z.starts c.args.at) is ∙ (sym (own_start c.args.self.now c.args.at own) ∙ c.requires.pair.1) in
    subst (λ (z : ShareView). IsCopied c.args.self.now (with_territory z c.index-i.result c.copy_pair.new.self) c.args.at c.args.generation c.in_ok-copy.copy)
    (sym c.self.view_is)
    (is_copied c.args.self.now c.args.at c.index-i.result c.args.generation c.in_ok-copy.copy c.index_mut.result.now c.copy_pair.new.self
    (subst (λ (z : ShareView). AreShareOf z.number z.sweepers z.territories) c.self.view_is c.self.invariant.0) c.index-i.ensures.thread
    c.index-i.ensures.value within own is
    (λ x e. let there = if_there _ _ x e c.in_ok-copy.ensures.copied in record {
      address = there.address;
      in_thread = there.thread_is;
      free = there.free;
      starts = there.starts;
      placed = there.placed;
      sound = there.sound;
      thread = there.thread;
      targets = there.targets;
    }) c.requires.pair.0 has)
