use Rattle.std.proofs.Common.{◌≡◌, slice_index_or, sym, subst}
use Rattle.sweep_share.specs.Shares.{IsPut, ShareView}
use Rattle.sweep_share.proofs.Places.{has_word, own_of, read_is}
use Rattle.sweep_share.proofs.Putting.{is_put, with_territory}
use Rattle.sweep_share.proofs.share.Share.put.Goals as goal

pub returns : goal.returns
returns c =
    let own = own_of c.args.self.now c.args.at (has_word c.args.self.now c.args.at c.args.index c.requires) in
    let within = c.index-i.ensures.within in
    let is = read_is c.args.self.now c.args.at c.index-i.result c.index_mut.result.now c.index-i.ensures.value within
    (subst (λ (z : ShareView). c.index_mut.result.now ≡ slice_index_or z.territories c.index-i.result c.index_mut.result.now) c.self.view_is c.index_mut.ensures.value) in
    subst (λ (z : ShareView). IsPut c.args.self.now (with_territory z c.index-i.result c.put.new.self) c.args.at c.args.index c.args.word c.args.refers)
    (sym c.self.view_is)
    (is_put c.args.self.now c.args.at c.index-i.result c.args.index c.args.word c.args.refers c.index_mut.result.now c.put.new.self
    c.index-i.ensures.value within own is c.put.ensures.after c.put.ensures.sound)
