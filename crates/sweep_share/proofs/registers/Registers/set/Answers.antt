use Rattle.std.proofs.Common.{◌≡◌, ℕ, ◌<◌, length, set, sym, subst}
use Rattle.gc_words.specs.declared.value.Value.TheVariants.{Object}
use Rattle.sweep_share.specs.Registers.{IsSet, RegistersView, item_at}
use Rattle.sweep_share.proofs.Numbers.{is_set, still_registers}
use Rattle.sweep_share.proofs.registers.Registers.set.Goals as goal

pub invariant_of-self : goal.invariant_of-self
invariant_of-self c =
    let s : RegistersView = record { number = c.self.inside.number; sweepers = c.self.inside.sweepers; items = c.self.inside.items.items } in
    let i : ℕ = c.index_of-i.result in
    still_registers s.number s.sweepers s.items i c.args.r (Object c.args.place)
    (subst (λ (s : RegistersView). i < length s.items) (sym c.self.view_is) c.index_of-i.ensures.within)
    (subst (λ (s : RegistersView). (item_at s.items i).0 ≡ c.args.r) (sym c.self.view_is) c.index_of-i.ensures.number)
    c.self.invariant

pub returns : goal.returns
returns c =
    let s : RegistersView = record { number = c.self.inside.number; sweepers = c.self.inside.sweepers; items = c.self.inside.items.items } in
    let i : ℕ = c.index_of-i.result in
    let new : RegistersView = record s { items = set s.items i (c.args.r, Object c.args.place) } in
    subst (λ (s : RegistersView). IsSet s new c.args.r c.args.place) c.self.view_is
    (is_set s i c.args.r c.args.place
    (subst (λ (s : RegistersView). i < length s.items) (sym c.self.view_is) c.index_of-i.ensures.within)
    (subst (λ (s : RegistersView). (item_at s.items i).0 ≡ c.args.r) (sym c.self.view_is) c.index_of-i.ensures.number)
    c.self.invariant)
