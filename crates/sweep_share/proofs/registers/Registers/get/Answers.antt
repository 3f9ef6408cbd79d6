use Rattle.std.proofs.Common.{◌≡◌, ◌<◌, Some, length, sym, subst}
use Rattle.std.proofs.lemmas.List.{get_or_read}
use Rattle.gc_words.specs.declared.value.Value.TheVariants.{Nil}
use Rattle.sweep_share.specs.Registers.{RegistersView, register_in}
use Rattle.sweep_share.proofs.Numbers.{holds}
use Rattle.sweep_share.proofs.registers.Registers.get.Goals as goal

pub returns-clause-holds : goal.returns-clause-holds
returns-clause-holds c =
    let s : RegistersView = record { number = c.self.inside.number; sweepers = c.self.inside.sweepers; items = c.self.inside.items.items } in
    let within : c.args.i < length c.self.inside.items.items = subst (λ (s : RegistersView). c.args.i < length s.items) (sym c.self.view_is) c.requires in
    subst (λ (s : RegistersView). register_in s c.index.result.now.0 ≡ Some c.index.result.now.1) c.self.view_is
    (holds s c.args.i c.index.result.now c.self.invariant within
    (get_or_read c.self.inside.items.items c.args.i c.index.result.now within c.index.ensures (0, Nil)))
