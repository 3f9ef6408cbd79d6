use Rattle.std.proofs.Common.{ℕ, sym, ap, subst, ◌∙◌}
use Rattle.sweep_share.specs.Registers.{AreRegistersOf, RegistersView}
use Rattle.sweep_share.specs.Shares.{ShareView}
use Rattle.sweeper.proofs.Begun.{begun}
use Rattle.sweeper.proofs.sweeper.Sweeper.new.Goals as goal

pub ask_registers-requires : goal.ask_registers-requires
ask_registers-requires c =
    subst (λ (w : RegistersView). AreRegistersOf w.number w.sweepers w.items) (sym c.new-registers.ensures)
    (subst (λ n. AreRegistersOf c.args.number n c.args.registers.items) (sym c.sweepers-sweepers.ensures.value)
    c.requires.registers)

pub returns-clause-begun : goal.returns-clause-begun
returns-clause-begun c = λ world good begins.
    begun world c.args.number c.args.directory.now c.args.territories.items c.args.registers.items
    c.take_spare.new.self
    c.raise_cards.new.self c.new-registers.result c.in_ok-places.places
    (record { inbox = c.new-inbox.result; outbox = c.new-outbox.result }) c.ask_registers.new.self
    c.ask_territories.new.self
    c.cg.result c.requires.territories c.requires.registers
    (c.take_spare.ensures ∙ c.in_ok-share.ensures ∙ ap (λ (n : ℕ). let w : ShareView = record {
      number = c.args.number;
      sweepers = n;
      territories = c.args.territories.items;
    } in w) c.sweepers-sweepers.ensures.value)
    (c.new-registers.ensures ∙ ap (λ (n : ℕ). let w : RegistersView = record {
      number = c.args.number;
      sweepers = n;
      items = c.args.registers.items;
    } in w) c.sweepers-sweepers.ensures.value)
    c.in_ok-places.ensures c.new-inbox.ensures c.new-outbox.ensures c.in_ok-ask_registers.ensures
    c.in_ok-ask_territories.ensures.asked
    c.in_ok-ask_territories.ensures.told c.cg.ensures.value c.raise_cards.ensures good begins
