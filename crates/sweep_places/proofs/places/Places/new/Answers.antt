use Rattle.std.proofs.Common.{sym, ap, subst, length}
use Rattle.sweep_places.specs.Places.{ArePlaces}
use Rattle.sweep_places.proofs.Entries.{none_noted}
use Rattle.sweep_places.proofs.places.Places.new.Goals as goal

pub invariant_of-result : goal.invariant_of-result
invariant_of-result c = (
  subst (λ d. ArePlaces d c.args.number c.first_word-first.result c.in_ok-table.table.items c.new.result.items) (sym c.of.ensures)
      (subst (λ l. ArePlaces c.args.directory.now c.args.number c.first_word-first.result l c.new.result.items) (sym c.in_ok-table.ensures)
      (subst (ArePlaces c.args.directory.now c.args.number c.first_word-first.result _) (sym c.new.ensures)
      (none_noted c.args.directory.now c.args.number c.first_word-first.result c.range.result c.requires c.first_word-first.ensures
      c.range.ensures.value c.range.ensures.own c.range.ensures.apart))),
  sym (ap length c.new.ensures),
)
