use Rattle.std.proofs.Common.{◌≡◌, length, Some, ap, ◌∙◌, arith}
use Rattle.std.specs.FinMap.{get}
use Rattle.territory.specs.Territories.{fresh_start, words_of}
use Rattle.trace_types.specs.declared.kind.Kind.TheVariants.{Pair}
use Rattle.territory.proofs.Slots.{get_here}
use Rattle.sweep_places.proofs.tests.begun.Goals as goal

pub put-requires : goal.put-requires
put-requires c =
    let made : get c.allocate-2.new.self.starts c.in_ok-second.second ≡ Some (fresh_start Pair 2 0 2) =
    ap (λ m. get m c.in_ok-second.second) c.in_ok-second.ensures.starts
    ∙ get_here c.allocate.new.self.starts c.in_ok-second.second (fresh_start Pair 2 0 2) in
    omega (arith, ap (λ o. length (words_of o)) made)
