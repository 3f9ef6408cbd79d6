use Rattle.std.proofs.Common.{◌+◌, ◌<◌, length, Some, ap, sym, ◌∙◌, subst, arith}
use Rattle.std.specs.Prelude.{sum, Contains}
use mathlib.Core.Option.{none}
use Rattle.atomic_table.specs.Table.{step}
use Rattle.live_forward.specs.Forwarding.{IsRanged}
use Rattle.live_forward.specs.Seats.{Seated, Words}
use Rattle.live_forward.proofs.Keeps.{loads, loaded}
use Rattle.live_forward.proofs.table.ForwardTable.load.Goals.{then-found-eq0, else-found-eq0}
use Rattle.live_forward.proofs.table.ForwardTable.load.Goals as goal

pub load-found-requires : goal.load-found-requires
load-found-requires c =
    let in' : IsRanged c.self.inside.table.shared.key.items c.args.word = subst (λ (z : Words). IsRanged z.ranges c.args.word) (sym c.self.view_is) c.requires.word in
    let words = c.self.invariant.0 in (
      ap (λ z. z.table) c.seat.view_is ∙ (c.requires.table ∙ sym (ap (λ z. z.table) c.self.view_is)),
      omega arith,
      loads _ _ _ _ _ _ c.seat.invariant.1 in',
    )

pub invariant_of-seat : goal.invariant_of-seat
invariant_of-seat c =
    let i = c.seat.invariant in
    let l = c.load-found.ensures in
    let e = loaded (step 0 c.args.word 0 0 none) _ _ _ l.2 in (
      e.0 ∙ i.0,
      subst (λ r. 0 < length r) (sym e.1) i.1,
      ap (λ r. 1 + sum r) e.1 ∙ (i.2 ∙ sym (ap (λ z. z.words) l.0)),
    )

pub returns-clause-own : goal.returns-clause-own
returns-clause-own c x d =
    let d' : Contains c.seat.inside.seat.me.0.own (c.args.word, x) = subst (λ (z : Seated). Contains z.view.own (c.args.word, x)) (sym c.seat.view_is) d in
    let e = c.load-found.ensures.2.0 x d' in
    elim c.if-found-eq0.branch [
      | then-found-eq0 w ↦ let z = w.if-found-eq0.true in absurd (omega arith)
      | else-found-eq0 w ↦ let p = w.place_in.ensures in w.result-is ∙ ap Some (omega arith)
    ]

pub returns-clause-seen : goal.returns-clause-seen
returns-clause-seen c x d =
    let d' : Contains c.seat.inside.seat.me.0.seen (c.args.word, x) = subst (λ (z : Seated). Contains z.view.seen (c.args.word, x)) (sym c.seat.view_is) d in
    let e = c.load-found.ensures.2.1 x d' in
    elim c.if-found-eq0.branch [
      | then-found-eq0 w ↦ let z = w.if-found-eq0.true in absurd (omega arith)
      | else-found-eq0 w ↦ let p = w.place_in.ensures in w.result-is ∙ ap Some (omega arith)
    ]
