use Rattle.std.proofs.Common.{ℕ, ◌+◌, ◌<◌, length, ap, sym, ◌∙◌, subst, arith}
use Rattle.std.specs.Prelude.{sum}
use Rattle.atomic_table.specs.Table.{Me}
use Rattle.live_forward.specs.declared.view.View.{View}
use Rattle.live_forward.specs.Forwarding.{Owns, Records}
use Rattle.live_forward.specs.Seats.{Seated}
use Rattle.live_forward.proofs.Keeps.{stores, within_ranged}
use Rattle.live_forward.proofs.table.ForwardTable.store_own.Goals as goal

pub store-requires : goal.store-requires
store-requires c =
    let is = c.seat.view_is in
    let i = c.seat.invariant in
    let own : Owns c.seat.inside.seat.me.0 c.args.word = subst (λ (z : Seated). Owns z.view c.args.word) (sym is) c.requires.own in
    let in' = within_ranged c.seat.inside.seat.me.0.ranges own.0 c.args.word own.2 in
    let same = ap (λ z. z.table) is ∙ (c.requires.table ∙ sym (ap (λ z. z.table) c.self.view_is)) in
    let words = ap (λ z. z.words) same in
    let code = c.encode-code.ensures in (
      same,
      omega arith,
      stores _ _ _ _ _ _ _ c.args.place own (λ r. c.requires.fresh (subst (λ (z : Seated). Records z.view.own c.args.word) is r)) code.word (c.args.place, code.round_trip),
    )

pub invariant_of-seat : goal.invariant_of-seat
invariant_of-seat c =
    let i = c.seat.invariant in
    let s = c.store.ensures in
    let e = s.2 c.args.place c.encode-code.ensures.word in (
      ap (λ (m : Me ℕ View). m.1) e ∙ i.0,
      subst (λ (m : Me ℕ View). 0 < length m.0.ranges) (sym e) i.1,
      ap (λ (m : Me ℕ View). 1 + sum m.0.ranges) e ∙ (i.2 ∙ sym (ap (λ z. z.words) s.0)),
    )
