use Rattle.std.proofs.Common.{eqb, refl, arith, length, sym, ap, ◌∙◌}
use Rattle.std.specs.Map.{lookup}
use Rattle.weak_eph.specs.Slots.{fate}
use Rattle.weak_eph.proofs.Halfway.{halfway_none, halfway_all, length-halfway, waits_there, settles_one}
use Rattle.weak_eph.proofs.settling.settle.Goals as goal
use Rattle.weak_eph.proofs.settling.settle.Goals.{in-Some, in-None}

pub loop-n-init : goal.loop-n-init
loop-n-init g c = (halfway_none _ _, refl)

pub key-requires : goal.key-requires
key-requires g c =
    let same = ap length c.loop-n.invariant.0 in
    let long = length-halfway (g.F.WeakFields.kept c.args.fields.now) (g.F.WeakFields.slots c.args.fields.now) c.loop-n.n in
    omega (arith, same, long, c.loop-n-test.true, c.pending-n-end.ensures)

pub fix-requires : goal.fix-requires
fix-requires g c = let k = c.key.ensures in (k.0, k.1, waits_there _ _ _ _ _ c.requires c.loop-n.invariant.0 k.1)

pub break_slot-requires : goal.break_slot-requires
break_slot-requires g c = let k = c.key.ensures in (k.0, k.1, waits_there _ _ _ _ _ c.requires c.loop-n.invariant.0 k.1)

pub loop-n-preserved : goal.loop-n-preserved
loop-n-preserved g c =
    let k = c.key.ensures in
    let found = c.kept_at.ensures ∙ ap (λ q. lookup (eqb q) (g.F.WeakFields.kept c.loop-n.fields)) (sym k.2) ∙ ap (lookup (eqb k.0.key)) c.loop-n.invariant.1 in
    elim c.match-kept_at.branch [
      | in-Some w ↦ (
        settles_one _ _ _ _ _ _ _ c.loop-n.invariant.0 k.1 (ap fate (sym w.in-Some.is ∙ found)) (ap g.F.WeakFields.slots w.fields-is ∙ w.fix.ensures.slots),
        ap g.F.WeakFields.kept w.fields-is ∙ w.fix.ensures.kept ∙ c.loop-n.invariant.1,
      )
      | in-None w ↦ (
        settles_one _ _ _ _ _ _ _ c.loop-n.invariant.0 k.1 (ap fate (sym w.in-None.is ∙ found)) (ap g.F.WeakFields.slots w.fields-is ∙ w.break_slot.ensures.slots),
        ap g.F.WeakFields.kept w.fields-is ∙ w.break_slot.ensures.kept ∙ c.loop-n.invariant.1,
      )
    ]

pub returns : goal.returns
returns g c = record {
  slots = c.loop-n.invariant.0 ∙ halfway_all _ _ _ (omega (arith, c.loop-n-test.false, c.pending-n-end.ensures));
  kept = c.loop-n.invariant.1;
}
