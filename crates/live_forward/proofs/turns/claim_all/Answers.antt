use Rattle.std.proofs.Common.{◌+◌, ◌<◌, List, [], ◌∷◌, ◌++◌, length, sym, ap, ◌∙◌, subst, arith}
use Rattle.live_forward.specs.Seats.{Seated}
use Rattle.live_forward.specs.Forwarding.{without_rights, split_off}
use Rattle.live_forward.proofs.Claiming.{Claimed, none_claimed, claims_one}
use Rattle.live_forward.proofs.turns.claim_all.Goals as goal

pub loop-init : goal.loop-init
loop-init c = subst (λ (xs : List Seated). Claimed c.args.table.now xs c.args.first 0) (sym c.new-seats.ensures.items) (none_claimed _ _ c.requires.table c.requires.view)

pub claim-requires-clause-table : goal.claim-requires-clause-table
claim-requires-clause-table c = c.loop.invariant.table_is

pub claim-requires-clause-unclaimed : goal.claim-requires-clause-unclaimed
claim-requires-clause-unclaimed c = c.loop.invariant.no_number

pub claim-requires-clause-rights : goal.claim-requires-clause-rights
claim-requires-clause-rights c = let r = c.loop.invariant.rights_are in let t = c.loop-test.true in let n = c.requires.count in omega arith

pub split-next-requires : goal.split-next-requires
split-next-requires c = c.claim.ensures.table ∙ c.loop.invariant.table_is

pub loop-preserved : goal.loop-preserved
loop-preserved c =
    let i = c.loop.invariant in
    let m = c.claim.ensures in
    let s = c.split-next.ensures in
    let l : c.loop.counter < length c.args.table.now.ranges = let t = c.loop-test.true in let n = c.requires.count in omega arith in
    let pushed = c.in_ok-push.ensures.items ∙ ap (λ (x : Seated). c.loop.seats.items ++ x ∷ []) c.replace.ensures.value in
    let next = claims_one c.args.table.now c.loop.seats.items c.loop.seat c.split-next.new.seat c.split-next.result c.loop.counter c.claim.result i
    m.floor m.has_range l
    (s.table ∙ m.table) (s.view ∙ ap without_rights m.view) (s.new_table ∙ m.table) (s.new_view ∙ ap split_off m.view) in
    subst (λ (p : List Seated × Seated). Claimed c.args.table.now p.0 p.1 (c.loop.counter + 1)) (λ k. (sym pushed k, sym c.replace.ensures.after k)) next

pub returns-clause-len : goal.returns-clause-len
returns-clause-len c = let l = c.loop.invariant.len in let f = c.loop-test.false in let a = c.loop.auto.counter-end in omega arith

pub returns-clause-seats : goal.returns-clause-seats
returns-clause-seats c k d l = c.loop.invariant.each k d (let f = c.loop-test.false in omega arith)
