use Rattle.std.proofs.Common.{eqb, [], ◌∷◌, ◌++◌, arith, sym, ◌∙◌, ap}
use Rattle.std.specs.HashMap.{get}
use Rattle.weak_eph.specs.Watching.{chain_at}
use Rattle.weak_eph.proofs.Indexes.{chain_put, chain_others, chain_again, some_is}
use Rattle.weak_eph.proofs.Calls.{indexed_again, first_added, first_shown, next_added, next_shown, last_within}
use Rattle.weak_eph.proofs.watches.Watches.add.Goals as goal

pub invariant_of-self : goal.invariant_of-self
invariant_of-self g c =
    let v = c.in-Some.ensures.value in
    let u = (c.get_mut.follows.holds c.in-Some.chain.now).3 (some_is _ _ v) in
    indexed_again _ _ _ _ c.in_err-push-in-Some.ensures.items (chain_again c.self.inside.index (c.get_mut.follows.lender c.in-Some.chain.now) _ _ u.0 v) c.self.invariant

pub index_mut-requires : goal.index_mut-requires
index_mut-requires g c =
    let v = c.in-Some.ensures.value in
    let some = sym (v ∙ ap (get eqb c.self.inside.index) c.word.ensures) in
    let l = last_within _ _ c.args.key _ c.self.invariant some in
    omega (arith, l, c.self.inside.entries.ok.0, c.in_ok-push-in-Some.ensures.len)

pub invariant_of-self-in-Some : goal.invariant_of-self-in-Some
invariant_of-self-in-Some g c =
    let v = c.in-Some.ensures.value in
    let some = sym (v ∙ ap (get eqb c.self.inside.index) c.word.ensures) in
    let l = last_within _ _ c.args.key _ c.self.invariant some in
    let u = ((c.get_mut.follows.holds _).3 (some_is _ _ v)).0 in
    let n = c.get_mut.follows.lender (record { first = c.in-Some.chain.now.first; last = c.len-place.result }) in
    next_added _ _ c.args.key _ c.args.back c.in_ok-push-in-Some.ensures.items (omega (arith, c.len-place.ensures, c.self.inside.entries.ok.0)) _ _ l c.index_mut.ensures.value
    (chain_at c.self.inside.index) (chain_at n) c.self.invariant some
    (chain_put c.self.inside.index n _ _ u c.args.key c.word.ensures) (chain_others c.self.inside.index n _ _ u c.args.key c.word.ensures)

pub invariant_of-self-in-Ok : goal.invariant_of-self-in-Ok
invariant_of-self-in-Ok g c =
    let u = c.in-Ok.ensures.updates.0 in
    let m = c.get_mut.follows.lender-at-none in
    let n = c.insert.new.self in
    let none = sym (c.in-None.ensures.value ∙ ap (get eqb c.self.inside.index) c.word.ensures) in
    first_added _ _ c.args.key _ c.args.back c.in_ok-push-in-None.ensures.items (omega (arith, c.len-place.ensures, c.self.inside.entries.ok.0))
    (chain_at c.self.inside.index) (chain_at n) c.self.invariant none
    (chain_put m n _ _ u c.args.key c.word-in-None.ensures)
    (λ q ne. chain_others m n _ _ u c.args.key c.word-in-None.ensures q ne ∙ ap (λ i. chain_at i q) c.get_mut.follows.holds-at-none)

pub returns-in_ok-push-in-Some-clause-ok : goal.returns-in_ok-push-in-Some-clause-ok
returns-in_ok-push-in-Some-clause-ok g c =
    let v = c.in-Some.ensures.value in
    let some = sym (v ∙ ap (get eqb c.self.inside.index) c.word.ensures) in
    let l = last_within _ _ c.args.key _ c.self.invariant some in
    let shown = next_shown c.self.inside.entries.items _ c.args.key c.len-place.result c.args.back c.in_ok-push-in-Some.ensures.items (omega (arith, c.len-place.ensures, c.self.inside.entries.ok.0)) c.in-Some.chain.now c.index_mut.result.now l c.index_mut.ensures.value in
    shown ∙ ap (λ ps. ps ++ (c.args.key, c.args.back) ∷ []) c.self.view_is

pub returns-in-Ok-clause-ok : goal.returns-in-Ok-clause-ok
returns-in-Ok-clause-ok g c =
    let shown = first_shown c.self.inside.entries.items _ c.args.key c.len-place.result c.args.back c.in_ok-push-in-None.ensures.items (omega (arith, c.len-place.ensures, c.self.inside.entries.ok.0)) in
    shown ∙ ap (λ ps. ps ++ (c.args.key, c.args.back) ∷ []) c.self.view_is
