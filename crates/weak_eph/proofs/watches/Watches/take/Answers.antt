use Rattle.std.proofs.Common.{eqb, arith, sym, ◌∙◌, ap}
use Rattle.std.specs.HashMap.{get}
use Rattle.std.specs.Map.{lookup, remove_entry}
use Rattle.weak_eph.specs.Watching.{chain_at}
use Rattle.weak_eph.proofs.Indexes.{chain_put, chain_others, chain_again, some_is}
use Rattle.weak_eph.proofs.Calls.{first_within, first_back, first_taken, only_taken, one_taken, none_back, none_taken}
use Rattle.weak_eph.proofs.watches.Watches.take.Goals as goal

pub index-requires : goal.index-requires
index-requires g c =
    let some = sym (c.in-Some.ensures.value ∙ ap (get eqb c.self.inside.index) c.word.ensures) in
    let l = first_within _ _ c.args.key _ c.self.invariant some in
    omega (arith, l, c.self.inside.entries.ok.0)

pub invariant_of-self : goal.invariant_of-self
invariant_of-self g c =
    let v = c.in-Some.ensures.value in
    let some = sym (v ∙ ap (get eqb c.self.inside.index) c.word.ensures) in
    let m = c.get_mut.follows.lender c.in-Some.chain.now in
    let n = c.remove.new.self in
    let same = chain_again c.self.inside.index m _ _ ((c.get_mut.follows.holds _).3 (some_is _ _ v)).0 v in
    let u = c.remove.ensures.updates.0 in
    only_taken _ (chain_at c.self.inside.index) c.args.key _ c.self.invariant some _ c.index_mut.ensures.value (chain_at n) (omega arith)
    (chain_put m n _ _ u c.args.key c.word-then-first-chain.ensures)
    (λ q ne. chain_others m n _ _ u c.args.key c.word-then-first-chain.ensures q ne ∙ same q)

pub invariant_of-self-else-first-chain : goal.invariant_of-self-else-first-chain
invariant_of-self-else-first-chain g c =
    let v = c.in-Some.ensures.value in
    let some = sym (v ∙ ap (get eqb c.self.inside.index) c.word.ensures) in
    let n = c.get_mut.follows.lender (record { first = c.index-in-Some.result.now.next; last = c.in-Some.chain.now.last }) in
    let u = ((c.get_mut.follows.holds _).3 (some_is _ _ v)).0 in
    one_taken _ (chain_at c.self.inside.index) c.args.key _ c.self.invariant some _ c.index_mut.ensures.value (chain_at n) _ c.index-in-Some.ensures c.if-first-chain.false
    (chain_put c.self.inside.index n _ _ u c.args.key c.word.ensures)
    (chain_others c.self.inside.index n _ _ u c.args.key c.word.ensures)

pub returns-then-first-chain-clause-first : goal.returns-then-first-chain-clause-first
returns-then-first-chain-clause-first g c =
    let some = sym (c.in-Some.ensures.value ∙ ap (get eqb c.self.inside.index) c.word.ensures) in
    first_back _ (chain_at c.self.inside.index) c.args.key _ c.self.invariant some _ c.index.ensures ∙ ap (lookup (eqb c.args.key)) c.self.view_is

pub returns-then-first-chain-clause-rest : goal.returns-then-first-chain-clause-rest
returns-then-first-chain-clause-rest g c =
    let some = sym (c.in-Some.ensures.value ∙ ap (get eqb c.self.inside.index) c.word.ensures) in
    first_taken _ (chain_at c.self.inside.index) c.args.key _ c.self.invariant some _ c.index_mut.ensures.value ∙ ap (remove_entry (eqb c.args.key)) c.self.view_is

pub returns-else-first-chain-clause-first : goal.returns-else-first-chain-clause-first
returns-else-first-chain-clause-first g c =
    let some = sym (c.in-Some.ensures.value ∙ ap (get eqb c.self.inside.index) c.word.ensures) in
    first_back _ (chain_at c.self.inside.index) c.args.key _ c.self.invariant some _ c.index.ensures ∙ ap (lookup (eqb c.args.key)) c.self.view_is

pub returns-else-first-chain-clause-rest : goal.returns-else-first-chain-clause-rest
returns-else-first-chain-clause-rest g c =
    let some = sym (c.in-Some.ensures.value ∙ ap (get eqb c.self.inside.index) c.word.ensures) in
    first_taken _ (chain_at c.self.inside.index) c.args.key _ c.self.invariant some _ c.index_mut.ensures.value ∙ ap (remove_entry (eqb c.args.key)) c.self.view_is

pub returns-in-None-clause-first : goal.returns-in-None-clause-first
returns-in-None-clause-first g c =
    let none = sym (c.in-None.ensures.value ∙ ap (get eqb c.self.inside.index) c.word.ensures) in
    none_back _ (chain_at c.self.inside.index) c.args.key c.self.invariant none ∙ ap (lookup (eqb c.args.key)) c.self.view_is

pub returns-in-None-clause-rest : goal.returns-in-None-clause-rest
returns-in-None-clause-rest g c =
    let none = sym (c.in-None.ensures.value ∙ ap (get eqb c.self.inside.index) c.word.ensures) in
    none_taken _ (chain_at c.self.inside.index) c.args.key c.self.invariant none ∙ ap (remove_entry (eqb c.args.key)) c.self.view_is
