use Rattle.std.proofs.Common.{rules, ◌≡◌, ◌≢◌, ℕ, ◌+◌, ◌<◌, List, [], ◌∷◌, ◌++◌, length, set, get_or, Contains, refl, ◌∙◌, ap, subst, arith}
use Rattle.std.proofs.lemmas.List.{length-set}
use Rattle.seg_chain.specs.Lists.{times, without, chain_of}
use Rattle.seg_chain.specs.Linked.{IsLinked}
use Rattle.seg_chain.proofs.Counts.{times_from_index}
use Rattle.seg_chain.proofs.Moves.{loosened, last_within, moved_linked, neighbours, relinked, lists_are, each_once, count_is}
use Rattle.seg_chain.proofs.chains.Chains.move_last.Goals as goal

Near : ℕ → List ℕ → List ℕ → ℕ → Type 0
Near h next prev x = (h + x < length next) × (get_or next (h + x) 0 < length next) × (get_or prev (h + x) 0 < length next)

near : (h : ℕ) (next prev : List ℕ) (lists now : List (List ℕ)) (from x : ℕ) → IsLinked h next prev lists → lists ≡ now → from < length now → Contains (chain_of now from) x
    → (h + x < length next) × (get_or next (h + x) 0 < length next) × (get_or prev (h + x) 0 < length next)
near h next prev lists now from x l e below m =
    let l' : IsLinked h next prev now = subst (λ w. IsLinked h next prev w) e l in
    let n : 0 < times x (chain_of now from) = times_from_index (chain_of now from) x m.0 m.1 m.2 in
    neighbours h next prev now from x l' (omega (arith, l'.chains)) n

loose : (h : ℕ) (next prev : List ℕ) (lists now : List (List ℕ)) (from to x : ℕ) → IsLinked h next prev lists → lists ≡ now → from < length now → to < length now → Contains (chain_of now from) x
    → (next1 prev1 : List ℕ) → next1 ≡ set next (get_or prev (h + x) 0) (get_or next (h + x) 0) → prev1 ≡ set prev (get_or next (h + x) 0) (get_or prev (h + x) 0)
    → (h + x < length next1) × (get_or prev1 to 0 < length next1)
loose h next prev lists now from to x l e below below' m next1 prev1 e1 f1 =
    let l' : IsLinked h next prev now = subst (λ w. IsLinked h next prev w) e l in
    let n : 0 < times x (chain_of now from) = times_from_index (chain_of now from) x m.0 m.1 m.2 in
    last_within x h next1 prev1 (set now from (without x (chain_of now from))) to (loosened h next prev now from x l' (omega (arith, l'.chains)) n next1 prev1 e1 f1) (omega (arith, l'.chains))

after : (h : ℕ) (next prev : List ℕ) (lists now : List (List ℕ)) (from to x : ℕ) → IsLinked h next prev lists → lists ≡ now → from < length now → to < length now → to ≢ from → Contains (chain_of now from) x
    → (next1 prev1 next2 prev2 : List ℕ) → next1 ≡ set next (get_or prev (h + x) 0) (get_or next (h + x) 0) → prev1 ≡ set prev (get_or next (h + x) 0) (get_or prev (h + x) 0)
    → next2 ≡ set (set next1 (get_or prev1 to 0) (h + x)) (h + x) to → prev2 ≡ set (set prev1 (h + x) (get_or prev1 to 0)) to (h + x)
    → IsLinked h next2 prev2 (set (set now from (without x (chain_of now from))) to (chain_of now to ++ x ∷ []))
after h next prev lists now from to x l e below below' ne m next1 prev1 next2 prev2 e1 f1 e2 f2 =
    let l' : IsLinked h next prev now = subst (λ w. IsLinked h next prev w) e l in
    let n : 0 < times x (chain_of now from) = times_from_index (chain_of now from) x m.0 m.1 m.2 in
    moved_linked h now from to x (without x (chain_of now from)) next1 prev1 (loosened h next prev now from x l' (omega (arith, l'.chains)) n next1 prev1 e1 f1) (omega (arith, l'.chains)) ne next2 prev2 e2 f2

pub overflow_add-node : goal.overflow_add-node
overflow_add-node c = let n = (near _ _ _ _ _ _ _ c.self.invariant c.self.view_is c.requires.from_in c.requires.linked).0 in search rules

pub detach-requires-clause-node_in : goal.detach-requires-clause-node_in
detach-requires-clause-node_in c = (near _ _ _ _ _ _ _ c.self.invariant c.self.view_is c.requires.from_in c.requires.linked).0

pub detach-requires-clause-next_in : goal.detach-requires-clause-next_in
detach-requires-clause-next_in c = (near _ _ _ _ _ _ _ c.self.invariant c.self.view_is c.requires.from_in c.requires.linked).1

pub detach-requires-clause-prev_in : goal.detach-requires-clause-prev_in
detach-requires-clause-prev_in c = (near _ _ _ _ _ _ _ c.self.invariant c.self.view_is c.requires.from_in c.requires.linked).2

pub attach-requires-clause-node_in : goal.attach-requires-clause-node_in
attach-requires-clause-node_in c = (loose _ _ _ _ _ _ _ _ c.self.invariant c.self.view_is c.requires.from_in c.requires.to_in c.requires.linked _ _ c.detach.ensures.next c.detach.ensures.prev).0

pub attach-requires-clause-prev_in : goal.attach-requires-clause-prev_in
attach-requires-clause-prev_in c = (loose _ _ _ _ _ _ _ _ c.self.invariant c.self.view_is c.requires.from_in c.requires.to_in c.requires.linked _ _ c.detach.ensures.next c.detach.ensures.prev).1

pub invariant_of-self : goal.invariant_of-self
invariant_of-self c =
    relinked _ _ _ _ (after _ _ _ _ _ _ _ _ c.self.invariant c.self.view_is c.requires.from_in c.requires.to_in c.requires.other c.requires.linked _ _ _ _ c.detach.ensures.next c.detach.ensures.prev c.attach.ensures.next c.attach.ensures.prev)

moved_length : (next next1 next2 : List ℕ) (a b c d e f : ℕ) → next1 ≡ set next a b → next2 ≡ set (set next1 c d) e f → length next2 ≡ length next
moved_length next next1 next2 a b c d e f is is' = ap length is' ∙ (simp length-set (ap length is ∙ simp length-set))

pub returns : goal.returns
returns c =
    let l = after _ _ _ _ _ _ _ _ c.self.invariant c.self.view_is c.requires.from_in c.requires.to_in c.requires.other c.requires.linked _ _ _ _ c.detach.ensures.next c.detach.ensures.prev c.attach.ensures.next c.attach.ensures.prev in
    record {
      lists = lists_are _ _ _ _ l;
      links = omega (arith, count_is _ _ _ _ _ c.self.invariant c.self.view_is, count_is _ _ _ _ _ (relinked _ _ _ _ l) refl, moved_length _ _ _ _ _ _ _ _ _ c.detach.ensures.next c.attach.ensures.next);
      each_once = each_once _ _ _ _ _ (relinked _ _ _ _ l) refl;
    }
