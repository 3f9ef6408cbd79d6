-- What a change of the index makes of the chains.
use Rattle.std.proofs.Common.{◌≡◌, ◌≢◌, ℕ, ◌+◌, ◌*◌, true, false, cond, eqb, ◌∙◌, ap, subst, arith, rules, inl, inr}
use Rattle.std.specs.Prelude.{Option, Some, IsSome}
use Rattle.std.specs.HashMap.{HashMap, get}
use Rattle.std.proofs.lemmas.Bool.{cases_eq}
use Rattle.std.proofs.lemmas.Bool.Decides.{nat_tests}
use Rattle.weak_eph.specs.declared.watches.Chain.{Chain}
use Rattle.weak_eph.specs.Watching.{chain_at}

same_word : (w v : ℕ) → w ≡ v → eqb w v ≡ true
same_word w v e = grind (arith, nat_tests)

other_word : (w v : ℕ) → w ≢ v → eqb w v ≡ false
other_word w v e = grind (arith, nat_tests)

pub some_is : {X : Type 0} (o : Option X) (x : X) → Some x ≡ o → IsSome o
some_is o x e = subst IsSome e (search rules)

module _ {S : Type 0} (m n : HashMap ℕ Chain S) (w : ℕ) (v : Option Chain) (u : (q : ℕ) → get eqb n q ≡ cond (eqb w q) v (get eqb m q)) where
  pub chain_put : (key : ℕ) → w ≡ key * 8 + 1 → chain_at n key ≡ v
  chain_put key e = u (key * 8 + 1) ∙ ap (λ b. cond b v (chain_at m key)) (same_word w (key * 8 + 1) e)

  pub chain_others : (key : ℕ) → w ≡ key * 8 + 1 → (q : ℕ) → q ≢ key → chain_at n q ≡ chain_at m q
  chain_others key e q ne = u (q * 8 + 1) ∙ ap (λ b. cond b v (chain_at m q)) (other_word w (q * 8 + 1) (omega (arith, e, ne)))

  -- what was there is put there again
  pub chain_again : v ≡ get eqb m w → (q : ℕ) → chain_at n q ≡ chain_at m q
  chain_again same q = elim (cases_eq w (q * 8 + 1)) [
    | inl a ↦ u (q * 8 + 1) ∙ ap (λ b. cond b v (chain_at m q)) (same_word w (q * 8 + 1) a) ∙ same ∙ ap (get eqb m) a
    | inr b ↦ u (q * 8 + 1) ∙ ap (λ b. cond b v (chain_at m q)) (other_word w (q * 8 + 1) b)
  ]
