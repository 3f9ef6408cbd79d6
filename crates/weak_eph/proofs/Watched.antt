-- The index stays right when an entry is added and when the first one of a key is taken.
use Rattle.std.proofs.Common.{◌≡◌, ◌≢◌, ℕ, zero, suc, ◌<◌, Bool, true, false, ◌&&◌, eqb, List, [], ◌∷◌, ◌++◌, length, set, refl, sym, ◌∙◌, ap, subst, arith, rules, inl, inr}
use Rattle.std.specs.Prelude.{Option, Some, None, slice_get, is_some}
use Rattle.std.proofs.lemmas.Bool.{cases_eq}
use Rattle.std.proofs.lemmas.Bool.Decides.{nat_tests}
use Rattle.std.proofs.lemmas.Option.{slice_get_past}
use Rattle.weak_eph.specs.declared.watches.Entry.{Entry}
use Rattle.weak_eph.specs.declared.watches.Chain.{Chain}
use Rattle.weak_eph.specs.Watching.{IsChain, IsChainOf, IsIndexed, is_for, waits_at, next_of, next_at}
use Rattle.weak_eph.proofs.Chains.{chain_stays, chain_begins, chain_grows, chain_ends, chain_shrinks, not_true}
use Rattle.weak_eph.proofs.Tables.{slice_get-set_same, slice_get-set_other, slice_get-push_here, slice_get-push_other}

and_true : (a b : Bool) → a ≡ true → b ≡ true → (a && b) ≡ true
and_true a b h k = search (rules, h, k)

and_false : (a b : Bool) → a ≡ false → (a && b) ≡ false
and_false a b h = rw h refl

and_last_false : (a b : Bool) → b ≡ false → (a && b) ≡ false
and_last_false true b h = h
and_last_false false b h = refl

first_true : (a b : Bool) → (a && b) ≡ true → a ≡ true
first_true true b h = refl
first_true false b h = h

same_key : (a b : ℕ) → eqb a b ≡ true → a ≡ b
same_key a b h = grind (arith, nat_tests)

own_key : (a : ℕ) → eqb a a ≡ true
own_key a = grind (arith, nat_tests)

other_key : (a b : ℕ) → a ≢ b → eqb a b ≡ false
other_key a b h = grind (arith, nat_tests)

module _ {B : Type 0} where
  -- what the two chains of a key say is said of another pair of tests
  pub at_key : (es : List (Entry B)) (chain : ℕ → Option Chain) (key q : ℕ) (o : Option Chain) → q ≡ key → chain key ≡ o → IsChainOf (waits_at es key) (next_at es) o → IsChainOf (waits_at es q) (next_at es) (chain q)
  at_key es chain key q o e c h = subst (λ k. IsChainOf (waits_at es k) (next_at es) (chain k)) (sym e) (subst (λ p. IsChainOf (waits_at es key) (next_at es) p) (sym c) h)

  pub waits_within : (es : List (Entry B)) (key i : ℕ) → waits_at es key i ≡ true → i < length es
  waits_within [] key i h = search (rules, h)
  waits_within (x ∷ es) key zero h = omega arith
  waits_within (x ∷ es) key (suc i) h = omega (arith, waits_within es key i h)

  pub is_for_own : (e : Entry B) → is_some e.back ≡ true → is_for e.key (Some e) ≡ true
  is_for_own e s = and_true _ _ (own_key e.key) s

  pub is_for_other : (e : Entry B) (q : ℕ) → q ≢ e.key → is_for q (Some e) ≡ false
  is_for_other e q ne = and_false _ _ (other_key q e.key ne)

  pub is_for_taken : (e : Entry B) (q : ℕ) → e.back ≡ None → is_for q (Some e) ≡ false
  is_for_taken e q n = and_last_false (eqb q e.key) (is_some e.back) (ap is_some n)

  pub key_of_waiting : (es : List (Entry B)) (key i : ℕ) (e : Entry B) → slice_get es i ≡ Some e → waits_at es key i ≡ true → key ≡ e.key
  key_of_waiting es key i e g h = same_key key e.key (first_true _ (is_some e.back) (sym (ap (is_for key) g) ∙ h))

  -- nobody waits for two keys at one place
  pub one_key : (o : Option (Entry B)) (q r : ℕ) → is_for q o ≡ true → is_for r o ≡ true → q ≡ r
  one_key None q r h k = search (rules, h)
  one_key (Some e) q r h k = same_key q e.key (first_true _ (is_some e.back) h) ∙ sym (same_key r e.key (first_true _ (is_some e.back) k))

  -- a push
  module _ (es : List (Entry B)) (e : Entry B) where
    push_here : is_some e.back ≡ true → waits_at (es ++ e ∷ []) e.key (length es) ≡ true
    push_here s = ap (is_for e.key) (slice_get-push_here es e) ∙ is_for_own e s

    push_other : (q i : ℕ) → i ≢ length es → waits_at (es ++ e ∷ []) q i ≡ waits_at es q i
    push_other q i ne = ap (is_for q) (slice_get-push_other es e i ne)

    push_foreign : (q : ℕ) → q ≢ e.key → (i : ℕ) → waits_at (es ++ e ∷ []) q i ≡ waits_at es q i
    push_foreign q ne i = elim (cases_eq i (length es)) [
      | inl a ↦ ap (waits_at (es ++ e ∷ []) q) a ∙ ap (is_for q) (slice_get-push_here es e) ∙ is_for_other e q ne ∙ sym (ap (is_for q) (slice_get_past es i (omega (arith, a))))
      | inr b ↦ push_other q i b
    ]

    push_next : (i : ℕ) → i ≢ length es → next_at (es ++ e ∷ []) i ≡ next_at es i
    push_next i ne = ap next_of (slice_get-push_other es e i ne)

    pub add_first : (chain chain' : ℕ → Option Chain) → IsIndexed es chain → chain e.key ≡ None → is_some e.back ≡ true
        → chain' e.key ≡ Some (record { first = length es; last = length es }) → ((q : ℕ) → q ≢ e.key → chain' q ≡ chain q) → IsIndexed (es ++ e ∷ []) chain'
    add_first chain chain' h none s new others q = elim (cases_eq q e.key) [
      | inl a ↦ at_key _ chain' e.key q _ a new
          (chain_begins (waits_at es e.key) _ (next_at es) _ (length es) (subst (λ o. IsChainOf (waits_at es e.key) (next_at es) o) none (h e.key)) (push_here s) (push_other e.key))
      | inr b ↦ subst (λ o. IsChainOf (waits_at (es ++ e ∷ []) q) (next_at (es ++ e ∷ [])) o) (sym (others q b))
          (chain_stays (waits_at es q) _ (next_at es) _ (chain q) (h q) (push_foreign q b) (λ i t. push_next i (omega (arith, waits_within es q i t))))
    ]

    pub add_more : (chain chain' : ℕ → Option Chain) (c : Chain) (p d : Entry B) → IsIndexed es chain → chain e.key ≡ Some c → is_some e.back ≡ true
        → slice_get (es ++ e ∷ []) c.last ≡ Some p → d.key ≡ p.key → d.back ≡ p.back → d.next ≡ length es
        → chain' e.key ≡ Some (record { first = c.first; last = length es }) → ((q : ℕ) → q ≢ e.key → chain' q ≡ chain q) → IsIndexed (set (es ++ e ∷ []) c.last d) chain'
    add_more chain chain' c p d h some s got k b n new others q =
        let old : IsChain (waits_at es e.key) (next_at es) c = subst (λ o. IsChainOf (waits_at es e.key) (next_at es) o) some (h e.key) in
        let below : c.last < length es = waits_within es e.key c.last old.last in
        let written : slice_get (set (es ++ e ∷ []) c.last d) c.last ≡ Some d = slice_get-set_same (es ++ e ∷ []) c.last p d got in
        let like : (r : ℕ) → is_for r (Some d) ≡ is_for r (Some p) = λ r. rw (k, b) refl in
        let waits : (r i : ℕ) → waits_at (set (es ++ e ∷ []) c.last d) r i ≡ waits_at (es ++ e ∷ []) r i = λ r i. elim (cases_eq i c.last) [
          | inl a ↦ ap (waits_at (set (es ++ e ∷ []) c.last d) r) a ∙ ap (is_for r) written ∙ like r ∙ sym (ap (is_for r) got) ∙ sym (ap (waits_at (es ++ e ∷ []) r) a)
          | inr ne ↦ ap (is_for r) (slice_get-set_other (es ++ e ∷ []) c.last i d ne)
        ] in
        let next : (i : ℕ) → i ≢ c.last → i < length es → next_at (set (es ++ e ∷ []) c.last d) i ≡ next_at es i = λ i ne l. ap next_of (slice_get-set_other (es ++ e ∷ []) c.last i d ne) ∙ push_next i (omega (arith, l)) in
        elim (cases_eq q e.key) [
          | inl a ↦ at_key _ chain' e.key q _ a new
              (chain_grows (waits_at es e.key) _ (next_at es) _ (length es) c old below (waits e.key (length es) ∙ push_here s) (λ i ne. waits e.key i ∙ push_other e.key i ne) (ap next_of written ∙ n) next)
          | inr ne ↦ subst (λ o. IsChainOf (waits_at (set (es ++ e ∷ []) c.last d) q) (next_at (set (es ++ e ∷ []) c.last d)) o) (sym (others q ne))
              (chain_stays (waits_at es q) _ (next_at es) _ (chain q) (h q) (λ i. waits q i ∙ push_foreign q ne i)
              (λ i t. next i (λ z. ne (one_key (slice_get es i) q e.key t (subst (λ j. waits_at es e.key j ≡ true) (sym z) old.last))) (waits_within es q i t)))
        ]

  -- the first place of a key is taken
  module _ (es : List (Entry B)) (chain chain' : ℕ → Option Chain) (key : ℕ) (c : Chain) (e d : Entry B) (h : IsIndexed es chain) (some : chain key ≡ Some c) (got : slice_get es c.first ≡ Some e)
      (taken : d.back ≡ None) (kept : d.next ≡ e.next) (others : (q : ℕ) → q ≢ key → chain' q ≡ chain q) where
    old : IsChain (waits_at es key) (next_at es) c
    old = subst (λ o. IsChainOf (waits_at es key) (next_at es) o) some (h key)

    written : slice_get (set es c.first d) c.first ≡ Some d
    written = slice_get-set_same es c.first e d got

    gone : (q : ℕ) → waits_at (set es c.first d) q c.first ≡ false
    gone q = ap (is_for q) written ∙ is_for_taken d q taken

    else_waits : (q i : ℕ) → i ≢ c.first → waits_at (set es c.first d) q i ≡ waits_at es q i
    else_waits q i ne = ap (is_for q) (slice_get-set_other es c.first i d ne)

    foreign : (q : ℕ) → q ≢ key → (i : ℕ) → waits_at (set es c.first d) q i ≡ waits_at es q i
    foreign q ne i = elim (cases_eq i c.first) [
      | inl a ↦ ap (waits_at (set es c.first d) q) a ∙ gone q ∙ sym (not_true (waits_at es q i) (λ t. ne (one_key (slice_get es i) q key t (subst (λ j. waits_at es key j ≡ true) (sym a) old.first))))
      | inr b ↦ else_waits q i b
    ]

    next_stays : (i : ℕ) → next_at (set es c.first d) i ≡ next_at es i
    next_stays i = elim (cases_eq i c.first) [
      | inl a ↦ ap (next_at (set es c.first d)) a ∙ ap next_of written ∙ kept ∙ sym (ap next_of got) ∙ sym (ap (next_at es) a)
      | inr b ↦ ap next_of (slice_get-set_other es c.first i d b)
    ]

    of_others : (q : ℕ) → q ≢ key → IsChainOf (waits_at (set es c.first d) q) (next_at (set es c.first d)) (chain' q)
    of_others q ne = subst (λ o. IsChainOf (waits_at (set es c.first d) q) (next_at (set es c.first d)) o) (sym (others q ne))
        (chain_stays (waits_at es q) _ (next_at es) _ (chain q) (h q) (foreign q ne) (λ i t. next_stays i))

    pub take_only : c.first ≡ c.last → chain' key ≡ None → IsIndexed (set es c.first d) chain'
    take_only only new q = elim (cases_eq q key) [
      | inl a ↦ at_key _ chain' key q None a new (chain_ends (waits_at es key) _ (next_at es) c old (gone key) (else_waits key) only)
      | inr b ↦ of_others q b
    ]

    pub take_first : c.first ≢ c.last → chain' key ≡ Some (record { first = e.next; last = c.last }) → IsIndexed (set es c.first d) chain'
    take_first more new q =
        let is : next_at es c.first ≡ e.next = ap next_of got in
        let left : IsChain (waits_at (set es c.first d) key) (next_at es) (record { first = next_at es c.first; last = c.last }) = chain_shrinks (waits_at es key) _ (next_at es) c old (gone key) (else_waits key) more in
        elim (cases_eq q key) [
          | inl a ↦ at_key _ chain' key q _ a (new ∙ ap (λ f. Some (record { first = f; last = c.last })) (sym is))
              (chain_stays (waits_at (set es c.first d) key) _ (next_at es) _ (Some (record { first = next_at es c.first; last = c.last })) left (λ i. refl) (λ i t. next_stays i))
          | inr b ↦ of_others q b
        ]
