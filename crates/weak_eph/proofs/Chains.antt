-- What adding a place to a chain and taking its first place away make of it.
use Rattle.std.proofs.Common.{◌≡◌, ◌≢◌, ℕ, ◌<◌, Bool, true, false, refl, sym, ◌∙◌, ap, subst, arith, rules, inl, inr}
use Rattle.std.proofs.lemmas.Bool.{cases_eq, cases_lt}
use Rattle.std.specs.Prelude.{Option, Some, None}
use Rattle.weak_eph.specs.declared.watches.Chain.{Chain}
use Rattle.weak_eph.specs.Watching.{IsChain, IsChainOf}

pub not_both : (b : Bool) → b ≡ true → b ≡ false → ⊥
not_both true t f = search (rules, f)
not_both false t f = search (rules, t)

pub not_true : (b : Bool) → (b ≡ true → ⊥) → b ≡ false
not_true true h = absurd (h refl)
not_true false h = refl

module _ (waits waits' : ℕ → Bool) (next next' : ℕ → ℕ) where
  -- a chain that nothing happened to
  pub chain_stays : (o : Option Chain) → IsChainOf waits next o → ((i : ℕ) → waits' i ≡ waits i) → ((i : ℕ) → waits i ≡ true → next' i ≡ next i) → IsChainOf waits' next' o
  chain_stays None h w n = λ i. w i ∙ h i
  chain_stays (Some c) h w n = record {
    first = w c.first ∙ h.first;
    last = w c.last ∙ h.last;
    within = λ i t. h.within i (sym (w i) ∙ t);
    goes_on = λ i t l.
        let u : waits i ≡ true = sym (w i) ∙ t in
        let g = h.goes_on i u l in
        (omega (arith, n i u, g.0), subst (λ k. waits' k ≡ true) (sym (n i u)) (w (next i) ∙ g.1));
    nearest = λ i j t l a b.
        let u : waits i ≡ true = sym (w i) ∙ t in
        w j ∙ h.nearest i j u l a (omega (arith, n i u, b));
  }

  -- the first place that waits for a key
  pub chain_begins : (n : ℕ) → ((i : ℕ) → waits i ≡ false) → waits' n ≡ true → ((i : ℕ) → i ≢ n → waits' i ≡ waits i) → IsChain waits' next' (record { first = n; last = n })
  chain_begins n none t w =
      let only : (i : ℕ) → waits' i ≡ true → i ≡ n = λ i u. elim (cases_eq i n) [ inl e ↦ e | inr ne ↦ absurd (not_both (waits' i) u (w i ne ∙ none i)) ] in
      record {
        first = t;
        last = t;
        within = λ i u. (omega (arith, only i u), omega (arith, only i u));
        goes_on = λ i u l. absurd (omega (arith, only i u, l));
        nearest = λ i j u l a b. absurd (omega (arith, only i u, l));
      }

  -- one place more at the end
  pub chain_grows : (n : ℕ) (c : Chain) → IsChain waits next c → c.last < n → waits' n ≡ true → ((i : ℕ) → i ≢ n → waits' i ≡ waits i)
      → next' c.last ≡ n → ((i : ℕ) → i ≢ c.last → i < n → next' i ≡ next i) → IsChain waits' next' (record { first = c.first; last = n })
  chain_grows n c h below t w e s =
      let first_below : c.first < n = omega (arith, h.within c.last h.last, below) in
      let was : (i : ℕ) → i ≢ n → waits' i ≡ true → waits i ≡ true = λ i ne u. sym (w i ne) ∙ u in
      record {
        first = w c.first (omega (arith, first_below)) ∙ h.first;
        last = t;
        within = λ i u. elim (cases_eq i n) [
          | inl a ↦ (omega (arith, first_below, a), omega (arith, a))
          | inr ne ↦ let k = h.within i (was i ne u) in (k.0, omega (arith, k.1, below))
        ];
        goes_on = λ i u l.
            let k = was i (omega (arith, l)) u in
            elim (cases_eq i c.last) [
              | inl a ↦ let f : next' i ≡ n = ap next' a ∙ e in (omega (arith, f, l), subst (λ j. waits' j ≡ true) (sym f) t)
              | inr ne ↦
                  let g = h.goes_on i k (omega (arith, h.within i k, ne)) in
                  let f : next' i ≡ next i = s i ne l in
                  let before = h.within (next i) g.1 in
                  (omega (arith, f, g.0), subst (λ j. waits' j ≡ true) (sym f) (w (next i) (omega (arith, before.1, below)) ∙ g.1))
            ];
        nearest = λ i j u l a b.
            let k = was i (omega (arith, l)) u in
            elim (cases_eq i c.last) [
              | inl q ↦
                  let f : next' i ≡ n = ap next' q ∙ e in
                  w j (omega (arith, f, b)) ∙ not_true (waits j) (λ z. absurd (omega (arith, h.within j z, a, q)))
              | inr ne ↦
                  let inside : i < c.last = omega (arith, h.within i k, ne) in
                  let g = h.goes_on i k inside in
                  let f : next' i ≡ next i = s i ne l in
                  let before = h.within (next i) g.1 in
                  w j (omega (arith, f, b, before.1, below)) ∙ h.nearest i j k inside a (omega (arith, f, b))
            ];
      }

module _ (waits waits' : ℕ → Bool) (next : ℕ → ℕ) (c : Chain) (h : IsChain waits next c) (gone : waits' c.first ≡ false) (w : (i : ℕ) → i ≢ c.first → waits' i ≡ waits i) where
  others : (i : ℕ) → waits' i ≡ true → i ≢ c.first
  others i u e = not_both (waits' i) u (ap waits' e ∙ gone)

  was : (i : ℕ) → waits' i ≡ true → waits i ≡ true
  was i u = sym (w i (others i u)) ∙ u

  -- the only place is taken away
  pub chain_ends : c.first ≡ c.last → (i : ℕ) → waits' i ≡ false
  chain_ends e i = not_true (waits' i) (λ u. absurd (others i u (omega (arith, e, h.within i (was i u)))))

  -- the first place is taken away, and another one is left
  pub chain_shrinks : c.first ≢ c.last → IsChain waits' next (record { first = next c.first; last = c.last })
  chain_shrinks ne =
      let some : c.first < c.last = omega (arith, h.within c.last h.last, ne) in
      let g = h.goes_on c.first h.first some in
      record {
        first = w (next c.first) (omega (arith, g.0)) ∙ g.1;
        last = w c.last (omega (arith, ne)) ∙ h.last;
        within = λ i u.
            let k = h.within i (was i u) in
            let after : c.first < i = omega (arith, k.0, others i u) in
            (elim (cases_lt i (next c.first)) [ inl l ↦ absurd (not_both (waits i) (was i u) (h.nearest c.first i h.first some after l)) | inr l ↦ l ], k.1);
        goes_on = λ i u l.
            let k = h.within i (was i u) in
            let m = h.goes_on i (was i u) l in
            (m.0, w (next i) (omega (arith, k.0, m.0)) ∙ m.1);
        nearest = λ i j u l a b.
            let k = h.within i (was i u) in
            w j (omega (arith, k.0, a)) ∙ h.nearest i j (was i u) l a b;
      }
