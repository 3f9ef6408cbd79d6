-- Laws of runs.
use Rattle.std.proofs.Common.{◌≡◌, ℕ, suc, ◌+◌, List, [], ◌∷◌, ◌++◌, length, refl, sym, ◌∙◌, ap, arith, append_assoc, Result, Ok, Err, Option, Some, None, add-zero, inl, inr, ◌⊎◌}
use Rattle.trace_types.specs.declared.fault.Fault.{Fault}
use Rattle.trace_types.specs.Run.{Ran, all, after_text, Turn, after_turn, run_from}

module _ {S : Type 0} (turn : Turn S) where
  pub run-nil : (s : S) (n : ℕ) → run_from turn s n [] ≡ all s []
  unfolding run_from
  run-nil s n = refl

  pub run-goes : (s : S) (n : ℕ) (l : List ℕ) (ls : List (List ℕ)) (p : S × List ℕ) → turn s n l ≡ Ok p →
      run_from turn s n (l ∷ ls) ≡ after_text p.1 (run_from turn p.0 (n + 1) ls)
  unfolding run_from
  run-goes s n l ls p e = ap (after_turn s n (λ r. run_from turn r (n + 1) ls)) e

  pub run-stops : (s : S) (n : ℕ) (l : List ℕ) (ls : List (List ℕ)) (f : Fault) → turn s n l ≡ Err f →
      run_from turn s n (l ∷ ls) ≡ record { state = s; text = []; stop = Some (n, f) }
  unfolding run_from
  run-stops s n l ls f e = ap (after_turn s n (λ r. run_from turn r (n + 1) ls)) e

  pub after-after : (a b : List ℕ) (r : Ran S) → after_text a (after_text b r) ≡ after_text (a ++ b) r
  after-after a b r = ap (λ (t : List ℕ). record { state = r.state; text = t; stop = r.stop }) (sym (append_assoc a b r.text))

  -- a line goes or has a fault
  pub outcome : (r : Result (S × List ℕ) Fault) → ((p : S × List ℕ) × (r ≡ Ok p)) ⊎ ((f : Fault) × (r ≡ Err f))
  outcome (Ok p) = inl (p, refl)
  outcome (Err f) = inr (f, refl)

  pub ran-all : (r : Ran S) (z : S) → r.state ≡ z → r.stop ≡ None → r ≡ all z r.text
  ran-all r z a b = rw (← a, ← b) refl

  -- The run goes on from where its first lines led.
  pub run-append : (ls ms : List (List ℕ)) (s : S) (n : ℕ) (z : S) (t : List ℕ) → run_from turn s n ls ≡ all z t →
      run_from turn s n (ls ++ ms) ≡ after_text t (run_from turn z (n + length ls) ms)
  unfolding run_from
  run-append [] ms s n z t e =
      let same : s ≡ z = ap (λ (r : Ran S). r.state) e in
      let none : [] ≡ t = ap (λ (r : Ran S). r.text) e in
      rw (← same, ← none, add-zero) refl
  run-append (l ∷ ls) ms s n z t e = at (turn s n l) (λ r m u. run-append ls ms r m z u) e
    where
      at : (r : Result (S × List ℕ) Fault) →
          ((r : S) (m : ℕ) (u : List ℕ) → run_from turn r m ls ≡ all z u → run_from turn r m (ls ++ ms) ≡ after_text u (run_from turn z (m + length ls) ms)) →
          after_turn s n (λ r. run_from turn r (n + 1) ls) r ≡ all z t →
          after_turn s n (λ r. run_from turn r (n + 1) (ls ++ ms)) r ≡ after_text t (run_from turn z (n + suc (length ls)) ms)
      at (Ok p) ih e =
          let r = run_from turn p.0 (n + 1) ls in
          let text : p.1 ++ r.text ≡ t = ap (λ (r : Ran S). r.text) e in
          let rest : r ≡ all z r.text = ran-all r z (ap (λ (r : Ran S). r.state) e) (ap (λ (r : Ran S). r.stop) e) in
          let same : n + suc (length ls) ≡ n + 1 + length ls = omega arith in
          let more = ih p.0 (n + 1) r.text rest in
          ap (after_text p.1) more ∙ after-after p.1 r.text _ ∙ rw (text, same) refl
      at (Err f) ih e =
          let stop : ◌≡◌ {A = Option (ℕ × Fault)} (Some (n, f)) None = ap (λ (r : Ran S). r.stop) e in
          cc

  -- The text of first lines is a front of the text of all.
  pub text-front : (ks ms : List (List ℕ)) (s : S) (n : ℕ) →
      (u : List ℕ) × ((run_from turn s n (ks ++ ms)).text ≡ (run_from turn s n ks).text ++ u)
  unfolding run_from
  text-front [] ms s n = ((run_from turn s n ms).text, refl)
  text-front (l ∷ ks) ms s n = at (turn s n l) (λ r. text-front ks ms r (n + 1))
    where
      at : (r : Result (S × List ℕ) Fault) →
          ((r : S) → (u : List ℕ) × ((run_from turn r (n + 1) (ks ++ ms)).text ≡ (run_from turn r (n + 1) ks).text ++ u)) →
          (u : List ℕ) × ((after_turn s n (λ r. run_from turn r (n + 1) (ks ++ ms)) r).text ≡ (after_turn s n (λ r. run_from turn r (n + 1) ks) r).text ++ u)
      at (Ok p) ih = let more = ih p.0 in (more.0, ap (λ (x : List ℕ). p.1 ++ x) more.1 ∙ sym (append_assoc p.1 _ more.0))
      at (Err f) ih = ([], refl)

  -- What stands before the line at which a run ended ran through, with all of its text.
  pub stopped-front : (ls : List (List ℕ)) (s : S) (n m : ℕ) (f : Fault) → ◌≡◌ {A = Option (ℕ × Fault)} (run_from turn s n ls).stop (Some (m, f)) →
      (ks : List (List ℕ)) × (ms : List (List ℕ)) × (ls ≡ ks ++ ms) × (◌≡◌ {A = Option (ℕ × Fault)} (run_from turn s n ks).stop None) × ((run_from turn s n ls).text ≡ (run_from turn s n ks).text)
  unfolding run_from
  stopped-front [] s n m f e = absurd (let bad : ◌≡◌ {A = Option (ℕ × Fault)} None (Some (m, f)) = e in cc)
  stopped-front (l ∷ ls) s n m f e = elim (outcome (turn s n l)) [
    | inl o ↦
        let goes = run-goes s n l ls o.0 o.1 in
        let more = stopped-front ls o.0.0 (n + 1) m f (sym (ap (λ (r : Ran S). r.stop) goes) ∙ e) in
        let front = run-goes s n l more.0 o.0 o.1 in (
          l ∷ more.0,
          more.1,
          ap (λ (x : List (List ℕ)). l ∷ x) more.2,
          ap (λ (r : Ran S). r.stop) front ∙ more.3,
          ap (λ (r : Ran S). r.text) goes ∙ ap (λ (x : List ℕ). o.0.1 ++ x) more.4 ∙ sym (ap (λ (r : Ran S). r.text) front),
        )
    | inr o ↦ ([], l ∷ ls, refl, refl, ap (λ (r : Ran S). r.text) (run-stops s n l ls o.0 o.1))
  ]
