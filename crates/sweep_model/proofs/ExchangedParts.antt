-- The parts of all sweepers after the exchange: each slot is delivered and lies where it lies then.
use Rattle.std.proofs.Common.{◌≡◌, ℕ, zero, suc, ◌<◌, ◌==◌, List, [], ◌++◌, map, filter, Contains, refl, subst, arith, inl, inr}
use Rattle.std.proofs.lemmas.Bool.{cases_eq, eq-eqb, eqb-true}
use Rattle.std.proofs.lemmas.List.Elements.{Contains-append_cases, Contains-append_left, Contains-append_right}
use Rattle.owned_core.specs.declared.slot.Standing.{Standing}
use Rattle.owned_core.specs.Parts.{Part, lies_at}
use Rattle.owned_core.specs.Rounds.{AreExchanged, deliver}
use Rattle.owned_core.specs.Settings.{Setting}
use Rattle.owned_core.proofs.Lists.{contains_none, filter_some, map_some, some_filter, some_map}

-- the slots that lie at sweepers 0 to n - 1
abbrev pub all_here : ℕ → (ℕ → Part) → List Standing
all_here zero parts = []
all_here (suc n) parts = all_here n parts ++ (parts n).here

-- each of them lies at one of the sweepers
here_some : (n : ℕ) (parts : ℕ → Part) (u : Standing) → Contains (all_here n parts) u
    → (j : ℕ) × (j < n) × Contains (parts j).here u
here_some zero parts u c = absurd (contains_none u c)
here_some (suc n) parts u c = elim (Contains-append_cases (all_here n parts) (parts n).here u c) [
  | inl e ↦ let r = here_some n parts u e in (r.0, omega (arith, r.1), r.2)
  | inr e ↦ (n, omega arith, e)
]

some_here : (n : ℕ) (parts : ℕ → Part) (j : ℕ) (u : Standing) → j < n → Contains (parts j).here u
    → Contains (all_here n parts) u
some_here zero parts j u b c = absurd (omega (arith, b))
some_here (suc n) parts j u b c = elim (cases_eq j n) [
  | inl e ↦
      Contains-append_right (all_here n parts) (parts n).here u (subst (λ k. Contains (parts k).here u) e c)
  | inr ne ↦
      Contains-append_left (all_here n parts) (parts n).here u
      (some_here n parts j u (omega (arith, b, ne)) c)
]

-- each sweeper has what lies at it when all is delivered
abbrev pub parts_after : Setting → ℕ → (ℕ → Part) → ℕ → Part
parts_after w n parts k =
    record (parts k) { here = filter (λ t. lies_at w t == k) (map deliver (all_here n parts)) }

-- a slot that was delivered to k
pub after_some : (w : Setting) (n : ℕ) (parts : ℕ → Part) (k : ℕ) (t : Standing)
    → Contains (parts_after w n parts k).here t
    → (j : ℕ) × (j < n) × ((u : Standing) × Contains (parts j).here u × (deliver u ≡ t) × (lies_at w t ≡ k))
after_some w n parts k t c =
    let f = filter_some (λ (t : Standing). lies_at w t == k) (map deliver (all_here n parts)) t c in
    let m = map_some deliver (all_here n parts) t f.0 in
    let h = here_some n parts m.0 m.1 in
    (h.0, h.1, (m.0, h.2, m.2, eqb-true (lies_at w t) k f.1))

-- a slot that lies at k when it is delivered is there
pub some_after : (w : Setting) (n : ℕ) (parts : ℕ → Part) (j k : ℕ) (u : Standing)
    → j < n → Contains (parts j).here u → lies_at w (deliver u) ≡ k
    → Contains (parts_after w n parts k).here (deliver u)
some_after w n parts j k u b c e =
    some_filter (λ (t : Standing). lies_at w t == k) (map deliver (all_here n parts)) (deliver u)
    (some_map deliver (all_here n parts) u (some_here n parts j u b c)) (eq-eqb (lies_at w (deliver u)) k e)

pub are_exchanged : (w : Setting) (n : ℕ) (parts : ℕ → Part) → AreExchanged w n parts (parts_after w n parts)
are_exchanged w n parts = record {
  own = λ k b. refl;
  unswept = λ k b. refl;
  made = λ k b. refl;
  comes = λ k b t c. after_some w n parts k t c;
  goes = λ j k bj bk u c e. some_after w n parts j k u bj c e;
}
