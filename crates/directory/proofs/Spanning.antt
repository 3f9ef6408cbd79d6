-- Reaches that span sets of addresses, put together.
use Rattle.std.proofs.Common.{◌≡◌, ℕ, ◌+◌, ◌-◌, ◌<◌, ◌≤◌, ◌⊎◌, min, max, inl, inr, arith}
use Rattle.std.proofs.lemmas.Bool.{cases_lt}
use Rattle.directory.specs.declared.reach.Reach.{Reach}
use Rattle.directory.specs.Reaches.{IsWithinReach, IsBetween, Spans}

pub spans_itself : (r : Reach) → Spans r (IsWithinReach r)
spans_itself r a = (λ w. (a, a, w, w, omega arith, omega arith), λ i. (omega (arith, i.2, i.4), omega (arith, i.3, i.5)))

-- the same addresses
pub spans_same : (r : Reach) (These Those : ℕ → Type 0) → ((a : ℕ) → These a → Those a) → ((a : ℕ) → Those a → These a) → Spans r These → Spans r Those
spans_same r These Those to from spans a = (
  λ w. (let i : IsBetween These a = (spans a).0 w in (i.0, i.1, to i.0 i.2, to i.1 i.3, i.4, i.5)),
  λ i. (spans a).1 (i.0, i.1, from i.0 i.2, from i.1 i.3, i.4, i.5),
)

-- ---- two reaches
abbrev pub IsWithinOne : Reach → Reach → ℕ → Type 0
IsWithinOne r s a = IsWithinReach r a ⊎ IsWithinReach s a

first_of : (r s t : Reach) → r.least < r.beyond → s.least < s.beyond → t.least ≡ min r.least s.least → IsWithinOne r s t.least
first_of r s t some some_too low =
    elim (cases_lt r.least s.least) [
      | inl l ↦ inl (omega (arith, low, l), omega (arith, low, l, some))
      | inr g ↦ inr (omega (arith, low, g), omega (arith, low, g, some_too))
    ]

last_of : (r s t : Reach) → r.least < r.beyond → s.least < s.beyond → t.beyond ≡ max r.beyond s.beyond → (a : ℕ) × IsWithinOne r s a × (t.beyond ≤ a + 1)
last_of r s t some some_too high =
    elim (cases_lt r.beyond s.beyond) [
      | inl l ↦ (s.beyond - 1, inr (omega (arith, some_too), omega (arith, some_too)), omega (arith, high, l))
      | inr g ↦ (r.beyond - 1, inl (omega (arith, some), omega (arith, some)), omega (arith, high, g))
    ]

-- from the lesser beginning to the greater end
pub spans_hull : (r s t : Reach) → r.least < r.beyond → s.least < s.beyond → t.least ≡ min r.least s.least → t.beyond ≡ max r.beyond s.beyond → Spans t (IsWithinOne r s)
spans_hull r s t some some_too low high a =
    let last : (b : ℕ) × IsWithinOne r s b × (t.beyond ≤ b + 1) = last_of r s t some some_too high in
    let within : (b : ℕ) → IsWithinOne r s b → IsWithinReach t b = λ b w. elim w [
      | inl i ↦ (omega (arith, low, i.0), omega (arith, high, i.1))
      | inr i ↦ (omega (arith, low, i.0), omega (arith, high, i.1))
    ] in (
      λ w. (t.least, last.0, first_of r s t some some_too low, last.1, w.0, omega (arith, w.1, last.2)),
      λ i. (omega (arith, (within i.0 i.2).0, i.4), omega (arith, (within i.1 i.3).1, i.5)),
    )

-- what two reaches span, and what the reach of both spans
pub spans_both : (r s t : Reach) (These Those All : ℕ → Type 0) → Spans r These → Spans s Those → Spans t (IsWithinOne r s) → ((a : ℕ) → These a ⊎ Those a → All a) → ((a : ℕ) → All a → These a ⊎ Those a) → Spans t All
spans_both r s t These Those All these those both to from a =
    let low : (b : ℕ) → IsWithinOne r s b → (c : ℕ) × All c × (c ≤ b) = λ b w. elim w [
      | inl x ↦ (let i : IsBetween These b = (these b).0 x in (i.0, to i.0 (inl i.2), i.4))
      | inr x ↦ (let i : IsBetween Those b = (those b).0 x in (i.0, to i.0 (inr i.2), i.4))
    ] in
    let high : (b : ℕ) → IsWithinOne r s b → (c : ℕ) × All c × (b ≤ c) = λ b w. elim w [
      | inl x ↦ (let i : IsBetween These b = (these b).0 x in (i.1, to i.1 (inl i.3), i.5))
      | inr x ↦ (let i : IsBetween Those b = (those b).0 x in (i.1, to i.1 (inr i.3), i.5))
    ] in
    let within : (b : ℕ) → All b → IsWithinOne r s b = λ b x. elim (from b x) [
      | inl y ↦ inl ((these b).1 (b, b, y, y, omega arith, omega arith))
      | inr y ↦ inr ((those b).1 (b, b, y, y, omega arith, omega arith))
    ] in (
      λ w.
          let i : IsBetween (IsWithinOne r s) a = (both a).0 w in
          let l : (c : ℕ) × All c × (c ≤ i.0) = low i.0 i.2 in
          let h : (c : ℕ) × All c × (i.1 ≤ c) = high i.1 i.3 in
          (l.0, h.0, l.1, h.1, omega (arith, l.2, i.4), omega (arith, h.2, i.5)),
      λ i. (both a).1 (i.0, i.1, within i.0 i.2, within i.1 i.3, i.4, i.5),
    )
