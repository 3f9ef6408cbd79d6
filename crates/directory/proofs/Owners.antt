-- The threads of one sweeper, one after the other.
use Rattle.std.proofs.Common.{◌≡◌, ◌≢◌, ℕ, ◌+◌, ◌*◌, ◌/◌, ◌%◌, ◌<◌, ◌≤◌, List, [], length, get_or, set, ◌⊎◌, refl, sym, ◌∙◌, ap, arith, inl, inr}
use Rattle.std.proofs.lemmas.Bool.{cases_lt, cases_order}
use Rattle.std.proofs.lemmas.List.{get_or-set_same, get_or-set_other, length-set}
use Rattle.std.proofs.lemmas.Option.{slice_get_read}
use Rattle.std.proofs.lemmas.Nat.{div-add-mod'}
use Rattle.std.proofs.Math.Nat.{mod-eq_of_lt, add-mod_right, mul-le-mul_right}
use Rattle.territory.specs.Territories.{TerritoryView, segment_at}
use Rattle.directory.specs.Tables.{segment_for, segment_in}
use Rattle.directory.specs.Numbered.{IsNumbered, HaveWords, IsOwned, AreNumbered}
use Rattle.directory.proofs.Joining.{Entries, have_none, have_one, have_kept, have_both, have_some}

-- numbers with one rest that are less than a divisor apart
same_quotient : (n q p k t s : ℕ) → q * n + k ≡ t → p * n + k ≡ s → s ≤ t → t < s + n → t ≡ s
same_quotient n q p k t s a b low high =
    elim (cases_order q p) [
      | inl e ↦ sym a ∙ (ap (λ v. v * n + k) e ∙ b)
      | inr o ↦ elim o [
        | inl l ↦ absurd (let m : (q + 1) * n ≤ p * n = mul-le-mul_right n (omega arith) in omega (arith, m))
        | inr g ↦ absurd (let m : (p + 1) * n ≤ q * n = mul-le-mul_right n (omega arith) in omega (arith, m))
      ]
    ]

same_rest : (n t s : ℕ) → t % n ≡ s % n → s ≤ t → t < s + n → t ≡ s
same_rest n t s e low high =
    same_quotient n (t / n) (s / n) (s % n) t s (ap (λ v. t / n * n + v) (sym e) ∙ div-add-mod' t n) (div-add-mod' s n) low high

-- a thread of the sweeper, below a number
abbrev pub IsOwnedBelow : ℕ → ℕ → ℕ → ℕ → Type 0
IsOwnedBelow sweepers sweeper end thread = IsOwned sweepers sweeper thread × (thread < end)

-- The sweeper's threads below a number have their words, and no other sweeper's table changed.
pub record IsShared (territories : List TerritoryView) (old new : List Entries) (sweeper sweepers first next thread : ℕ) : Type 0 where
  pub count : length new ≡ 64
  pub rest : thread % sweepers ≡ sweeper
  pub have : HaveWords (IsOwnedBelow sweepers sweeper thread) territories new first next
  pub others : (t : ℕ) → t % sweepers ≢ sweeper → get_or new t [] ≡ get_or old t []

pub shared_none : (territories : List TerritoryView) (tables : List Entries) (sweeper sweepers first : ℕ) → length tables ≡ 64 → sweeper < sweepers → IsShared territories tables tables sweeper sweepers first first sweeper
shared_none territories tables sweeper sweepers first count small = record {
  count = count;
  rest = mod-eq_of_lt small;
  have = have_none (IsOwnedBelow sweepers sweeper sweeper) territories tables first
      (λ t i. absurd (let e : t % sweepers ≡ t = mod-eq_of_lt (omega (arith, i.1)) in omega (arith, i.1, i.0.1, e)));
  others = λ t ne. refl;
}

pub shared_more : (territories : List TerritoryView) (old new : List Entries) (sweeper sweepers first next after thread : ℕ) (t : TerritoryView) (table : Entries) → length territories ≡ 64 → thread < 64 → t ≡ get_or territories thread t → IsNumbered t table next after → IsShared territories old new sweeper sweepers first next thread → IsShared territories old (set new thread table) sweeper sweepers first after (thread + sweepers)
shared_more territories old new sweeper sweepers first next after thread t table count small read d s =
    let its : (n : ℕ) → segment_for territories thread n ≡ segment_at t n = λ n. ap (λ v. segment_in v n) (slice_get_read territories 64 thread t (sym count) small read) in
    let here : get_or (set new thread table) thread [] ≡ table = get_or-set_same new thread table [] (omega (arith, s.count)) in
    let below : HaveWords (IsOwnedBelow sweepers sweeper thread) territories (set new thread table) first next =
    have_kept (IsOwnedBelow sweepers sweeper thread) territories new (set new thread table) first next
    (λ u i. get_or-set_other new thread u table [] (λ e. absurd (omega (arith, i.1)))) s.have in
    let cut : (u : ℕ) → IsOwnedBelow sweepers sweeper (thread + sweepers) u → IsOwnedBelow sweepers sweeper thread u ⊎ (u ≡ thread) =
    λ u i. elim (cases_lt u thread) [
      | inl b ↦ inl (i.0, b)
      | inr a ↦ inr (same_rest sweepers u thread (i.0.1 ∙ sym s.rest) a i.1)
    ] in
    record {
      count = length-set new thread table ∙ s.count;
      rest = add-mod_right thread sweepers ∙ s.rest;
      have = have_both (IsOwnedBelow sweepers sweeper thread) (λ u. u ≡ thread) (IsOwnedBelow sweepers sweeper (thread + sweepers)) territories (set new thread table) first next after cut below
          (have_one thread territories (set new thread table) next after t table here its d);
      others = λ u ne. get_or-set_other new thread u table [] (λ e. ne (ap (λ v. v % sweepers) e ∙ s.rest)) ∙ s.others u ne;
    }

pub shared_all : (territories : List TerritoryView) (old new : List Entries) (sweeper sweepers first next thread : ℕ) → 64 ≤ thread → IsShared territories old new sweeper sweepers first next thread → AreNumbered territories old new sweeper sweepers first next
shared_all territories old new sweeper sweepers first next thread far s = record {
  have = have_some (IsOwnedBelow sweepers sweeper thread) (IsOwned sweepers sweeper) territories new first next (λ t i. (i, omega (arith, i.0))) s.have;
  others = s.others;
}
