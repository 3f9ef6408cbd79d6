-- Settling, slot by slot.
use Rattle.std.proofs.Common.{◌≡◌, ℕ, zero, suc, ◌+◌, ◌<◌, ◌≤◌, eqb, List, [], ◌∷◌, length, set, get_or, map, refl, sym, ◌∙◌, ap, arith, rules}
use Rattle.std.specs.Prelude.{Some, slice_get, All}
use Rattle.std.specs.Map.{lookup}
use Rattle.std.proofs.lemmas.Option.{get_or_from_slice_get, slice_get_within}
use Rattle.weak_eph.specs.declared.fields.WeakSlot.{WeakSlot}
use Rattle.weak_eph.specs.declared.fields.WeakState.{WeakState}
use Rattle.weak_eph.specs.declared.fields.WeakState.TheVariants.{Waiting}
use Rattle.weak_eph.specs.Slots.{IsWaiting, in_state, with_state, fate, settled}

-- the first n slots settled, and the others as they were
abbrev pub halfway : List (ℕ × ℕ) → List WeakSlot → ℕ → List WeakSlot
halfway kept [] n = []
halfway kept (s ∷ slots) zero = s ∷ slots
halfway kept (s ∷ slots) (suc n) = settled kept s ∷ halfway kept slots n

pub halfway_none : (kept : List (ℕ × ℕ)) (slots : List WeakSlot) → slots ≡ halfway kept slots 0
halfway_none kept [] = refl
halfway_none kept (s ∷ slots) = refl

pub halfway_all : (kept : List (ℕ × ℕ)) (slots : List WeakSlot) (n : ℕ) → length slots ≤ n → halfway kept slots n ≡ map (settled kept) slots
halfway_all kept [] n h = refl
halfway_all kept (s ∷ slots) zero h = absurd (omega arith)
halfway_all kept (s ∷ slots) (suc n) h = ap (λ ss. settled kept s ∷ ss) (halfway_all kept slots n (omega (arith, h)))

pub length-halfway : (kept : List (ℕ × ℕ)) (slots : List WeakSlot) (n : ℕ) → length (halfway kept slots n) ≡ length slots
length-halfway kept [] n = refl
length-halfway kept (s ∷ slots) zero = refl
length-halfway kept (s ∷ slots) (suc n) = omega (arith, length-halfway kept slots n)

pub halfway_here : (kept : List (ℕ × ℕ)) (slots : List WeakSlot) (n : ℕ) → slice_get (halfway kept slots n) n ≡ slice_get slots n
halfway_here kept [] n = refl
halfway_here kept (s ∷ slots) zero = refl
halfway_here kept (s ∷ slots) (suc n) = halfway_here kept slots n

pub halfway_step : (kept : List (ℕ × ℕ)) (slots : List WeakSlot) (n m : ℕ) (s : WeakSlot) → m ≡ n + 1 → slice_get slots n ≡ Some s → with_state (halfway kept slots n) n (fate (lookup (eqb s.key) kept)) ≡ halfway kept slots m
halfway_step kept [] n m s e h = refl
halfway_step kept (r ∷ slots) n zero s e h = absurd (omega (arith, e))
halfway_step kept (r ∷ slots) zero (suc m) s e h =
    let same : r ≡ s = search (rules, h) in
    let none : m ≡ 0 = omega (arith, e) in
    ap (λ q. in_state (fate (lookup (eqb q.key) kept)) r ∷ slots) (sym same) ∙ ap (λ ss. settled kept r ∷ ss) (halfway_none kept slots ∙ ap (halfway kept slots) (sym none))
halfway_step kept (r ∷ slots) (suc n) (suc m) s e h = ap (λ ss. settled kept r ∷ ss) (halfway_step kept slots n m s (omega (arith, e)) h)

pub still_there : (kept : List (ℕ × ℕ)) (slots now : List WeakSlot) (n : ℕ) (s : WeakSlot) → now ≡ halfway kept slots n → slice_get now n ≡ Some s → slice_get slots n ≡ Some s
still_there kept slots now n s e h = sym (halfway_here kept slots n) ∙ ap (λ ss. slice_get ss n) (sym e) ∙ h

pub waits_there : (kept : List (ℕ × ℕ)) (slots now : List WeakSlot) (n : ℕ) (s : WeakSlot) → All IsWaiting slots → now ≡ halfway kept slots n → slice_get now n ≡ Some s → s.state ≡ Waiting
waits_there kept slots now n s a e h =
    let there = still_there kept slots now n s e h in
    ap (λ q. q.state) (sym (get_or_from_slice_get slots n s s there)) ∙ a n s (slice_get_within slots n s there)

pub settles_one : (kept : List (ℕ × ℕ)) (slots now next : List WeakSlot) (n : ℕ) (s : WeakSlot) (state : WeakState) → now ≡ halfway kept slots n → slice_get now n ≡ Some s → state ≡ fate (lookup (eqb s.key) kept) → next ≡ with_state now n state
    → next ≡ halfway kept slots (n + 1)
settles_one kept slots now next n s state e h f g = g ∙ ap (λ ss. with_state ss n state) e ∙ ap (with_state (halfway kept slots n) n) f ∙ halfway_step kept slots n (n + 1) s refl (still_there kept slots now n s e h)

-- a write of one slot
pub with_state-set : (slots : List WeakSlot) (n : ℕ) (s : WeakSlot) (state : WeakState) → n < length slots → s ≡ get_or slots n s → set slots n (in_state state s) ≡ with_state slots n state
with_state-set [] n s state l h = refl
with_state-set (r ∷ slots) zero s state l h = ap (λ q. in_state state q ∷ slots) h
with_state-set (r ∷ slots) (suc n) s state l h = ap (λ ss. r ∷ ss) (with_state-set slots n s state (omega (arith, l)) h)
