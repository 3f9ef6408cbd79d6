-- The words of one from-segment.
use Rattle.std.proofs.Common.{◌≡◌, ◌≢◌, ℕ, ◌+◌, ◌/◌, ◌%◌, ◌<◌, cond, true, false, Option, Some, None, ◌⊎◌, inl, inr, sym, ◌∙◌, ap, subst, arith, ltb}
use Rattle.std.proofs.lemmas.Bool.{cases_eq, cases_lt}
use Rattle.std.proofs.lemmas.Bool.Decides.{nat_tests}
use Rattle.directory.specs.declared.table.FromSegment.{FromSegment}
use Rattle.directory.specs.Tables.{run_of, word_at, HasWord}
use Rattle.directory.specs.Directories.{with_offset}

pub run_shared : (size : ℕ) → size ≡ 512 → run_of size ≡ 256
run_shared size e = grind (arith, nat_tests, e)

pub run_large : (size : ℕ) → size ≢ 512 → run_of size ≡ 1
run_large size e = grind (arith, nat_tests, e)

pub word_shared : (e : FromSegment) (o : ℕ) → e.size ≡ 512 → word_at e o ≡ e.first_word + o / 2
word_shared e o h = grind (arith, nat_tests, h)

pub word_large : (e : FromSegment) (o : ℕ) → e.size ≢ 512 → word_at e o ≡ e.first_word
word_large e o h = grind (arith, nat_tests, h)

-- an offset in a from-segment has one of its words
pub its_word : (e : FromSegment) (o : ℕ) → o < e.size → HasWord e (word_at e o)
its_word e o h =
    elim (cases_eq e.size 512) [
      | inl y ↦
          let r : run_of e.size ≡ 256 = run_shared e.size y in
          let w : word_at e o ≡ e.first_word + o / 2 = word_shared e o y in
          (omega (arith, r, w), omega (arith, r, w))
      | inr n ↦
          let r : run_of e.size ≡ 1 = run_large e.size n in
          let w : word_at e o ≡ e.first_word = word_large e o n in
          (omega (arith, r, w), omega (arith, r, w))
    ]

-- two offsets at which objects can start have different words
pub same_offset : (e : FromSegment) (o p : ℕ) → ((e.size ≡ 512) × (o % 2 ≡ 0)) ⊎ (o ≡ 0) → ((e.size ≡ 512) × (p % 2 ≡ 0)) ⊎ (p ≡ 0) → word_at e o ≡ word_at e p → o ≡ p
same_offset e o p a b h =
    let even : (x : ℕ) → ((e.size ≡ 512) × (x % 2 ≡ 0)) ⊎ (x ≡ 0) → x % 2 ≡ 0 = λ x c. elim c [ inl y ↦ y.1 | inr z ↦ omega arith ] in
    let zero_else : (x : ℕ) → e.size ≢ 512 → ((e.size ≡ 512) × (x % 2 ≡ 0)) ⊎ (x ≡ 0) → x ≡ 0 = λ x n c. elim c [ inl y ↦ absurd (n y.0) | inr z ↦ z ] in
    elim (cases_eq e.size 512) [
      | inl y ↦ omega (arith, even o a, even p b, sym (word_shared e o y) ∙ (h ∙ word_shared e p y))
      | inr n ↦ zero_else o n a ∙ sym (zero_else p n b)
    ]

-- what an offset in a from-segment tells
pub offset_in : (o : Option FromSegment) (k : ℕ) (e : FromSegment) → with_offset o k ≡ Some e → (o ≡ Some e) × (k < e.size)
offset_in None k e h = absurd (let c : None ≡ Some e = h in cc)
offset_in (Some f) k e h =
    elim (cases_lt k f.size) [
      | inl y ↦
          let t : ltb k f.size ≡ true = grind (arith, nat_tests, y) in
          let s : Some f ≡ Some e = sym (ap (λ b. cond b (Some f) None) t) ∙ h in
          (s, subst (λ v. k < v) (let g : f ≡ e = cc in ap (λ (v : FromSegment). v.size) g) y)
      | inr n ↦
          let t : ltb k f.size ≡ false = grind (arith, nat_tests, n) in
          absurd (let c : None ≡ Some e = sym (ap (λ b. cond b (Some f) None) t) ∙ h in cc)
    ]
