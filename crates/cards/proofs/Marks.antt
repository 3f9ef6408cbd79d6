-- Whether some card is not clean.
use Rattle.std.proofs.Common.{◌≡◌, ◌≢◌, ℕ, zero, suc, ◌<◌, ◌≤◌, ◌||◌, not, true, false, eqb, List, [], ◌∷◌, length, get_or, Option, Some, None, is_some, IfSome, IfNone, refl, sym, ◌∙◌, ap, arith, inl, inr}
use Rattle.std.proofs.lemmas.Bool.{cases_eq}
use Rattle.std.proofs.lemmas.Bool.Decides.{nat_tests}
use Rattle.cards.specs.Cards.{IsDirty, NoneDirty, has_mark}

-- one that is not clean
pub mark_at : (bytes : List ℕ) → has_mark bytes ≡ true → (card : ℕ) × (card < length bytes) × (get_or bytes card 0 ≢ 255)
mark_at [] h = cc
mark_at (b ∷ bytes) h =
    elim (cases_eq b 255) [
      | inr ne ↦ (0, omega arith, ne)
      | inl e ↦
          let t : eqb b 255 ≡ true = grind (arith, nat_tests, e) in
          let r : (card : ℕ) × (card < length bytes) × (get_or bytes card 0 ≢ 255) = mark_at bytes (sym (ap (λ v. not v || has_mark bytes) t) ∙ h) in
          (suc r.0, omega (arith, r.1), r.2)
    ]

pub clean_at : (bytes : List ℕ) → has_mark bytes ≡ false → (card : ℕ) → card < length bytes → get_or bytes card 0 ≡ 255
clean_at [] h card b = absurd (omega arith)
clean_at (b ∷ bytes) h card within =
    elim (cases_eq b 255) [
      | inr ne ↦ (let t : eqb b 255 ≡ false = grind (arith, nat_tests, ne) in let f : true ≡ false = sym (ap (λ v. not v || has_mark bytes) t) ∙ h in cc)
      | inl e ↦
          let t : eqb b 255 ≡ true = grind (arith, nat_tests, e) in
          let rest : has_mark bytes ≡ false = sym (ap (λ v. not v || has_mark bytes) t) ∙ h in
          elim card as (λ k. k < length (b ∷ bytes) → get_or (b ∷ bytes) k 0 ≡ 255) [ zero ↦ λ w. e | suc k ↦ λ w. clean_at bytes rest k (omega arith) ] within
    ]

pub mark_here : (bytes : List ℕ) (card : ℕ) → card < length bytes → get_or bytes card 0 ≢ 255 → has_mark bytes ≡ true
mark_here bytes card b ne = elim (has_mark bytes) as (λ t. has_mark bytes ≡ t → t ≡ true) [ true ↦ λ e. refl | false ↦ λ e. absurd (ne (clean_at bytes e card b)) ] refl

pub all_clean : (bytes : List ℕ) → ((card : ℕ) → card < length bytes → get_or bytes card 0 ≡ 255) → has_mark bytes ≡ false
all_clean bytes h = elim (has_mark bytes) as (λ t. has_mark bytes ≡ t → t ≡ false) [ true ↦ λ e. (let r = mark_at bytes e in absurd (r.2 (h r.0 r.1))) | false ↦ λ e. refl ] refl

-- what a search for bytes below 255 found
pub has_mark_is : (bytes : List ℕ) (found : Option ℕ) → IfSome found (λ card. (0 ≤ card) × IsDirty bytes 254 card) → IfNone found (NoneDirty bytes 254 0 (length bytes)) → ((card : ℕ) → get_or bytes card 0 < 256) → is_some found ≡ has_mark bytes
has_mark_is bytes None some none small = sym (all_clean bytes (λ card b. omega (arith, none card (omega arith) b, small card)))
has_mark_is bytes (Some card) some none small = sym (mark_here bytes card some.1.0 (omega (arith, some.1.1)))
