-- Bytes that were raised, and how a walk from one dirty card to the next raises them all.
use Rattle.std.proofs.Common.{◌≡◌, ℕ, ◌+◌, ◌<◌, ◌≤◌, true, false, cond, nat_le, List, length, get_or, set, refl, sym, ◌∙◌, ap, arith, inl, inr, get_or-set_same, get_or-set_other}
use Rattle.std.proofs.lemmas.Bool.{cases_eq, cases_lt}
use Rattle.std.proofs.lemmas.Bool.Decides.{nat_tests}
use Rattle.std.proofs.lemmas.List.{ext_get_or, length-map, length-set, get_or-map}
use Rattle.cards.specs.Cards.{IsDirty, NoneDirty, raised_byte, raised_bytes}

pub raised_low : (limit to byte : ℕ) → byte ≤ limit → raised_byte limit to byte ≡ to
raised_low limit to byte h = let t : nat_le byte limit ≡ true = grind (arith, nat_tests, h) in ap (λ b. cond b to byte) t

pub raised_high : (limit to byte : ℕ) → limit < byte → raised_byte limit to byte ≡ byte
raised_high limit to byte h = let t : nat_le byte limit ≡ false = grind (arith, nat_tests, h) in ap (λ b. cond b to byte) t

pub length-raised_bytes : (limit to : ℕ) (bytes : List ℕ) → length (raised_bytes limit to bytes) ≡ length bytes
length-raised_bytes limit to bytes = length-map bytes (raised_byte limit to)

pub get_or-raised_bytes : (limit to : ℕ) (bytes : List ℕ) (k : ℕ) → k < length bytes → get_or (raised_bytes limit to bytes) k 0 ≡ raised_byte limit to (get_or bytes k 0)
get_or-raised_bytes limit to bytes k h = get_or-map (raised_byte limit to) bytes k 0 0 h

-- Up to a card the bytes are raised, from it on they are as they were.
pub record AreRaised (limit to : ℕ) (old now : List ℕ) (at : ℕ) : Type 0 where
  pub same : length now ≡ length old
  pub done : (k : ℕ) → k < at → k < length old → get_or now k 0 ≡ raised_byte limit to (get_or old k 0)
  pub rest : (k : ℕ) → at ≤ k → get_or now k 0 ≡ get_or old k 0

pub raised_none : (limit to : ℕ) (old : List ℕ) → AreRaised limit to old old 0
raised_none limit to old = record { same = refl; done = λ k h. absurd (omega arith); rest = λ k h. refl }

-- one dirty card more
pub raised_more : (limit to at card : ℕ) (old now : List ℕ) → AreRaised limit to old now at → at ≤ card → IsDirty now limit card → NoneDirty now limit at card → AreRaised limit to old (set now card to) (card + 1)
raised_more limit to at card old now r after is none =
    let low : get_or old card 0 ≤ limit = omega (arith, r.rest card after, is.1) in
    record {
      same = length-set now card to ∙ r.same;
      done = λ k h b. elim (cases_eq k card) [
        | inl e ↦ ap (λ v. get_or (set now card to) v 0) e ∙ (get_or-set_same now card to 0 is.0 ∙ sym (ap (λ v. raised_byte limit to (get_or old v 0)) e ∙ raised_low limit to (get_or old card 0) low))
        | inr ne ↦
            get_or-set_other now card k to 0 ne
            ∙ elim (cases_lt k at) [
              | inl before ↦ r.done k before b
              | inr here ↦ r.rest k here ∙ sym (raised_high limit to (get_or old k 0) (omega (arith, none k here (omega arith), r.rest k here)))
            ]
      ];
      rest = λ k h. get_or-set_other now card k to 0 (λ e. absurd (omega arith)) ∙ r.rest k (omega arith);
    }

-- no dirty card is left
pub raised_all : (limit to at : ℕ) (old now : List ℕ) → AreRaised limit to old now at → NoneDirty now limit at (length now) → now ≡ raised_bytes limit to old
raised_all limit to at old now r none =
    ext_get_or 0 now (raised_bytes limit to old) (r.same ∙ sym (length-raised_bytes limit to old))
    (λ k h.
    let b : k < length old = omega (arith, r.same) in
    (elim (cases_lt k at) [
      | inl before ↦ r.done k before b
      | inr here ↦ r.rest k here ∙ sym (raised_high limit to (get_or old k 0) (omega (arith, none k here h, r.rest k here)))
    ])
    ∙ sym (get_or-raised_bytes limit to old k b))
