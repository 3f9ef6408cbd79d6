-- A slot that could be written before an object was kept can be written after.
use Rattle.std.proofs.Common.{◌≡◌, ℕ, ◌<◌, true, [], ◌∷◌, ◌++◌, length, Contains, Option, IsSome, sym, ap, subst, ◌∙◌, inl, inr, arith}
use Rattle.std.specs.Prelude.{is_some}
use Rattle.std.proofs.lemmas.List.Elements.{Contains-append_left, Contains-push_cases}
use Rattle.gc_words.specs.declared.value.Value.{Value}
use Rattle.segment.specs.Segments.{Start}
use Rattle.territory.specs.Territories.{words_of}
use Rattle.gc_mail.specs.declared.message.Slot.{Slot}
use Rattle.gc_mail.specs.declared.message.Slot.TheVariants as back
use Rattle.directory.specs.Directories.{IsCollected, from_at}
use Rattle.sweep_model.specs.Hands.{IsAbsent}
use Rattle.sweep_share.specs.Shares.{start_in}
use Rattle.sweep_places.specs.Places.{IsOwnStart}
use Rattle.sweeper.specs.Sweepers.{CanKeep, Copies, HasField, HasWord, IsAtIn, IsKept, IsKeptNow, SweeperView, WasKept}
use Rattle.sweeper.proofs.Kept.{is_there}

module _ (old new : SweeperView) (t q x i : ℕ) (can : CanKeep old t) (c : Copies old new t q)
    (field : HasField old x i) where
  -- its object has the places that it had: the one that was copied had none before
  at_before : (p : ℕ) → IsAtIn new x p → IsAtIn old x p
  at_before p (inl stays) =
      inl (ap (λ d. is_some (from_at d x)) (sym c.steady.directory) ∙ stays.0, stays.1)
  at_before p (inr pair) =
      let own : Contains (old.places.own ++ (t, q) ∷ []) (x, p) =
      subst (λ l. Contains l (x, p)) c.copied.own pair in
      elim (Contains-push_cases old.places.own (t, q) (x, p) own) [
        | inl e ↦ inr e
        | inr e ↦
            let same : t ≡ x = ap (λ (f : ℕ × ℕ). f.0) e in
            absurd (is_there old x i field
            (subst (λ y. is_some (from_at old.places.directory y) ≡ true) same (ap is_some can.lies))
            (subst (IsAbsent old.places.own) same c.copied.absent))
      ]

  at_after : (p : ℕ) → IsAtIn old x p → IsAtIn new x p
  at_after p (inl stays) = inl (ap (λ d. is_some (from_at d x)) c.steady.directory ∙ stays.0, stays.1)
  at_after p (inr pair) =
      inr (subst (λ l. Contains l (x, p)) (sym c.copied.own)
      (Contains-append_left old.places.own ((t, q) ∷ []) (x, p) pair))

  -- and what stands there is as it was
  still_in : (p : ℕ) → i < length (words_of (start_in old.share p))
      → i < length (words_of (start_in new.share p))
  still_in p within =
      subst (λ (o : Option Start). i < length (words_of o)) (sym (c.copied.others p elsewhere)) within
    where
      elsewhere : p ≡ q → ⊥
      elsewhere e =
          let none : i < 0 =
          subst (λ (o : Option Start). i < length (words_of o))
          (ap (start_in old.share) e ∙ c.copied.free) within in
          omega arith

  pub field_kept : HasField new x i
  field_kept = record {
    at = (field.at.0, at_after field.at.0 field.at.1);
    index_in = λ p at. still_in p (field.index_in p (at_before p at));
    own = λ young.
        let own : IsOwnStart old.places.directory old.places.number x =
        field.own (subst (λ d. IsCollected d x) c.steady.directory young) in
        subst (λ n. IsOwnStart new.places.directory n x) (sym c.steady.number)
        (subst (λ d. IsOwnStart d old.places.number x) (sym c.steady.directory) own);
  }

copied_word : (old new : SweeperView) (t q : ℕ) (b : Slot) → CanKeep old t → Copies old new t q → HasWord old b
    → HasWord new b
copied_word old new t q (back.Register r) can c word =
    subst (λ (f : ℕ → Option Value). IsSome (f r)) (sym c.copied.register) word
copied_word old new t q (back.Field i x) can c word = field_kept old new t q x i can c word
copied_word old new t q (back.Entry line part) can c word = word
copied_word old new t q (back.Wait x) can c word = word
copied_word old new t q back.Nothing can c word = word

pub word_kept : (old new : SweeperView) (t q : ℕ) (b : Slot) → CanKeep old t → IsKept old new t q → HasWord old b
    → HasWord new b
word_kept old new t q b can (WasKept c same) word = subst (λ v. HasWord v b) (sym same) word
word_kept old new t q b can (IsKeptNow c) word = copied_word old new t q b can c word
