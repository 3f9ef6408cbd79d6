-- Each territory of a share is changed in turn.
use Rattle.std.proofs.Common.{◌≡◌, ℕ, ◌+◌, ◌<◌, ◌≤◌, List, length, get_or, set, refl, sym, subst, ◌∙◌, inl, inr, arith, get_or-set_same, get_or-set_other}
use Rattle.std.proofs.lemmas.Bool.{cases_eq}
use Rattle.std.proofs.lemmas.List.{length-set}
use Rattle.territory.specs.Territories.{TerritoryView, no_territory}
use Rattle.sweep_share.specs.Shares.{IsEach}

-- the first so many are changed, and the others as they were
pub record AreSoFar (Changed : TerritoryView → TerritoryView → Type 0) (old new : List TerritoryView) (i : ℕ) : Type 0 where
  pub count : length new ≡ length old
  pub done : (j : ℕ) → j < i → Changed (get_or old j (no_territory 0)) (get_or new j (no_territory 0))
  pub rest : (j : ℕ) → i ≤ j → get_or new j (no_territory 0) ≡ get_or old j (no_territory 0)

pub changed_none : (Changed : TerritoryView → TerritoryView → Type 0) (old : List TerritoryView) → AreSoFar Changed old old 0
changed_none Changed old = record { count = refl; done = λ j h. absurd (omega arith); rest = λ j h. refl }

-- one more is changed
pub changed_more : (Changed : TerritoryView → TerritoryView → Type 0) (old now : List TerritoryView) (i : ℕ) (t t' : TerritoryView)
    → i < length now → AreSoFar Changed old now i → t ≡ get_or now i (no_territory 0) → Changed t t'
    → AreSoFar Changed old (set now i t') (i + 1)
changed_more Changed old now i t t' within so is changed = record {
  count = length-set now i t' ∙ so.count;
  done = λ j h. elim (cases_eq j i) [
    | inl e ↦ subst (λ n. Changed (get_or old n (no_territory 0)) (get_or (set now i t') n (no_territory 0))) (sym e)
        (subst (λ z. Changed (get_or old i (no_territory 0)) z) (sym (get_or-set_same now i t' (no_territory 0) within))
        (subst (λ z. Changed z t') (is ∙ so.rest i (omega arith)) changed))
    | inr ne ↦ subst (λ z. Changed (get_or old j (no_territory 0)) z) (sym (get_or-set_other now i j t' (no_territory 0) ne))
        (so.done j (omega (arith, h, ne)))
  ];
  rest = λ j h. get_or-set_other now i j t' (no_territory 0) (λ e. absurd (omega (arith, h, e))) ∙ so.rest j (omega (arith, h));
}

pub changed_all : (Changed : TerritoryView → TerritoryView → Type 0) (old now : List TerritoryView) (i : ℕ) → length old ≤ i
    → AreSoFar Changed old now i → IsEach Changed old now
changed_all Changed old now i all so = record { count = so.count; each = λ j h. so.done j (omega (arith, h, all)) }
