-- The slots of the dues, one due after the other.
use Rattle.std.proofs.Common.{◌≡◌, ℕ, suc, ◌+◌, ◌<◌, length, take, get_or, arith, Bool, true, false, not, ◌&&◌, List, [], ◌∷◌, ◌++◌, map, cond, refl, sym, ap, subst, ◌∙◌, inl, inr}
use Rattle.std.proofs.lemmas.Bool.{both_ways}
use Rattle.std.proofs.lemmas.List.{map-append}
use Rattle.std.proofs.Math.Seq.{take-suc}
use Rattle.owned_core.specs.declared.plan.Due.{Due as CodeDue}
use Rattle.owned_core.specs.Machine.{with_one, due_of}
use Rattle.owned_core.specs.Owned.{State, begun, is_due, is_there, with_due}
use Rattle.owned_core.specs.Settings.{Setting}
use Rattle.owned_core.specs.Slots.{Due, is_fixed, Standing}
use Rattle.owned_core.proofs.Adding.{Before, begun_not_fixed, due_before, with_due_from, with_due_keeps}
use Rattle.owned_core.proofs.Resting.{same_tests}

abbrev pub due_steps : Setting → State → List Due → State
due_steps w s ds = record s { slots = with_due w (is_due w s) s.slots ds }

-- new slots change nothing that is due
due_again : (w : Setting) (s : State) (ds : List Due) (d : Due) → is_due w (due_steps w s ds) d ≡ is_due w s d
due_again w s ds d = same_tests (is_due w (due_steps w s ds) d) (is_due w s d) (due_before w s (due_steps w s ds) down d) (due_before w (due_steps w s ds) s up d)
  where
    up : Before (due_steps w s ds) s
    up = record { swept_before = λ x h. h; fixed_before = λ a c f. (a, with_due_keeps w (is_due w s) ds s.slots a c, refl, f) }

    down : Before s (due_steps w s ds)
    down = record {
      swept_before = λ x h. h;
      fixed_before = λ a c f. elim (with_due_from w (is_due w s) ds s.slots a c) [
        | inl old ↦ (a, old, refl, f)
        | inr new ↦ absurd (both_ways (is_fixed a.stage) (subst (λ (z : Standing). is_fixed z.stage ≡ false) new.3 (begun_not_fixed w new.0.slot)) f)
      ];
    }

with_due_push : (w : Setting) (due : Due → Bool) (ds : List Due) (ts : List Standing) (d : Due)
    → with_due w due ts (ds ++ d ∷ []) ≡ cond (due d && not (is_there (with_due w due ts ds) d.slot)) (with_due w due ts ds ++ begun w d.slot ∷ []) (with_due w due ts ds)
with_due_push w due [] ts d = refl
with_due_push w due (e ∷ ds) ts d = with_due_push w due ds (cond (due e && not (is_there ts e.slot)) (ts ++ begun w e.slot ∷ []) ts) d

choose : (b : Bool) (s : State) (us vs : List Standing) → cond b (record s { slots = us }) (record s { slots = vs }) ≡ record s { slots = cond b us vs }
choose true s us vs = refl
choose false s us vs = refl

-- one due more
pub due_steps_push : (w : Setting) (s : State) (ds : List Due) (d : Due) → with_one w (due_steps w s ds) d ≡ due_steps w s (ds ++ d ∷ [])
due_steps_push w s ds d =
    let us : List Standing = with_due w (is_due w s) s.slots ds in
    ap (λ b. cond (b && not (is_there us d.slot)) (record s { slots = us ++ begun w d.slot ∷ [] }) (record s { slots = us })) (due_again w s ds d)
    ∙ choose (is_due w s d && not (is_there us d.slot)) s (us ++ begun w d.slot ∷ []) us
    ∙ ap {B = State} (λ l. record { own = s.own; unswept = s.unswept; slots = l }) (sym (with_due_push w (is_due w s) ds s.slots d))

-- the dues before an index, and the one at it
pub dues_to : (xs : List CodeDue) (i : ℕ) (x : CodeDue) → i < length xs → x ≡ get_or xs i x → map due_of (take i xs) ++ due_of x ∷ [] ≡ map due_of (take (i + 1) xs)
dues_to xs i x h e = let next : i + 1 ≡ suc i = omega arith in sym (ap (map due_of) (ap (λ n. take n xs) next ∙ take-suc xs i x h ∙ ap (λ z. take i xs ++ z ∷ []) (sym e)) ∙ map-append due_of (take i xs) (x ∷ []))
