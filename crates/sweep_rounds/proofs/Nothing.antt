-- A collection of nothing: no start, and no register that holds anything.
use Rattle.std.proofs.Common.{◌≡◌, ℕ, ◌+◌, ◌/◌, ◌<◌, ◌≤◌, ◌==◌, Bool, true, false, cond, slice_index_or, List, [], ◌∷◌, ◌++◌, length, Option, None, refl, sym, ◌∙◌, ap, subst, arith, inl, inr}
use Rattle.std.specs.FinMap.{empty, get, get-empty}
use Rattle.std.specs.Ordering.{nat_cmp}
use Rattle.std.proofs.lemmas.Bool.{cases_lt}
use Rattle.std.proofs.lemmas.List.{get_or_append_left, get_or_past, get_or_push}
use Rattle.std.proofs.lemmas.Option.{none-some}
use Rattle.gc_words.specs.Layout.{thread_of}
use Rattle.gc_mail.specs.Recipients.{owner}
use Rattle.territory.specs.Territories.{TerritoryView, no_territory}
use Rattle.directory.specs.Directories.{DirectoryView, sweeper_count}
use Rattle.sweep_model.specs.World.{IsWorld, World}
use Rattle.sweep_model.specs.Wholes.{IsListed}
use Rattle.sweep_share.specs.Shares.{territory_of}
use Rattle.sweeper.specs.Sweepers.{SweeperView}
use Rattle.sweeper.specs.Starting.{IsBeginning, IsBegun, first_share}
use Rattle.sweep_rounds.specs.Turns.{Whole}
use Rattle.sweep_rounds.proofs.Beginning.{begin_whole}

-- what holds of each of a list, and of one more at its end
pub pushed_at : {X : Type 0} (P : ℕ → X → Type 0) (xs ys : List X) (y d : X) → ys ≡ xs ++ y ∷ []
    → ((i : ℕ) → i < length xs → P i (slice_index_or xs i d)) → P (length xs) y
    → (i : ℕ) → i < length xs + 1 → P i (slice_index_or ys i d)
pushed_at P xs ys y d e old new i b = elim (cases_lt i (length xs)) [
  | inl low ↦
      subst (P i) (sym (ap (λ l. slice_index_or l i d) e ∙ get_or_append_left xs (y ∷ []) d i low)) (old i low)
  | inr far ↦
      let same : length xs ≡ i = omega (arith, b, far) in
      subst (λ j. P j (slice_index_or ys j d)) same
      (subst (P (length xs)) (sym (ap (λ l. slice_index_or l (length xs) d) e ∙ get_or_push xs y d (length xs) refl))
      new)
]

-- the world of a collection of nothing
abbrev pub nothing : DirectoryView → World
nothing d = record { image = λ a. None; registers = λ r. None; sweepers = sweeper_count d; targets = d.targets }

pub is_world : (d : DirectoryView) → 0 < sweeper_count d → sweeper_count d ≤ 64 → IsWorld (nothing d)
is_world d some most = record {
  some = some;
  most = most;
  addresses = λ a x e. absurd (none-some x e);
  shaped = λ a x e. absurd (none-some x e);
  fields = λ a i b e. absurd (none-some b e);
  held = λ r b e. absurd (none-some b e);
}

is_listed : (d : DirectoryView) → IsListed (nothing d)
is_listed d = record { starts = []; all = λ a x e. absurd (none-some x e); registers = 0; none = λ r b. refl }

-- no territory has a start
abbrev pub HaveNothing : List TerritoryView → Type 0
HaveNothing ts = (i : ℕ) → i < length ts → (slice_index_or ts i (no_territory 0)).starts ≡ empty

no_start : (ts : List TerritoryView) → HaveNothing ts → (i a : ℕ) → get (slice_index_or ts i (no_territory 0)).starts a ≡ None
no_start ts none i a = elim (cases_lt i (length ts)) [
  | inl inside ↦ ap (λ m. get m a) (none i inside) ∙ get-empty nat_cmp a
  | inr past ↦ ap (λ (t : TerritoryView). get t.starts a) (get_or_past ts i (no_territory 0) past) ∙ get-empty nat_cmp a
]

if_none : {A : Type 0} (b : Bool) (o : Option A) → o ≡ None → cond b o None ≡ None
if_none true o e = e
if_none false o e = refl

pub is_beginning : (d : DirectoryView) (number : ℕ) (ts : List TerritoryView) → HaveNothing ts
    → IsBeginning (nothing d) number d ts []
is_beginning d number ts none = record {
  sweepers = refl;
  targets = refl;
  starts = λ a mine. if_none (owner (sweeper_count d) a == number)
      (get (territory_of (first_share number d ts) a).starts a) (no_start ts none (thread_of a / sweeper_count d) a);
  held = λ r mine. refl;
  can_start = λ x s e young. absurd (none-some s e);
  generations = λ x s e young. absurd (none-some s e);
  older = λ x s e old. absurd (none-some s e);
  aside = λ x s e mine. absurd (none-some s e);
  cards = λ i inside a index b h x there refers told. absurd (none-some x (sym (no_start ts none i a) ∙ there));
}

-- sweepers that began so stand together
pub whole_nothing : (n : ℕ) (d : DirectoryView) (f : ℕ → SweeperView) → sweeper_count d ≡ n → 0 < sweeper_count d
    → sweeper_count d ≤ 64 → ((k : ℕ) → k < n → IsBegun (nothing d) (f k)) → ((k : ℕ) → k < n → (f k).share.number ≡ k)
    → ((k : ℕ) → k < n → (f k).places.directory ≡ d) → Whole n d f
whole_nothing n d f count some most begun numbers directory =
    begin_whole (nothing d) n d f (is_world d some most) (is_listed d) count (λ k b. (begun k b).ready)
    (λ k b. (begun k b).begins) numbers directory
