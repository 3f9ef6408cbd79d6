-- Which starts are marked once those that are held were.
use Rattle.std.proofs.Common.{◌≡◌, ℕ, zero, suc, ◌+◌, ◌*◌, ◌/◌, Bool, true, false, eqb, ◌&&◌, ◌||◌, List, [], ◌∷◌, get_or, Option, Some, None, All, Contains, IsSome, refl, sym, ◌∙◌, ap, subst, arith, inl, inr}
use Rattle.std.proofs.lemmas.Bool.{cases_eq}
use Rattle.std.proofs.lemmas.Bool.Decides.{nat_tests}
use Rattle.std.proofs.lemmas.List.Elements.{All-contains, All-from_get_or, All-get_or}
use Rattle.std.proofs.lemmas.List.Folds.{list_any_at}
use Rattle.std.specs.List.{list_any}
use Rattle.std.specs.FinMap.{get}
use Rattle.gc_words.specs.declared.address.TheConstants.{SEGMENTS, OFFSETS}
use Rattle.gc_words.specs.Layout.{segment_of, offset_of}
use Rattle.segment.specs.declared.segment.Role.TheVariants.{From}
use Rattle.segment.specs.Segments.{Start, IsStart, is_some_marked}
use Rattle.territory.specs.declared.territory.Targets.{Targets}
use Rattle.territory.specs.Territories.{TerritoryView}
use Rattle.territory.specs.Pools.{PoolView, IsSettled, numbered, territory_view}
use Rattle.territory.specs.Finishing.{IsFromStart, has_held, is_held_start}
use Rattle.territory.specs.FinishedPools.{IsHoldable, is_place, AreHeld, AreUnheld}
use Rattle.territory.proofs.Fromward.{role_told}
use Rattle.territory.proofs.Present.{IsPresent, present}

-- ---- a test that some element passes
any_found : (p : ℕ → Bool) (xs : List ℕ) → list_any p xs ≡ true → (x : ℕ) × Contains xs x × (p x ≡ true)
any_found p [] e = cc
any_found p (x ∷ xs) e =
    elim (p x) as (λ b. p x ≡ b → (b || list_any p xs) ≡ true → (y : ℕ) × Contains (x ∷ xs) y × (p y ≡ true)) [
      | true ↦ λ here h. (x, (0, omega arith, refl), here)
      | false ↦ λ here h. let r : (y : ℕ) × Contains xs y × (p y ≡ true) = any_found p xs h in (r.0, (suc r.1.0, omega (arith, r.1.1), r.1.2), r.2)
    ] refl e

any_of : (p : ℕ → Bool) (xs : List ℕ) (x : ℕ) → Contains xs x → p x ≡ true → list_any p xs ≡ true
any_of p xs x c e = list_any_at p xs c.0 x c.1 (ap p c.2 ∙ e)

same_bool : (a b : Bool) → (a ≡ true → b ≡ true) → (b ≡ true → a ≡ true) → a ≡ b
same_bool true b f g = sym (f refl)
same_bool false true f g = g refl
same_bool false false f g = refl

pub marked_found : (marks : List Bool) → is_some_marked marks ≡ true → (k : ℕ) × (get_or marks k false ≡ true)
marked_found [] e = cc
marked_found (m ∷ ms) e =
    elim m as (λ b. m ≡ b → (b || is_some_marked ms) ≡ true → (k : ℕ) × (get_or (m ∷ ms) k false ≡ true)) [
      | true ↦ λ here h. (0, here)
      | false ↦ λ here h. let r : (k : ℕ) × (get_or ms k false ≡ true) = marked_found ms h in (suc r.0, r.1)
    ] refl e

marked_of : (marks : List Bool) (k : ℕ) → get_or marks k false ≡ true → is_some_marked marks ≡ true
marked_of [] k e = cc
marked_of (m ∷ ms) zero e = ap (λ b. b || is_some_marked ms) e
marked_of (m ∷ ms) (suc k) e = elim m as (λ b. (b || is_some_marked ms) ≡ true) [ true ↦ refl | false ↦ marked_of ms k e ]

pub none_at : (marks : List Bool) (k : ℕ) → is_some_marked marks ≡ false → get_or marks k false ≡ false
none_at marks k e = elim (get_or marks k false) as (λ b. get_or marks k false ≡ b → b ≡ false) [ true ↦ λ h. absurd (let c : true ≡ false = sym (marked_of marks k h) ∙ e in cc) | false ↦ λ h. refl ] refl

-- ---- the parts of an address
parts_true : (n k a : ℕ) → is_place n k a ≡ true → (segment_of a ≡ n) × (offset_of a / 2 ≡ k)
parts_true n k a e =
    elim (cases_eq (segment_of a) n) [
      | inr ne ↦ absurd (let t : eqb (segment_of a) n ≡ false = grind (arith, nat_tests, ne) in let c : false ≡ true = sym (ap (λ b. b && eqb (offset_of a / 2) k) t) ∙ e in cc)
      | inl s ↦ elim (cases_eq (offset_of a / 2) k) [
        | inl o ↦ (s, o)
        | inr ne ↦ absurd (let t : eqb (segment_of a) n ≡ true = grind (arith, nat_tests, s) in let u : eqb (offset_of a / 2) k ≡ false = grind (arith, nat_tests, ne) in let c : false ≡ true = sym (ap (λ b. b && eqb (offset_of a / 2) k) t ∙ u) ∙ e in cc)
      ]
    ]

parts_same : (n k a : ℕ) → segment_of a ≡ n → offset_of a / 2 ≡ k → is_place n k a ≡ true
parts_same n k a s o =
    let t : eqb (segment_of a) n ≡ true = grind (arith, nat_tests, s) in
    let u : eqb (offset_of a / 2) k ≡ true = grind (arith, nat_tests, o) in
    ap (λ b. b && eqb (offset_of a / 2) k) t ∙ u

same_true : (x y : ℕ) → x ≡ y → eqb x y ≡ true
same_true x y e = grind (arith, nat_tests, e)

true_same : (x y : ℕ) → eqb x y ≡ true → x ≡ y
true_same x y e = grind (arith, nat_tests, e)

-- ---- all that `finish` has to do with: the pools before it, after the starts were held, and after it
pub record IsHeldIn (thread : ℕ) (targets : Targets) (now : TerritoryView) (old mid : PoolView) (held : List ℕ) : Type 0 where
  pub view_is : territory_view thread old targets ≡ now
  pub settled : IsSettled old
  pub unheld : AreUnheld old.segments
  pub starts : All (IsFromStart now) held
  pub holds : AreHeld old.segments mid.segments held

some_is : (o : Option Start) → IsSome o → (x : Start) × (o ≡ Some x)
some_is None h = cc
some_is (Some x) h = (x, refl)

-- a held start is there, in a from-segment
pub record IsThere (thread : ℕ) (old : PoolView) (a : ℕ) : Type 0 where
  pub start : Start
  pub aside : (numbered old.segments (segment_of a)).role ≡ From
  pub present : IsPresent thread old.segments a start

pub there : (thread : ℕ) (targets : Targets) (now : TerritoryView) (old : PoolView) (a : ℕ) → territory_view thread old targets ≡ now → IsSettled old → IsFromStart now a → IsThere thread old a
there thread targets now old a e s f =
    let some : (x : Start) × (get now.starts a ≡ Some x) = some_is (get now.starts a) f.start in
    record {
      start = some.0;
      aside = role_told thread old targets now (segment_of a) e f.aside;
      present = present thread old a some.0 s (ap (λ (v : TerritoryView). get v.starts a) e ∙ some.1);
    }

there_held : (thread : ℕ) (targets : Targets) (now : TerritoryView) (old mid : PoolView) (held : List ℕ) (a : ℕ) → IsHeldIn thread targets now old mid held → Contains held a → IsThere thread old a
there_held thread targets now old mid held a d c = there thread targets now old a d.view_is d.settled (All-contains (IsFromStart now) held a d.starts c)

pub holdable : (thread : ℕ) (targets : Targets) (now : TerritoryView) (old : PoolView) (held : List ℕ) → territory_view thread old targets ≡ now → IsSettled old → All (IsFromStart now) held → All (IsHoldable old.segments) held
holdable thread targets now old held e s all = All-from_get_or (IsHoldable old.segments) held 0 (λ i b.
    let t : IsThere thread old (get_or held i 0) = there thread targets now old (get_or held i 0) e s (All-get_or (IsFromStart now) held i 0 b all) in
    record { aside = t.aside; start = t.present.starts })

mark_at : (thread : ℕ) (targets : Targets) (now : TerritoryView) (old mid : PoolView) (held : List ℕ) (n k : ℕ) → IsHeldIn thread targets now old mid held → get_or (numbered mid.segments n).marks k false ≡ list_any (is_place n k) held
mark_at thread targets now old mid held n k d = d.holds.marks n k ∙ ap (λ b. b || list_any (is_place n k) held) (none_at (numbered old.segments n).marks k (d.unheld n))

-- a segment has marks where a held start lies in it
pub marked_is : (thread : ℕ) (targets : Targets) (now : TerritoryView) (old mid : PoolView) (held : List ℕ) (n : ℕ) → IsHeldIn thread targets now old mid held → is_some_marked (numbered mid.segments n).marks ≡ has_held held n
marked_is thread targets now old mid held n d =
    same_bool (is_some_marked (numbered mid.segments n).marks) (has_held held n)
    (λ e.
    let k : (k : ℕ) × (get_or (numbered mid.segments n).marks k false ≡ true) = marked_found (numbered mid.segments n).marks e in
    let b : (b : ℕ) × Contains held b × (is_place n k.0 b ≡ true) = any_found (is_place n k.0) held (sym (mark_at thread targets now old mid held n k.0 d) ∙ k.1) in
    any_of (λ v. eqb (segment_of v) n) held b.0 b.1 (same_true (segment_of b.0) n (parts_true n k.0 b.0 b.2).0))
    (λ e.
    let b : (b : ℕ) × Contains held b × (eqb (segment_of b) n ≡ true) = any_found (λ v. eqb (segment_of v) n) held e in
    let k : ℕ = offset_of b.0 / 2 in
    marked_of (numbered mid.segments n).marks k (mark_at thread targets now old mid held n k d ∙ any_of (is_place n k) held b.0 b.1 (parts_same n k b.0 (true_same (segment_of b.0) n b.2) refl)))

address_same : (thread a b : ℕ) → a ≡ (thread * SEGMENTS + segment_of a) * OFFSETS + 2 * (offset_of a / 2) → b ≡ (thread * SEGMENTS + segment_of b) * OFFSETS + 2 * (offset_of b / 2) → segment_of b ≡ segment_of a → offset_of b / 2 ≡ offset_of a / 2 → a ≡ b
address_same thread a b ea eb s o = omega arith

-- the mark of a start says whether it is held
pub mark_is : (thread : ℕ) (targets : Targets) (now : TerritoryView) (old mid : PoolView) (held : List ℕ) (a : ℕ) (x : Start) → IsHeldIn thread targets now old mid held → IsPresent thread old.segments a x
    → get_or (numbered mid.segments (segment_of a)).marks (offset_of a / 2) false ≡ is_held_start held a
mark_is thread targets now old mid held a x d p =
    let n : ℕ = segment_of a in
    let k : ℕ = offset_of a / 2 in
    mark_at thread targets now old mid held n k d ∙ same_bool (list_any (is_place n k) held) (is_held_start held a)
    (λ e.
    let b : (b : ℕ) × Contains held b × (is_place n k b ≡ true) = any_found (is_place n k) held e in
    let t : IsThere thread old b.0 = there_held thread targets now old mid held b.0 d b.1 in
    let s : (segment_of b.0 ≡ n) × (offset_of b.0 / 2 ≡ k) = parts_true n k b.0 b.2 in
    any_of (λ v. eqb a v) held b.0 b.1 (same_true a b.0 (address_same thread a b.0 p.address t.present.address s.0 s.1)))
    (λ e.
    let b : (b : ℕ) × Contains held b × (eqb a b ≡ true) = any_found (λ v. eqb a v) held e in
    let same : a ≡ b.0 = true_same a b.0 b.2 in
    any_of (is_place n k) held b.0 b.1 (parts_same n k b.0 (ap segment_of (sym same)) (ap (λ v. offset_of v / 2) (sym same))))

-- a held start lies in a segment that has one
pub start_holds : (held : List ℕ) (a : ℕ) → is_held_start held a ≡ true → has_held held (segment_of a) ≡ true
start_holds held a e =
    let b : (b : ℕ) × Contains held b × (eqb a b ≡ true) = any_found (λ v. eqb a v) held e in
    any_of (λ v. eqb (segment_of v) (segment_of a)) held b.0 b.1 (same_true (segment_of b.0) (segment_of a) (ap segment_of (sym (true_same a b.0 b.2))))

-- what has a mark is born, in a from-segment
pub marked_born : (thread : ℕ) (targets : Targets) (now : TerritoryView) (old mid : PoolView) (held : List ℕ) (n k : ℕ) → IsHeldIn thread targets now old mid held → get_or (numbered mid.segments n).marks k false ≡ true
    → IsStart (numbered old.segments n) k × ((numbered old.segments n).role ≡ From)
marked_born thread targets now old mid held n k d e =
    let b : (b : ℕ) × Contains held b × (is_place n k b ≡ true) = any_found (is_place n k) held (sym (mark_at thread targets now old mid held n k d) ∙ e) in
    let t : IsThere thread old b.0 = there_held thread targets now old mid held b.0 d b.1 in
    let s : (segment_of b.0 ≡ n) × (offset_of b.0 / 2 ≡ k) = parts_true n k b.0 b.2 in
    (subst (λ v. IsStart (numbered old.segments n) v) s.1 (subst (λ v. IsStart (numbered old.segments v) (offset_of b.0 / 2)) s.0 t.present.starts), subst (λ v. (numbered old.segments v).role ≡ From) s.0 t.aside)
