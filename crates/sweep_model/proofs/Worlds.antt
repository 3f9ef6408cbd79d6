-- Each world has a setting: its starts and registers are finitely many, so its slots are.
use Rattle.std.proofs.Common.{◌≡◌, ℕ, zero, suc, ◌<◌, ◌==◌, false, List, [], ◌∷◌, ◌++◌, filter, length, Contains, Option, None, Some, refl, sym, ap, subst, ◌∙◌, inl, inr, arith}
use Rattle.std.specs.List.{flat_map}
use Rattle.std.specs.Option.{is_some}
use Rattle.std.proofs.lemmas.Bool.{both_ways, cases_Bool, cases_eq, cases_lt, eq-eqb, eqb-true, false_from_ne_true}
use Rattle.std.proofs.lemmas.List.Elements.{Contains-append_cases, Contains-append_left, Contains-append_right}
use Rattle.std.proofs.lemmas.Option.{none-some}
use Rattle.trace_types.specs.Rules.{has}
use Rattle.segment.specs.Segments.{Start}
use Rattle.gc_mail.specs.declared.message.Slot.{Slot as Back}
use Rattle.gc_mail.specs.declared.message.Slot.TheVariants as back
use Rattle.gc_mail.specs.Recipients.{owner}
use Rattle.owned_core.specs.Settings.{Setting}
use Rattle.owned_core.specs.Slots.{Due}
use Rattle.owned_core.proofs.Lists.{any_some, contains_cases, contains_here, contains_none, contains_there, filter_some, some_any, some_filter}
use Rattle.sweep_model.specs.Settings.{IsSettingOf, due_of}
use Rattle.sweep_model.specs.Wholes.{IsListed}
use Rattle.sweep_model.specs.World.{World, asks, is_older, object_in}
use Rattle.sweep_model.proofs.Ages.{older_start}
use Rattle.sweep_model.proofs.Names.{collected_some, field_in}

-- ---- lists

-- what is in lists that are joined is in one of them
flat_some : {X Y : Type 0} (f : X → List Y) (xs : List X) (y : Y) → Contains (flat_map f xs) y
    → (x : X) × Contains xs x × Contains (f x) y
flat_some f [] y c = absurd (contains_none y c)
flat_some f (x ∷ xs) y c = elim (Contains-append_cases (f x) (flat_map f xs) y c) [
  | inl e ↦ (x, contains_here x xs, e)
  | inr e ↦ let r = flat_some f xs y e in (r.0, contains_there x xs r.0 r.1, r.2)
]

-- and what is in one of them is there
pub some_flat : {X Y : Type 0} (f : X → List Y) (xs : List X) (x : X) (y : Y) → Contains xs x → Contains (f x) y
    → Contains (flat_map f xs) y
some_flat f [] x y c d = absurd (contains_none x c)
some_flat f (z ∷ xs) x y c d = elim (contains_cases z xs x c) [
  | inl e ↦ Contains-append_left (f z) (flat_map f xs) y (subst (λ v. Contains (f v) y) (sym e) d)
  | inr e ↦ Contains-append_right (f z) (flat_map f xs) y (some_flat f xs x y e d)
]

-- what a function gives at each number below n
below : {X : Type 0} → (ℕ → X) → ℕ → List X
below f zero = []
below f (suc n) = f n ∷ below f n

below_some : {X : Type 0} (f : ℕ → X) (n i : ℕ) → i < n → Contains (below f n) (f i)
unfolding below
below_some f zero i l = absurd (omega (arith, l))
below_some f (suc n) i l = elim (cases_eq n i) [
  | inl e ↦ subst (λ z. Contains (f n ∷ below f n) (f z)) e (contains_here (f n) (below f n))
  | inr d ↦ contains_there (f n) (below f n) (f i) (below_some f n i (omega (arith, l, d)))
]

-- ---- older objects

-- the older ones of the starts are all older objects
older_are : (world : World) (listed : IsListed world) (x : ℕ)
    → has (filter (is_older world) listed.starts) x ≡ is_older world x
older_are world listed x = elim (cases_Bool (is_older world x)) [
  | inl old ↦
      let s = older_start world x old in
      let c = some_filter (is_older world) listed.starts x (listed.all x s.0 s.1) old in
      some_any (λ y. y == x) (filter (is_older world) listed.starts) x c (eq-eqb x x refl) ∙ sym old
  | inr not ↦ false_from_ne_true _ (λ there.
      let r = any_some (λ y. y == x) (filter (is_older world) listed.starts) there in
      let f = filter_some (is_older world) listed.starts r.0 r.1 in
      both_ways (is_older world x) not (ap (is_older world) (sym (eqb-true r.0 x r.2)) ∙ f.1)) ∙ sym not
]

-- ---- dues

-- the due of a slot, where it asks for something
due_for : World → Back → Option ℕ → List Due
due_for world b None = []
due_for world b (Some t) = due_of world b t ∷ []

due_for_some : (world : World) (b : Back) (o : Option ℕ) (d : Due) → Contains (due_for world b o) d
    → (t : ℕ) × (o ≡ Some t) × (d ≡ due_of world b t)
unfolding due_for
due_for_some world b None d c = absurd (contains_none d c)
due_for_some world b (Some t) d c = elim (contains_cases (due_of world b t) [] d c) [
  | inl e ↦ (t, refl, sym e)
  | inr none ↦ absurd (contains_none d none)
]

some_due_for : (world : World) (b : Back) (o : Option ℕ) (t : ℕ) → o ≡ Some t
    → Contains (due_for world b o) (due_of world b t)
unfolding due_for
some_due_for world b o t e =
    let there = contains_here (due_of world b t) [] in
    subst (λ z. Contains (due_for world b z) (due_of world b t)) (sym e) there

words_in : Option Start → ℕ
words_in None = 0
words_in (Some s) = length s.words

-- all registers that hold something, and all fields
registers_of : (world : World) → IsListed world → List Back
registers_of world listed = below back.Register listed.registers

fields_of : World → ℕ → List Back
fields_of world x = below (λ i. back.Field i x) (words_in (world.image x))

slots_of : (world : World) → IsListed world → List Back
slots_of world listed = registers_of world listed ++ flat_map (fields_of world) listed.starts

-- a slot that asks is one of them
slot_in : (world : World) (listed : IsListed world) (b : Back) (t : ℕ) → asks world b ≡ Some t
    → Contains (slots_of world listed) b
unfolding slots_of registers_of fields_of words_in
slot_in world listed (back.Register r) t e = elim (cases_lt r listed.registers) [
  | inl l ↦ Contains-append_left (registers_of world listed) (flat_map (fields_of world) listed.starts)
      (back.Register r) (below_some back.Register listed.registers r l)
  | inr past ↦
      let held = (collected_some world (object_in (world.registers r)) t e).0 in
      absurd (none-some t (sym (ap object_in (listed.none r past)) ∙ held))
]
slot_in world listed (back.Field i x) t e =
    let f = field_in world x i t e in
    let inside : i < words_in (world.image x) = subst (λ o. i < words_in o) (sym f.is) f.below in
    Contains-append_right (registers_of world listed) (flat_map (fields_of world) listed.starts)
    (back.Field i x) (some_flat (fields_of world) listed.starts x (back.Field i x) (listed.all x f.start f.is)
    (below_some (λ i. back.Field i x) (words_in (world.image x)) i inside))
slot_in world listed (back.Entry line part) t e = absurd (none-some t e)
slot_in world listed (back.Wait x) t e = absurd (none-some t e)
slot_in world listed back.Nothing t e = absurd (none-some t e)

due_at : World → Back → List Due
due_at world b = due_for world b (asks world b)

-- ---- the setting

pub world_has_setting : (world : World) → IsListed world → (w : Setting) × IsSettingOf world w
unfolding due_at
world_has_setting world listed =
    let w : Setting = record {
      older = filter (is_older world) listed.starts;
      owner = owner world.sweepers;
      stays = λ x. false;
      old_place = λ x. x;
      was_place = λ x. is_some (world.image x);
      place_owner = owner world.sweepers;
      dues = flat_map (due_at world) (slots_of world listed);
      past = [];
      given = [];
      believed = λ x p. false;
    } in
    let is : IsSettingOf world w = record {
      older = older_are world listed;
      given = refl;
      past = refl;
      believed = λ x p. refl;
      owner = λ x. refl;
      place_owner = λ x. refl;
      stays = λ x. refl;
      was_place = λ x. refl;
      from = λ d c.
          let r = flat_some (due_at world) (slots_of world listed) d c in
          let f = due_for_some world r.0 (asks world r.0) d r.2 in
          (r.0, f.0, f.1, f.2);
      to = λ b t e.
          some_flat (due_at world) (slots_of world listed) b (due_of world b t) (slot_in world listed b t e)
          (some_due_for world b (asks world b) t e);
    } in
    (w, is)
