-- A sweeper that begins stands for the start of the core.
use Rattle.std.proofs.Common.{◌≡◌, ◌≢◌, ℕ, ◌+◌, ◌≤◌, ◌==◌, Bool, true, false, cond, List, [], ◌∷◌, map, Some, Contains, IsTrue, refl, sym, ap, subst, ◌∙◌, inl, inr, ◌⊎◌, arith}
use Rattle.std.proofs.lemmas.Bool.{cases_Bool, eqb-true, eq-eqb, false≢true, false_from_ne_true}
use Rattle.gc_mail.specs.declared.message.Message.{Message}
use Rattle.gc_mail.specs.declared.message.Message.TheVariants as message
use Rattle.gc_mail.specs.declared.message.Slot.{Slot}
use Rattle.gc_mail.specs.Recipients.{owner}
use Rattle.owned_core.specs.declared.slot.Want.TheVariants.{Keep}
use Rattle.owned_core.specs.declared.slot.Slot.{Slot as CoreSlot}
use Rattle.owned_core.specs.Slots.{same_slot}
use Rattle.owned_core.proofs.Lists.{contains_cases, contains_here, contains_none, contains_there}
use Rattle.owned_core.proofs.SameSlots.{slot_is}
use Rattle.sweep_model.specs.World.{IsWorld, World, asks}
use Rattle.sweep_model.specs.Settings.{name_of, slot_at}
use Rattle.sweep_model.specs.Holding.{count_of, in_standing, one_if, out_standing}
use Rattle.sweep_model.proofs.Counting.{alike_both, one_most}
use Rattle.sweep_model.proofs.Names.{named_once}
use Rattle.sweep_share.specs.Shares.{ShareView}
use Rattle.sweeper.specs.Starting.{NoSlotTwice, to_itself, to_others}

-- ---- the messages that go to itself, and to others

pub itself_in : (s : ShareView) (xs : List (Slot × ℕ)) (m : Message) → Contains (to_itself s xs) m
    → (b : Slot) × (t : ℕ) × (m ≡ message.Forward t b) × Contains xs (b, t) × (owner s.sweepers t ≡ s.number)
itself_in s [] m c = absurd (contains_none m c)
itself_in s (x ∷ xs) m c = at (owner s.sweepers x.1 == s.number) refl c (itself_in s xs m)
  where
    at : (b : Bool) → owner s.sweepers x.1 == s.number ≡ b
        → Contains (cond b (message.Forward x.1 x.0 ∷ to_itself s xs) (to_itself s xs)) m
        → (Contains (to_itself s xs) m
        → (b : Slot) × (t : ℕ) × (m ≡ message.Forward t b) × Contains xs (b, t)
        × (owner s.sweepers t ≡ s.number))
        → (b : Slot) × (t : ℕ) × (m ≡ message.Forward t b) × Contains (x ∷ xs) (b, t)
        × (owner s.sweepers t ≡ s.number)
    at true is h more = elim (contains_cases (message.Forward x.1 x.0) (to_itself s xs) m h) [
      | inl e ↦ (x.0, x.1, sym e, contains_here x xs, eqb-true (owner s.sweepers x.1) s.number is)
      | inr r ↦ let w = more r in (w.0, w.1, w.2, contains_there x xs (w.0, w.1) w.3, w.4)
    ]
    at false is h more = let w = more h in (w.0, w.1, w.2, contains_there x xs (w.0, w.1) w.3, w.4)

pub others_in : (s : ShareView) (xs : List (Slot × ℕ)) (m : Message) → Contains (to_others s xs) m
    → (b : Slot) × (t : ℕ) × (m ≡ message.Forward t b) × Contains xs (b, t) × (owner s.sweepers t ≢ s.number)
others_in s [] m c = absurd (contains_none m c)
others_in s (x ∷ xs) m c = at (owner s.sweepers x.1 == s.number) refl c (others_in s xs m)
  where
    at : (b : Bool) → owner s.sweepers x.1 == s.number ≡ b
        → Contains (cond b (to_others s xs) (message.Forward x.1 x.0 ∷ to_others s xs)) m
        → (Contains (to_others s xs) m
        → (b : Slot) × (t : ℕ) × (m ≡ message.Forward t b) × Contains xs (b, t)
        × (owner s.sweepers t ≢ s.number))
        → (b : Slot) × (t : ℕ) × (m ≡ message.Forward t b) × Contains (x ∷ xs) (b, t)
        × (owner s.sweepers t ≢ s.number)
    at true is h more = let w = more h in (w.0, w.1, w.2, contains_there x xs (w.0, w.1) w.3, w.4)
    at false is h more = elim (contains_cases (message.Forward x.1 x.0) (to_others s xs) m h) [
      | inl e ↦ (
        x.0,
        x.1,
        sym e,
        contains_here x xs,
        λ o. false≢true (sym is ∙ eq-eqb (owner s.sweepers x.1) s.number o),
      )
      | inr r ↦ let w = more r in (w.0, w.1, w.2, contains_there x xs (w.0, w.1) w.3, w.4)
    ]

-- each ask has its message
pub sent : (s : ShareView) (xs : List (Slot × ℕ)) (b : Slot) (t : ℕ) → Contains xs (b, t)
    → Contains (to_itself s xs) (message.Forward t b) ⊎ Contains (to_others s xs) (message.Forward t b)
sent s [] b t c = absurd (contains_none (b, t) c)
sent s (x ∷ xs) b t c = elim (contains_cases x xs (b, t) c) [
  | inl e ↦ at (owner s.sweepers x.1 == s.number)
      (ap (λ (z : Slot × ℕ). message.Forward z.1 z.0) e)
  | inr r ↦ later (owner s.sweepers x.1 == s.number) (sent s xs b t r)
]
  where
    at : (o : Bool) → message.Forward x.1 x.0 ≡ message.Forward t b
        → Contains (cond o (message.Forward x.1 x.0 ∷ to_itself s xs) (to_itself s xs)) (message.Forward t b)
        ⊎ Contains (cond o (to_others s xs) (message.Forward x.1 x.0 ∷ to_others s xs)) (message.Forward t b)
    at true e = inl (subst (Contains (message.Forward x.1 x.0 ∷ to_itself s xs)) e
        (contains_here (message.Forward x.1 x.0) (to_itself s xs)))
    at false e = inr (subst (Contains (message.Forward x.1 x.0 ∷ to_others s xs)) e
        (contains_here (message.Forward x.1 x.0) (to_others s xs)))

    later : (o : Bool) → Contains (to_itself s xs) (message.Forward t b) ⊎ Contains (to_others s xs)
        (message.Forward t b)
        → Contains (cond o (message.Forward x.1 x.0 ∷ to_itself s xs) (to_itself s xs)) (message.Forward t b)
        ⊎ Contains (cond o (to_others s xs) (message.Forward x.1 x.0 ∷ to_others s xs)) (message.Forward t b)
    later true (inl h) = inl (contains_there (message.Forward x.1 x.0) (to_itself s xs)
        (message.Forward t b) h)
    later true (inr h) = inr h
    later false (inl h) = inl h
    later false (inr h) = inr (contains_there (message.Forward x.1 x.0) (to_others s xs)
        (message.Forward t b) h)

-- ---- no slot twice

-- how often a slot of the core is asked for
abbrev count_asks : World → CoreSlot → List (Slot × ℕ) → ℕ
count_asks world a [] = 0
count_asks world a (x ∷ xs) = one_if (same_slot (slot_at world x.0 Keep x.1) a) + count_asks world a xs

pub count_mail : (world : World) (s : ShareView) (a : CoreSlot) (xs : List (Slot × ℕ))
    → count_of a (map (in_standing world) (to_itself s xs)) + count_of a
    (map (out_standing world) (to_others s xs))
    ≡ count_asks world a xs
count_mail world s a [] = refl
count_mail world s a (x ∷ xs) = at (owner s.sweepers x.1 == s.number) (count_mail world s a xs)
  where
    at : (o : Bool)
        → count_of a (map (in_standing world) (to_itself s xs)) + count_of a
        (map (out_standing world) (to_others s xs))
        ≡ count_asks world a xs
        → count_of a (map (in_standing world)
        (cond o (message.Forward x.1 x.0 ∷ to_itself s xs) (to_itself s xs)))
        + count_of a (map (out_standing world)
        (cond o (to_others s xs) (message.Forward x.1 x.0 ∷ to_others s xs)))
        ≡ one_if (same_slot (slot_at world x.0 Keep x.1) a) + count_asks world a xs
    at true h = omega (arith, h)
    at false h = omega (arith, h)

count_none : (world : World) (a : CoreSlot) (xs : List (Slot × ℕ))
    → ((x : Slot × ℕ) → Contains xs x → same_slot (slot_at world x.0 Keep x.1) a ≡ false)
    → count_asks world a xs ≡ 0
count_none world a [] f = refl
count_none world a (x ∷ xs) f =
    let o : one_if (same_slot (slot_at world x.0 Keep x.1) a) ≡ 0 = ap one_if (f x (contains_here x xs)) in
    let r : count_asks world a xs ≡ 0 = count_none world a xs (λ u c. f u (contains_there x xs u c)) in
    omega (arith, o, r)

pub count_once : (world : World) (a : CoreSlot) (xs : List (Slot × ℕ)) → IsWorld world → NoSlotTwice xs
    → ((x : Slot × ℕ) → Contains xs x → asks world x.0 ≡ Some x.1) → count_asks world a xs ≤ 1
count_once world a [] good once known = omega arith
count_once world a (x ∷ xs) good once known = elim (cases_Bool (same_slot (slot_at world x.0 Keep x.1) a)) [
  | inl here ↦
      let most : one_if (same_slot (slot_at world x.0 Keep x.1) a) ≤ 1 =
      one_most (same_slot (slot_at world x.0 Keep x.1) a) in
      let rest : count_asks world a xs ≡ 0 = count_none world a xs (λ u c.
      false_from_ne_true (same_slot (slot_at world u.0 Keep u.1) a) (λ e. other here u c e)) in
      omega (arith, most, rest)
  | inr differ ↦
      let o : one_if (same_slot (slot_at world x.0 Keep x.1) a) ≡ 0 = ap one_if differ in
      let r : count_asks world a xs ≤ 1 =
      count_once world a xs good once.1 (λ u c. known u (contains_there x xs u c)) in
      omega (arith, o, r)
]
  where
    other : IsTrue (same_slot (slot_at world x.0 Keep x.1) a) → (u : Slot × ℕ) → Contains xs u
        → IsTrue (same_slot (slot_at world u.0 Keep u.1) a) → ⊥
    other here u c e =
        let alike = alike_both (slot_at world u.0 Keep u.1) (slot_at world x.0 Keep x.1) a e here in
        let names : name_of u.0 ≡ name_of x.0 =
        ap (λ (z : CoreSlot). z.name) (slot_is (slot_at world u.0 Keep u.1)
        (slot_at world x.0 Keep x.1) alike) in
        let same : u.0 ≡ x.0 =
        named_once world good u.0 x.0 u.1 x.1 (known u (contains_there x xs u c))
        (known x (contains_here x xs)) names in
        once.0 u.1 (subst (λ b. Contains xs (b, u.1)) same c)
