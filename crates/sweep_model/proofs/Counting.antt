-- How often a slot stands in a list.
use Rattle.std.proofs.Common.{◌≡◌, ◌+◌, ◌<◌, ◌≤◌, Bool, true, false, List, [], ◌∷◌, ◌++◌, Contains, IsTrue, refl, sym, ap, subst, ◌∙◌, inl, inr, arith}
use Rattle.std.proofs.lemmas.Bool.{cases_Bool, false≢true, false_from_ne_true}
use Rattle.owned_core.specs.declared.slot.Slot.{Slot}
use Rattle.owned_core.specs.declared.slot.Standing.{Standing}
use Rattle.owned_core.specs.Slots.{same_slot}
use Rattle.owned_core.proofs.Lists.{contains_none, contains_cases, contains_here, contains_there}
use Rattle.owned_core.proofs.SameSlots.{same_slot_itself, slot_is}
use Rattle.sweep_model.specs.Holding.{count_of, one_if}

-- one, where the test holds
pub one_true : (b : Bool) → IsTrue b → one_if b ≡ 1
one_true true h = refl
one_true false h = absurd (false≢true h)

-- and one at most
pub one_most : (b : Bool) → one_if b ≤ 1
one_most true = omega arith
one_most false = omega arith

-- of two lists, the sum
pub count_append : (a : Slot) (xs ys : List Standing) → count_of a (xs ++ ys) ≡ count_of a xs + count_of a ys
count_append a [] ys = omega arith
count_append a (x ∷ xs) ys = omega (arith, count_append a xs ys)

-- a slot that is there stands there
pub count_some : (a : Slot) (ts : List Standing) (u : Standing) → Contains ts u → IsTrue (same_slot u.slot a)
    → 1 ≤ count_of a ts
count_some a [] u c h = absurd (contains_none u c)
count_some a (t ∷ ts) u c h = elim (contains_cases t ts u c) [
  | inl e ↦
      let o : one_if (same_slot t.slot a) ≡ 1 =
      one_true _ (subst (λ (z : Standing). IsTrue (same_slot z.slot a)) (sym e) h) in
      omega (arith, o)
  | inr r ↦ let o : 1 ≤ count_of a ts = count_some a ts u r h in omega (arith, o)
]

-- one that is not there stands there never
pub count_none : (a : Slot) (ts : List Standing)
    → ((u : Standing) → Contains ts u → same_slot u.slot a ≡ false) → count_of a ts ≡ 0
count_none a [] f = refl
count_none a (t ∷ ts) f =
    let o : one_if (same_slot t.slot a) ≡ 0 = ap one_if (f t (contains_here t ts)) in
    let r : count_of a ts ≡ 0 = count_none a ts (λ u c. f u (contains_there t ts u c)) in
    omega (arith, o, r)

-- what stands there is there
pub count_found : (a : Slot) (ts : List Standing) → 0 < count_of a ts
    → (u : Standing) × Contains ts u × IsTrue (same_slot u.slot a)
count_found a [] h = absurd (omega arith)
count_found a (t ∷ ts) h = elim (cases_Bool (same_slot t.slot a)) [
  | inl alike ↦ (t, contains_here t ts, alike)
  | inr differ ↦
      let o : one_if (same_slot t.slot a) ≡ 0 = ap one_if differ in
      let r = count_found a ts (omega (arith, o, h)) in
      (r.0, contains_there t ts r.0 r.1, r.2)
]

-- what stands once at the head stands nowhere else
pub others_differ : (t : Standing) (ts : List Standing) → count_of t.slot (t ∷ ts) ≤ 1
    → (u : Standing) → Contains ts u → same_slot u.slot t.slot ≡ false
others_differ t ts h u c = false_from_ne_true (same_slot u.slot t.slot) (λ e.
    let o : one_if (same_slot t.slot t.slot) ≡ 1 =
    one_true (same_slot t.slot t.slot) (same_slot_itself t.slot) in
    let m : 1 ≤ count_of t.slot ts = count_some t.slot ts u c e in
    absurd (omega (arith, o, m, h)))

-- ---- alike

-- whichever of two is named first
pub alike_back : (a b : Slot) → IsTrue (same_slot a b) → IsTrue (same_slot b a)
alike_back a b h = subst (λ z. IsTrue (same_slot b z)) (sym (slot_is a b h)) (same_slot_itself b)

-- what is like a third slot is alike
pub alike_both : (a b c : Slot) → IsTrue (same_slot a c) → IsTrue (same_slot b c) → IsTrue (same_slot a b)
alike_both a b c h g =
    subst (λ z. IsTrue (same_slot a z)) (slot_is a c h ∙ sym (slot_is b c g)) (same_slot_itself a)
