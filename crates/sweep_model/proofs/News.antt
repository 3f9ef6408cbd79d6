-- The slots that a sweep makes: each field that asks has one.
use Rattle.std.proofs.Common.{◌≡◌, ℕ, zero, suc, ◌+◌, ◌*◌, ◌<◌, ◌≤◌, [], Contains, IsTrue, refl, sym, ap, subst, ◌∙◌, inl, inr, arith, Option, None, Some}
use Rattle.std.proofs.lemmas.Bool.{cases_eq, cases_lt, false_from_ne_true}
use Rattle.std.proofs.lemmas.List.Elements.{Contains-append_left, Contains-append_right, Contains-append_cases}
use Rattle.std.proofs.lemmas.Option.{same_Some}
use Rattle.gc_mail.specs.declared.message.Slot.TheVariants as back
use Rattle.owned_core.specs.declared.slot.Want.TheVariants.{Keep}
use Rattle.owned_core.specs.declared.slot.Slot.{Slot}
use Rattle.owned_core.specs.declared.slot.Standing.{Standing}
use Rattle.owned_core.specs.Owned.{begun}
use Rattle.owned_core.specs.Settings.{Setting}
use Rattle.owned_core.specs.Slots.{same_slot}
use Rattle.owned_core.proofs.Lists.{contains_cases, contains_here, contains_none}
use Rattle.owned_core.proofs.SameSlots.{same_slot_name}
use Rattle.sweep_model.specs.World.{World, asks}
use Rattle.sweep_model.specs.Settings.{slot_at}
use Rattle.sweep_model.specs.Holding.{count_of, news_at, news_from, one_if}
use Rattle.sweep_model.proofs.Counting.{alike_both, count_append, count_found, one_most}

-- a new slot is that of a field from i on
pub record IsNews (world : World) (w : Setting) (x i n : ℕ) (u : Standing) : Type 0 where
  pub index : ℕ
  pub target : ℕ
  pub from : i ≤ index
  pub below : index < i + n
  pub wants : asks world (back.Field index x) ≡ Some target
  pub is : u ≡ begun w (slot_at world (back.Field index x) Keep target)

at_some : (world : World) (w : Setting) (x i : ℕ) (o : Option ℕ) (u : Standing)
    → Contains (news_at world w x i o) u
    → (t : ℕ) × (o ≡ Some t) × (u ≡ begun w (slot_at world (back.Field i x) Keep t))
at_some world w x i None u c = absurd (contains_none u c)
at_some world w x i (Some t) u c =
    elim (contains_cases (begun w (slot_at world (back.Field i x) Keep t)) [] u c) [
      | inl e ↦ (t, refl, sym e)
      | inr none ↦ absurd (contains_none u none)
    ]

some_at : (world : World) (w : Setting) (x i : ℕ) (o : Option ℕ) (t : ℕ) → o ≡ Some t
    → Contains (news_at world w x i o) (begun w (slot_at world (back.Field i x) Keep t))
some_at world w x i o t e =
    subst (λ z. Contains (news_at world w x i z) (begun w (slot_at world (back.Field i x) Keep t))) (sym e)
    (contains_here (begun w (slot_at world (back.Field i x) Keep t)) [])

-- each new slot is that of a field that asks
pub news_some : (world : World) (w : Setting) (x i n : ℕ) (u : Standing)
    → Contains (news_from world w x i n) u
    → IsNews world w x i n u
news_some world w x i zero u c = absurd (contains_none u c)
news_some world w x i (suc n) u c =
    elim (Contains-append_cases (news_at world w x i (asks world (back.Field i x)))
    (news_from world w x (i + 1) n) u c) [
      | inl e ↦
          let r = at_some world w x i (asks world (back.Field i x)) u e in
          record { index = i; target = r.0; from = omega arith; below = omega arith; wants = r.1; is = r.2 }
      | inr e ↦
          let r = news_some world w x (i + 1) n u e in
          record {
            index = r.index;
            target = r.target;
            from = omega (arith, r.from);
            below = omega (arith, r.below);
            wants = r.wants;
            is = r.is;
          }
    ]

-- and each field that asks has one
pub some_news : (world : World) (w : Setting) (x i n j t : ℕ) → i ≤ j → j < i + n
    → asks world (back.Field j x) ≡ Some t
    → Contains (news_from world w x i n) (begun w (slot_at world (back.Field j x) Keep t))
some_news world w x i zero j t from below e = absurd (omega arith)
some_news world w x i (suc n) j t from below e = elim (cases_eq j i) [
  | inl is ↦
      Contains-append_left (news_at world w x i (asks world (back.Field i x)))
      (news_from world w x (i + 1) n)
      (begun w (slot_at world (back.Field j x) Keep t))
      (subst (λ z. Contains (news_at world w x i (asks world (back.Field i x)))
      (begun w (slot_at world (back.Field z x) Keep t)))
      (sym is)
      (some_at world w x i (asks world (back.Field i x)) t
      (ap (λ z. asks world (back.Field z x)) (sym is) ∙ e)))
  | inr differ ↦
      Contains-append_right (news_at world w x i (asks world (back.Field i x)))
      (news_from world w x (i + 1) n)
      (begun w (slot_at world (back.Field j x) Keep t))
      (some_news world w x (i + 1) n j t (omega arith) (omega arith) e)
]

-- ---- none of them twice

-- slots of different fields of an object differ
pub index_is : (world : World) (x i j s t : ℕ)
    → IsTrue (same_slot (slot_at world (back.Field i x) Keep s) (slot_at world (back.Field j x) Keep t))
    → i ≡ j
index_is world x i j s t h =
    let m : 4 * (x * 8388608 + i) + 1 ≡ 4 * (x * 8388608 + j) + 1 =
    same_slot_name (slot_at world (back.Field i x) Keep s) (slot_at world (back.Field j x) Keep t) h in
    omega arith

-- new slots that are alike are one
pub news_alike : (world : World) (w : Setting) (x i n : ℕ) (u v : Standing) → IsNews world w x i n u
    → IsNews world w x i n v
    → IsTrue (same_slot u.slot v.slot) → u ≡ v
news_alike world w x i n u v r s h =
    let alike : IsTrue (same_slot (slot_at world (back.Field r.index x) Keep r.target)
    (slot_at world (back.Field s.index x) Keep s.target)) =
    subst (λ (z : Standing). IsTrue (same_slot (slot_at world (back.Field r.index x) Keep r.target) z.slot))
    s.is
    (subst (λ (z : Standing). IsTrue (same_slot z.slot v.slot)) r.is h) in
    let e : r.index ≡ s.index = index_is world x r.index s.index r.target s.target alike in
    let t : r.target ≡ s.target =
    same_Some _ _ (sym r.wants ∙ ap (λ z. asks world (back.Field z x)) e ∙ s.wants) in
    r.is
    ∙ ap (λ z. begun w (slot_at world (back.Field z x) Keep r.target)) e
    ∙ ap (λ z. begun w (slot_at world (back.Field s.index x) Keep z)) t
    ∙ sym s.is

count_at : (world : World) (w : Setting) (x i : ℕ) (o : Option ℕ) (a : Slot)
    → count_of a (news_at world w x i o) ≤ 1
count_at world w x i None a = omega arith
count_at world w x i (Some t) a =
    omega (arith, one_most (same_slot (slot_at world (back.Field i x) Keep t) a))

none_at : (world : World) (w : Setting) (x i : ℕ) (o : Option ℕ) (a : Slot)
    → ((t : ℕ) → IsTrue (same_slot (slot_at world (back.Field i x) Keep t) a) → ⊥)
    → count_of a (news_at world w x i o) ≡ 0
none_at world w x i None a f = refl
none_at world w x i (Some t) a f =
    let o : one_if (same_slot (slot_at world (back.Field i x) Keep t) a) ≡ 0 =
    ap one_if (false_from_ne_true (same_slot (slot_at world (back.Field i x) Keep t) a) (f t)) in
    omega (arith, o)

-- so no slot stands twice among the new ones
pub count_news : (world : World) (w : Setting) (x i n : ℕ) (a : Slot)
    → count_of a (news_from world w x i n) ≤ 1
count_news world w x i zero a = omega arith
count_news world w x i (suc n) a =
    let s =
    count_append a (news_at world w x i (asks world (back.Field i x))) (news_from world w x (i + 1) n) in
    let one = count_at world w x i (asks world (back.Field i x)) a in
    let rest = count_news world w x (i + 1) n a in
    elim (cases_lt 0 (count_of a (news_from world w x (i + 1) n))) [
      | inr none ↦ omega (arith, s, one, none)
      | inl some ↦
          let u = count_found a (news_from world w x (i + 1) n) some in
          let r = news_some world w x (i + 1) n u.0 u.1 in
          let z : count_of a (news_at world w x i (asks world (back.Field i x))) ≡ 0 =
          none_at world w x i (asks world (back.Field i x)) a (λ t h.
          let e : i ≡ r.index = index_is world x i r.index t r.target
          (alike_both (slot_at world (back.Field i x) Keep t)
          (slot_at world (back.Field r.index x) Keep r.target) a h
          (subst (λ (v : Standing). IsTrue (same_slot v.slot a)) r.is u.2)) in
          absurd (omega (arith, e, r.from))) in
          omega (arith, s, z, rest)
    ]
