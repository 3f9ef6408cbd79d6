-- The last unswept object is swept: its fields that ask become slots.
use Rattle.std.proofs.Common.{◌≡◌, ◌≢◌, ℕ, ◌<◌, ◌≤◌, true, false, not, ◌||◌, ◌&&◌, ◌==◌, List, [], ◌∷◌, ◌++◌, map, filter, length, Contains, IsTrue, refl, sym, ap, subst, ◌∙◌, inl, inr, arith, Some}
use Rattle.std.proofs.lemmas.Bool.{and_from, both_ways, cases_eq, cases_lt, eq-eqb, false_from_ne_true, ne_eqb, or_right}
use Rattle.std.proofs.lemmas.List.Elements.{Contains-append_left, Contains-append_right, Contains-append_cases, Contains-push}
use Rattle.std.proofs.lemmas.List.{map_push}
use Rattle.std.proofs.lemmas.Option.{none-some, same_Some}
use Rattle.gc_mail.specs.declared.message.Slot.{Slot as Back}
use Rattle.gc_mail.specs.declared.message.Slot.TheVariants as back
use Rattle.gc_mail.specs.Recipients.{owner}
use Rattle.segment.specs.Segments.{Start}
use Rattle.trace_types.specs.Rules.{has}
use Rattle.owned_core.specs.declared.slot.Want.TheVariants.{Keep}
use Rattle.owned_core.specs.declared.slot.Slot.{Slot}
use Rattle.owned_core.specs.declared.slot.Standing.{Standing}
use Rattle.owned_core.specs.declared.machine.Entry.{Entry}
use Rattle.owned_core.specs.declared.event.Event.TheVariants.{Sweep}
use Rattle.owned_core.specs.Owned.{begun, in_list, is_due, is_opened, is_swept}
use Rattle.owned_core.specs.Parts.{BecomesHere, Makes, Part, alone, swept_here, with_news}
use Rattle.owned_core.specs.Settings.{Setting, all_dues, is_collected as is_open}
use Rattle.owned_core.specs.Slots.{Due, same_slot}
use Rattle.owned_core.proofs.Lists.{map_some, some_any, some_map}
use Rattle.owned_core.proofs.Making.{unswept_fresh}
use Rattle.owned_core.proofs.Parts.{has_filter, true_and}
use Rattle.owned_core.proofs.SameSlots.{same_slot_name}
use Rattle.sweep_model.specs.World.{World, IsWorld, asks, is_collected}
use Rattle.sweep_model.specs.Settings.{IsSettingOf, due_of, member_of, slot_at}
use Rattle.sweep_model.specs.Hands.{FixedAt, Hand, IsSwept, Tied, object_of, with_unswept}
use Rattle.sweep_model.specs.Holding.{Holds, IsKnown, count_of, entry_of, mail_of, news_from}
use Rattle.sweep_model.specs.Moves.{SweepGoes}
use Rattle.sweep_model.proofs.Asking.{fixed_there}
use Rattle.sweep_model.proofs.Apt.{core_collects, due_from}
use Rattle.sweep_model.proofs.Counting.{alike_back, alike_both, count_append, count_found, count_none}
use Rattle.sweep_model.proofs.Going.{goes_one, same_itself}
use Rattle.sweep_model.proofs.Lasts.{filter_last, has_not}
use Rattle.sweep_model.proofs.Memory.{AreOnce, last_differs, still_unswept}
use Rattle.sweep_model.proofs.Names.{asks_collected, field_in, named_once}
use Rattle.sweep_model.proofs.News.{IsNews, count_news, news_alike, news_some, some_news}

-- the last unswept object of the list is x
module _ (world : World) (w : Setting) (h : Hand) (p : Part) (rest : List (ℕ × ℕ)) (x q : ℕ) (s : Start)
    (is_world : IsWorld world) (setting : IsSettingOf world w) (tied : Tied world h)
    (last : h.unswept ≡ rest ++ (x, q) ∷ []) (was : world.image x ≡ Some s)
    (holds : Holds world w h [] p) where
  in_unswept : Contains h.unswept (x, q)
  in_unswept = subst (λ l. Contains l (x, q)) (sym last) (Contains-push rest (x, q))

  in_own : Contains h.own (x, q)
  in_own = tied.unswept_in x q in_unswept

  mine : owner world.sweepers x ≡ h.number
  mine = (tied.mine x q in_own).0

  collected : is_collected world x ≡ true
  collected = (tied.mine x q in_own).1

  -- the objects that are unswept after it
  abbrev left : List ℕ
  left = map object_of rest

  unswept_is : p.unswept ≡ map object_of rest ++ x ∷ []
  unswept_is = holds.unswept ∙ ap (map object_of) last ∙ map_push object_of rest (x, q)

  left_differ : (y : ℕ) → Contains left y → y ≢ x
  left_differ y c e =
      let r = map_some object_of rest y c in
      last_differs rest (x, q) r.0 (subst AreOnce last tied.unswept_once) r.1 (r.2 ∙ e)

  unswept_after : filter (λ y. not (y == x)) p.unswept ≡ left
  unswept_after = ap (filter (λ y. not (y == x))) unswept_is ∙ filter_last x left left_differ

  unswept_before : IsTrue (has p.unswept x)
  unswept_before = some_any (λ y. y == x) p.unswept x
      (subst (λ l. Contains l x) (sym unswept_is) (Contains-push left x)) (eq-eqb x x refl)

  listed : IsTrue (in_list (alone (swept_here p x)) x)
  listed = some_any (λ (e : Entry). e.object == x) p.own (entry_of h.number (x, q))
      (subst (λ l. Contains l (entry_of h.number (x, q))) (sym holds.own)
      (some_map (entry_of h.number) h.own (x, q) in_own))
      (eq-eqb x x refl)

  swept_now : IsTrue (is_swept (alone (swept_here p x)) x)
  swept_now = and_from _ _ listed
      (ap not (ap (λ l. has l x) unswept_after ∙ has_not x left left_differ))

  swept_same : (y : ℕ) → y ≢ x → is_swept (alone p) y ≡ is_swept (alone (swept_here p x)) y
  swept_same y other =
      let kept : has (filter (λ z. not (z == x)) p.unswept) y ≡ has p.unswept y =
      has_filter x p.unswept y ∙ ap (λ z. has p.unswept y && not z) (ne_eqb y x other)
      ∙ true_and (has p.unswept y) in
      ap (λ z. in_list (alone p) y && not z) (sym kept)

  -- ---- its slots are new

  -- what has the name of a field of x is that field
  field_is : (b : Back) (t i u : ℕ) → asks world b ≡ Some t → asks world (back.Field i x) ≡ Some u
      → (slot_at world b Keep t).name ≡ (slot_at world (back.Field i x) Keep u).name → b ≡ back.Field i x
  field_is b t i u = named_once world is_world b (back.Field i x) t u

  was_not : (u : Standing) → Contains p.here u → (i t : ℕ) → asks world (back.Field i x) ≡ Some t
      → IsTrue (same_slot u.slot (slot_at world (back.Field i x) Keep t)) → ⊥
  was_not u c i t wants same =
      let k = holds.known u c in
      let field : k.where_to ≡ back.Field i x = field_is k.where_to u.slot.target i t k.wants wants
      (sym (ap (λ (a : Slot). a.name) k.slot)
      ∙ same_slot_name u.slot (slot_at world (back.Field i x) Keep t) same) in
      elim (holds.begun u c x i (ap (asks world) (sym field) ∙ k.wants)
      (k.slot ∙ ap (λ z. slot_at world z Keep u.slot.target) field) mine) [
        | inl old ↦ both_ways (is_collected world x) old collected
        | inr r ↦ r.1 q in_unswept
      ]

  fresh : (u : Standing) → IsNews world w x 0 (length s.words) u → (d : Due) → Contains (all_dues w) d
      → d.slot ≡ u.slot
      → is_due w (alone p) d ≡ false
  fresh u r =
      unswept_fresh w p x u.slot (core_collects world w setting x collected) unswept_before (λ d known same.
      let f = due_from world w setting d known in
      let named : (slot_at world f.0 Keep f.1).name
      ≡ (slot_at world (back.Field r.index x) Keep r.target).name =
      sym (ap (λ (e : Due). e.slot.name) f.3) ∙ ap (λ (a : Slot). a.name) same
      ∙ ap (λ (z : Standing). z.slot.name) r.is in
      ap (λ (e : Due). e.member) f.3 ∙ ap member_of (field_is f.0 f.1 r.index r.target f.2 r.wants named))

  due_now : (i t : ℕ) → asks world (back.Field i x) ≡ Some t
      → IsTrue (is_due w (alone (swept_here p x)) (due_of world (back.Field i x) t))
  due_now i t wants =
      and_from (is_open w t && is_opened w (alone (swept_here p x)) (Some x)) true
      (and_from (is_open w t) (is_opened w (alone (swept_here p x)) (Some x))
      (core_collects world w setting t (asks_collected world (back.Field i x) t wants))
      (or_right (has w.older x) (is_swept (alone (swept_here p x)) x) swept_now))
      refl

  below : (i t : ℕ) → asks world (back.Field i x) ≡ Some t → i < length s.words
  below i t wants =
      let f = field_in world x i t wants in
      let same : f.start ≡ s = same_Some _ _ (sym f.is ∙ was) in
      let words : length f.start.words ≡ length s.words = ap (λ (z : Start). length z.words) same in
      omega (arith, f.below, words)

  abbrev news : List Standing
  news = news_from world w x 0 (length s.words)

  -- what was not due and is now is a field of x
  newly : (b : Back) (t : ℕ) → asks world b ≡ Some t → is_due w (alone p) (due_of world b t) ≡ false
      → IsTrue (is_due w (alone (swept_here p x)) (due_of world b t))
      → Contains (map (λ z. z.slot) news) (slot_at world b Keep t)
  newly (back.Register r) t e before after =
      absurd (both_ways (is_due w (alone p) (due_of world (back.Register r) t)) before after)
  newly (back.Field i y) t e before after = elim (cases_eq y x) [
    | inl same ↦
        let wants : asks world (back.Field i x) ≡ Some t =
        ap (λ z. asks world (back.Field i z)) (sym same) ∙ e in
        subst (λ z. Contains (map (λ z. z.slot) news) (slot_at world (back.Field i z) Keep t)) (sym same)
        (some_map (λ z. z.slot) news (begun w (slot_at world (back.Field i x) Keep t))
        (some_news world w x 0 (length s.words) i t (omega arith) (omega (arith, below i t wants)) wants))
    | inr other ↦ absurd (both_ways (is_due w (alone p) (due_of world (back.Field i y) t)) before
        (ap (λ z. is_open w t && (has w.older y || z) && true) (swept_same y other) ∙ after))
  ]
  newly (back.Entry line part) t e before after = absurd (none-some _ e)
  newly (back.Wait y) t e before after = absurd (none-some _ e)
  newly back.Nothing t e before after = absurd (none-some _ e)

  makes : Makes w h.number p (swept_here p x) news
  makes = record {
    sound = λ u c.
        let r = news_some world w x 0 (length s.words) u c in (
          due_of world (back.Field r.index x) r.target,
          setting.to (back.Field r.index x) r.target r.wants,
          sym r.is,
          mine,
          due_now r.index r.target r.wants,
        );
    new = λ u c. fresh u (news_some world w x 0 (length s.words) u c);
    complete = λ d c held before after.
        let r = setting.from d c in
        Contains-append_right p.made (map (λ z. z.slot) news) d.slot
        (subst (λ (z : Due). Contains (map (λ z. z.slot) news) z.slot) (sym r.3)
        (newly r.0 r.1 r.2 (subst (λ z. is_due w (alone p) z ≡ false) r.3 before)
        (subst (λ z. IsTrue (is_due w (alone (swept_here p x)) z)) r.3 after)));
  }

  pub sweeps : BecomesHere w h.number p (Sweep h.number x)
      (with_news (swept_here p x) (news_from world w x 0 (length s.words)))
  sweeps = (refl, setting.owner x ∙ mine, unswept_before, (news, makes, refl))

  -- ---- and it stands for the part after it

  still_there : (c : Back) (t : ℕ) → FixedAt world h c t → FixedAt world (with_unswept h rest) c t
  still_there (back.Register r) t f = f
  still_there (back.Field i y) t f = f
  still_there (back.Entry line part) t f = f
  still_there (back.Wait y) t f = f
  still_there back.Nothing t f = f

  old_new : (u v : Standing) → Contains p.here u → Contains news v → IsTrue (same_slot u.slot v.slot) → ⊥
  old_new u v cu cv same =
      let r = news_some world w x 0 (length s.words) v cv in
      was_not u cu r.index r.target r.wants
      (subst (λ (z : Standing). IsTrue (same_slot u.slot z.slot)) r.is same)

  new_new : (u v : Standing) → Contains news u → Contains news v → IsTrue (same_slot u.slot v.slot) → u ≡ v
  new_new u v cu cv = news_alike world w x 0 (length s.words) u v
      (news_some world w x 0 (length s.words) u cu) (news_some world w x 0 (length s.words) v cv)

  new_known : (u : Standing) → Contains news u → IsKnown world u.slot
  new_known u c =
      let r = news_some world w x 0 (length s.words) u c in
      subst (λ (z : Standing). IsKnown world z.slot) (sym r.is)
      (record { where_to = back.Field r.index x; wants = r.wants; slot = refl })

  -- what was swept still is, and x is so now
  still_swept : (y : ℕ) → IsSwept h y → IsSwept (with_unswept h rest) y
  still_swept y s = (s.0, λ r c. s.1 r (still_unswept h rest (x, q) (y, r) last c))

  x_swept : IsSwept (with_unswept h rest) x
  x_swept = ((q, in_own), λ r c. left_differ x (some_map object_of rest (x, r) c) refl)

  -- a field that a new slot is of is one of x
  new_begun : (u : Standing) → Contains news u → (y j : ℕ) → asks world (back.Field j y) ≡ Some u.slot.target
      → u.slot ≡ slot_at world (back.Field j y) Keep u.slot.target → IsSwept (with_unswept h rest) y
  new_begun u c y j wants is_slot =
      let r = news_some world w x 0 (length s.words) u c in
      let field : back.Field j y ≡ back.Field r.index x =
      field_is (back.Field j y) u.slot.target r.index r.target wants r.wants
      (sym (ap (λ (a : Slot). a.name) is_slot) ∙ ap (λ (z : Standing). z.slot.name) r.is) in
      subst (IsSwept (with_unswept h rest)) (sym (same_Some _ _ (ap member_of field))) x_swept

  once_again : (a : Slot) → count_of a (mail_of world (with_unswept h rest) news) ≤ 1
  once_again a =
      let sum = count_append a news (mail_of world h []) in
      let new = count_news world w x 0 (length s.words) a in
      let old = holds.once a in
      elim (cases_lt 0 (count_of a news)) [
        | inr none ↦ omega (arith, sum, none, old)
        | inl some ↦
            let v = count_found a news some in
            let none : count_of a (mail_of world h []) ≡ 0 = count_none a (mail_of world h []) (λ u c.
            false_from_ne_true (same_slot u.slot a)
            (λ e. old_new u v.0 (holds.mail u c) v.1 (alike_both u.slot v.0.slot a e v.2))) in
            omega (arith, sum, none, new)
      ]

  pub holds_swept : Holds world w (with_unswept h rest) (news_from world w x 0 (length s.words))
      (with_news (swept_here p x) (news_from world w x 0 (length s.words)))
  holds_swept = record {
    own = holds.own;
    unswept = unswept_after;
    mail = λ u c. elim (Contains-append_cases news (mail_of world h []) u c) [
      | inl e ↦ Contains-append_right p.here news u e
      | inr e ↦ Contains-append_left p.here news u (holds.mail u e)
    ];
    here = λ u c. elim (Contains-append_cases p.here news u c) [
      | inl e ↦ elim (holds.here u e) [
        | inl m ↦ inl (Contains-append_right news (mail_of world h []) u m)
        | inr f ↦ inr (fixed_there world h (with_unswept h rest) u (λ c r _ _. still_there c r) f)
      ]
      | inr e ↦ inl (Contains-append_left news (mail_of world h []) u e)
    ];
    once = once_again;
    apart = λ u v cu cv same. elim (Contains-append_cases p.here news u cu) [
      | inl eu ↦ elim (Contains-append_cases p.here news v cv) [
        | inl ev ↦ holds.apart u v eu ev same
        | inr nv ↦ absurd (old_new u v eu nv same)
      ]
      | inr nu ↦ elim (Contains-append_cases p.here news v cv) [
        | inl ev ↦ absurd (old_new v u ev nu (alike_back u.slot v.slot same))
        | inr nv ↦ new_new u v nu nv same
      ]
    ];
    known = λ u c. elim (Contains-append_cases p.here news u c) [
      | inl e ↦ holds.known u e
      | inr e ↦ new_known u e
    ];
    begun = λ u c y j a is_slot o. elim (Contains-append_cases p.here news u c) [
      | inl e ↦ elim (holds.begun u e y j a is_slot o) [
        | inl old ↦ inl old
        | inr r ↦ inr (still_swept y r)
      ]
      | inr e ↦ inr (new_begun u e y j a is_slot)
    ];
  }

-- so a sweep is an event
pub sweep_goes : SweepGoes
sweep_goes world w h rest x q s is_world setting tied last was p holds =
    goes_one world w h.number (with_unswept h rest) (news_from world w x 0 (length s.words)) p
    (with_news (swept_here p x) (news_from world w x 0 (length s.words))) _ (Sweep h.number x)
    (sweeps world w h p rest x q s is_world setting tied last was holds) (same_itself _)
    (holds_swept world w h p rest x q s is_world setting tied last was holds)
