-- An object that was heard of is copied: it is forwarded.
use Rattle.std.proofs.Common.{◌≡◌, ◌≢◌, ℕ, ◌%◌, ◌<◌, false, not, ◌&&◌, ◌==◌, List, [], ◌∷◌, ◌++◌, map, length, cond, Contains, IsTrue, refl, sym, ap, subst, ◌∙◌, inl, inr, arith, Option, None, Some, is_some}
use Rattle.std.proofs.lemmas.Bool.{and_from, cases_Bool, cases_eq, eq-eqb, eqb-true, false_from_ne_true}
use Rattle.std.proofs.lemmas.List.{get_or_default, map_push}
use Rattle.std.proofs.lemmas.List.Elements.{Contains-append_left, Contains-get_or, Contains-push_cases}
use Rattle.std.proofs.lemmas.Option.{none-some}
use Rattle.std.specs.List.{list_any}
use Rattle.gc_words.specs.declared.value.Value.TheVariants as value
use Rattle.gc_mail.specs.declared.message.Message.TheVariants as message
use Rattle.gc_mail.specs.declared.message.Slot.{Slot as Back}
use Rattle.gc_mail.specs.declared.message.Slot.TheVariants as back
use Rattle.gc_mail.specs.Recipients.{owner}
use Rattle.segment.specs.Segments.{Start}
use Rattle.owned_core.specs.declared.slot.Standing.{Standing}
use Rattle.owned_core.specs.declared.machine.Entry.{Entry}
use Rattle.owned_core.specs.declared.event.Event.TheVariants.{Forward}
use Rattle.owned_core.specs.Events.{is_heard_keep}
use Rattle.owned_core.specs.Owned.{in_list, is_taken}
use Rattle.owned_core.specs.Parts.{BecomesHere, MayForwardHere, Part, alone, forwarded_here}
use Rattle.owned_core.specs.Settings.{Setting}
use Rattle.owned_core.proofs.Lists.{any_some, contains_here, map_some, some_any}
use Rattle.sweep_model.specs.World.{World, is_collected}
use Rattle.sweep_model.specs.Settings.{IsSettingOf}
use Rattle.sweep_model.specs.Hands.{FixedAt, Hand, IsAt, IsCopiedNow, IsSwept, Tied, field_of, forwarded_at, object_of, unswept_of}
use Rattle.sweep_model.specs.Holding.{Holds, count_of, entry_of, in_standing, mail_of, out_standing}
use Rattle.sweep_model.specs.Moves.{CopyGoes}
use Rattle.sweep_model.proofs.Asking.{fixed_there}
use Rattle.sweep_model.proofs.Going.{goes_one, same_itself}
use Rattle.sweep_model.proofs.Memory.{index_some}

-- an object x of its own that was heard of is copied to the place q
module _ (world : World) (w : Setting) (h h' : Hand) (todo : List Standing) (x q : ℕ) (b : Back) (p : Part)
    (setting : IsSettingOf world w) (tied : Tied world h) (mine : owner world.sweepers x ≡ h.number)
    (copied : IsCopiedNow world.targets h h' x q)
    (holds : Holds world w h (in_standing world (message.Forward x b) ∷ todo) p) where
  -- ---- it may be forwarded

  own_index : (e : Entry) → Contains p.own e
      → (n : ℕ) × (n < length h.own) × (entry_of h.number (forwarded_at h.own n) ≡ e)
  own_index e c =
      let r = map_some (entry_of h.number) h.own e (subst (λ l. Contains l e) holds.own c) in
      (r.1.0, r.1.1, ap (entry_of h.number) (get_or_default h.own r.1.0 (0, 0) r.0 r.1.1 ∙ r.1.2) ∙ r.2)

  not_listed : in_list (alone p) x ≡ false
  not_listed = false_from_ne_true _ (λ e.
      let r = any_some (λ (e : Entry). e.object == x) p.own e in
      let i = own_index r.0 r.1 in
      copied.absent i.0 i.1 (ap (λ (e : Entry). e.object) i.2 ∙ eqb-true r.0.object x r.2))

  -- what is in the list has a place where something is now
  place_used : (n : ℕ) → n < length h.own → (forwarded_at h.own n).1 ≢ q
  place_used n l e =
      let f : ℕ × ℕ = forwarded_at h.own n in
      let k =
      tied.copied (forwarded_at h.own n).0 (forwarded_at h.own n).1 (Contains-get_or h.own n (0, 0) l) in
      none-some k.new (sym copied.free ∙ ap h.now (sym e) ∙ k.is)

  not_taken : is_taken (alone p) q ≡ false
  not_taken = false_from_ne_true _ (λ e.
      let r = any_some (λ (e : Entry). e.place == q) p.own e in
      let i = own_index r.0 r.1 in
      place_used i.0 i.1 (ap (λ (e : Entry). e.place) i.2 ∙ eqb-true r.0.place q r.2))

  territory : owner world.sweepers q ≡ h.number
  territory = ap (λ n. n % world.sweepers) copied.thread ∙ mine

  -- nothing was at the place when the collection began, since all of that is still there
  fresh : (o : Option Start) → world.image q ≡ o → is_some o ≡ false
  fresh None e = refl
  fresh (Some s) e = elim (cases_Bool (is_collected world q)) [
    | inl collected ↦ absurd (none-some s (sym copied.free ∙ tied.frozen q s e territory collected))
    | inr old ↦ let k = tied.older q s e territory old in absurd (none-some k.new (sym copied.free ∙ k.is))
  ]

  heard : IsTrue (list_any (is_heard_keep x) p.here)
  heard = some_any (is_heard_keep x) p.here (in_standing world (message.Forward x b))
      (holds.mail _ (contains_here (in_standing world (message.Forward x b)) (mail_of world h todo)))
      (and_from _ _ (eq-eqb x x refl) refl)

  may : MayForwardHere w h.number p x q
  may = record {
    owner = setting.owner x ∙ mine;
    new = not_listed;
    heard = heard;
    place =
        ap (λ z. cond z (q == w.old_place x) (not (is_taken (alone p) q) && not (w.was_place q)))
        (setting.stays x)
        ∙ and_from _ _ (ap not not_taken) (ap not (setting.was_place q ∙ fresh (world.image q) refl));
    territory = setting.place_owner q ∙ territory;
  }

  pub forwards : BecomesHere w h.number p (Forward h.number x q) (forwarded_here h.number p x q)
  forwards = (refl, may, refl)

  -- ---- and stands for the part after it

  own_after : p.own ++ entry_of h.number (x, q) ∷ [] ≡ map (entry_of h'.number) h'.own
  own_after =
      ap (λ l. l ++ entry_of h.number (x, q) ∷ []) holds.own
      ∙ sym (map_push (entry_of h.number) h.own (x, q))
      ∙ ap (λ k. map (entry_of k) (h.own ++ (x, q) ∷ [])) (sym copied.number)
      ∙ ap (map (entry_of h'.number)) (sym copied.own)

  unswept_after : p.unswept ++ x ∷ [] ≡ unswept_of h'
  unswept_after =
      ap (λ l. l ++ x ∷ []) holds.unswept
      ∙ sym (map_push object_of h.unswept (x, q))
      ∙ ap (map object_of) (sym copied.unswept)

  mail_same : mail_of world h' (in_standing world (message.Forward x b) ∷ todo)
      ≡ mail_of world h (in_standing world (message.Forward x b) ∷ todo)
  mail_same =
      ap (λ l. in_standing world (message.Forward x b) ∷ todo
      ++ (map (in_standing world) l ++ map (out_standing world) h'.outbox)) copied.inbox
      ∙ ap (λ l. in_standing world (message.Forward x b) ∷ todo
      ++ (map (in_standing world) h.inbox ++ map (out_standing world) l)) copied.outbox

  -- where something is written, nothing new was put
  still_written : (r i t : ℕ) → field_of (h.now r) i ≡ Some (value.Object t)
      → field_of (h'.now r) i ≡ Some (value.Object t)
  still_written r i t f = elim (cases_eq r q) [
    | inl is ↦ absurd (none-some _ (sym (ap (λ z. field_of z i) (ap h.now is ∙ copied.free)) ∙ f))
    | inr other ↦ ap (λ z. field_of z i) (copied.others r other) ∙ f
  ]

  still_own : (y r : ℕ) → Contains h.own (y, r) → Contains h'.own (y, r)
  still_own y r c =
      subst (λ l. Contains l (y, r)) (sym copied.own)
      (Contains-append_left h.own ((x, q) ∷ []) (y, r) c)

  still_at : (y r : ℕ) → IsAt world h.own y r → IsAt world h'.own y r
  still_at y r (inl old) = inl old
  still_at y r (inr c) = inr (still_own y r c)

  still_there : (c : Back) (t : ℕ) → FixedAt world h c t → FixedAt world h' c t
  still_there (back.Register r) t f = ap (λ g. g r) copied.register ∙ f
  still_there (back.Field i y) t f = (f.0, still_at y f.0 f.1, still_written f.0 i t f.2)
  still_there (back.Entry line part) t f = f
  still_there (back.Wait y) t f = f
  still_there back.Nothing t f = f

  -- what was forwarded before is not x
  own_differs : (y r : ℕ) → Contains h.own (y, r) → x ≢ y
  own_differs y r c e =
      let i = index_some h.own (y, r) c in
      copied.absent i.0 i.1 (ap object_of i.2 ∙ sym e)

  still_swept : (y : ℕ) → IsSwept h y → IsSwept h' y
  still_swept y s = (
    (s.0.0, still_own y s.0.0 s.0.1),
    λ r c.
        elim (Contains-push_cases h.unswept (x, q) (y, r) (subst (λ l. Contains l (y, r)) copied.unswept c)) [
          | inl e ↦ s.1 r e
          | inr e ↦ own_differs y s.0.0 s.0.1 (ap object_of e)
        ],
  )

  pub holds_copied : Holds world w h' (in_standing world (message.Forward x b) ∷ todo)
      (forwarded_here h.number p x q)
  holds_copied = record {
    own = own_after;
    unswept = unswept_after;
    mail = λ u c. holds.mail u (subst (λ l. Contains l u) mail_same c);
    here = λ u c. elim (holds.here u c) [
      | inl m ↦ inl (subst (λ l. Contains l u) (sym mail_same) m)
      | inr f ↦ inr (fixed_there world h h' u (λ d r _ _. still_there d r) f)
    ];
    once = λ a. let e = ap (count_of a) mail_same in omega (arith, holds.once a, e);
    apart = holds.apart;
    known = holds.known;
    begun = λ u c y i a e o. elim (holds.begun u c y i a e (o ∙ copied.number)) [
      | inl old ↦ inl old
      | inr s ↦ inr (still_swept y s)
    ];
  }

-- so a copy is the event that forwards the object
pub copy_goes : CopyGoes
copy_goes world w h h' todo x q b setting tied mine copied p holds =
    goes_one world w h.number h' (in_standing world (message.Forward x b) ∷ todo) p
    (forwarded_here h.number p x q) _
    (Forward h.number x q) (forwards world w h h' todo x q b p setting tied mine copied holds)
    (same_itself _)
    (holds_copied world w h h' todo x q b p setting tied mine copied holds)
