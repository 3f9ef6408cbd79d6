-- Sweepers that begin with a message for each root stand for the state in which the core begins.
use Rattle.std.proofs.Common.{◌≡◌, ◌≢◌, ℕ, ◌<◌, [], ◌++◌, map, Contains, IsTrue, Some, refl, sym, ap, subst, ◌∙◌, inl, inr}
use Rattle.std.proofs.lemmas.Bool.{and_from, false≢true, or_cases, or_left}
use Rattle.std.proofs.lemmas.List.Elements.{Contains-append_cases, Contains-append_left, Contains-append_right}
use Rattle.std.proofs.lemmas.Option.{none-some}
use Rattle.trace_types.specs.Rules.{has}
use Rattle.gc_mail.specs.declared.message.Message.{Message}
use Rattle.gc_mail.specs.declared.message.Message.TheVariants as message
use Rattle.gc_mail.specs.declared.message.Slot.{Slot as Back}
use Rattle.gc_mail.specs.declared.message.Slot.TheVariants as back
use Rattle.gc_mail.specs.Recipients.{holder_of, owner, recipient_of}
use Rattle.owned_core.specs.declared.slot.Slot.{Slot}
use Rattle.owned_core.specs.declared.slot.Standing.{Standing}
use Rattle.owned_core.specs.declared.slot.Want.TheVariants.{Keep}
use Rattle.owned_core.specs.Owned.{State, begun, is_due, is_opened, is_swept}
use Rattle.owned_core.specs.Parts.{Part, alone, with_news}
use Rattle.owned_core.specs.PhaseParts.{AfterChange, MakesFresh}
use Rattle.owned_core.specs.Settings.{Setting}
use Rattle.owned_core.specs.Slots.{Due, same_slot}
use Rattle.owned_core.proofs.Lists.{contains_none, map_some, some_map}
use Rattle.owned_core.proofs.PhaseParts.{start_by_parts}
use Rattle.owned_core.proofs.SameSlots.{and_l, and_r}
use Rattle.sweep_model.specs.Hands.{Hand, object_of}
use Rattle.sweep_model.specs.Holding.{Holds, IsKnown, entry_of, in_standing, mail_of, out_standing}
use Rattle.sweep_model.specs.Settings.{IsSettingOf, due_of, member_of, slot_at}
use Rattle.sweep_model.specs.Wholes.{AsksForRoot, Begins, IsPlaced, IsReady, IsRoot, MayCome, MayGo, Stand}
use Rattle.sweep_model.specs.World.{World, IsWorld, asks}
use Rattle.sweep_model.proofs.Ages.{older_stays, staying_older}
use Rattle.sweep_model.proofs.Apt.{core_collects, holds_well, in_range}
use Rattle.sweep_model.proofs.Beginning.{begun_other, begun_own}
use Rattle.sweep_model.proofs.Names.{asks_collected, field_in, named_once}

-- the part of a sweeper before it begins, and with the slots of its mail
abbrev empty : Part
empty = record { own = []; unswept = []; here = []; made = [] }

abbrev begun_part : World → Hand → Part
begun_part world h = with_news empty (mail_of world h [])

abbrev slot_of : Standing → Slot
slot_of t = t.slot

-- for whom a message is
abbrev IsFor : World → Hand → Message → Type 0
IsFor world h m = recipient_of world.sweepers m ≡ h.number

abbrev IsForOther : World → Hand → Message → Type 0
IsForOther world h m = recipient_of world.sweepers m ≢ h.number

module _ (world : World) (w : Setting) (setting : IsSettingOf world w) where
  -- ---- roots

  abbrev IsOpened : Back → Type 0
  IsOpened b = IsTrue (is_opened w (alone empty) (member_of b))

  abbrev IsDue : Back → ℕ → Type 0
  IsDue b t = IsTrue (is_due w (alone empty) (due_of world b t))

  root_opened : (b : Back) (t : ℕ) → asks world b ≡ Some t → IsRoot world b → IsOpened b
  root_opened (back.Register r) t e root = refl
  root_opened (back.Field i x) t e root =
      let f = field_in world x i t e in
      let old = setting.older x ∙ staying_older world x f.start f.is root in
      or_left (has w.older x) (is_swept (alone empty) x) old
  root_opened (back.Entry line part) t e root = absurd root
  root_opened (back.Wait x) t e root = absurd root
  root_opened back.Nothing t e root = absurd root

  opened_root : (b : Back) (t : ℕ) → asks world b ≡ Some t → IsOpened b → IsRoot world b
  opened_root (back.Register r) t e opened = tt
  opened_root (back.Field i x) t e opened =
      elim (or_cases (has w.older x) (is_swept (alone empty) x) opened) [
        | inl old ↦ older_stays world x (sym (setting.older x) ∙ old)
        | inr swept ↦ absurd (false≢true swept)
      ]
  opened_root (back.Entry line part) t e opened = absurd (none-some t e)
  opened_root (back.Wait x) t e opened = absurd (none-some t e)
  opened_root back.Nothing t e opened = absurd (none-some t e)

  -- a root is due from the start, and nothing else is
  root_due : (b : Back) (t : ℕ) → asks world b ≡ Some t → IsRoot world b → IsDue b t
  root_due b t e root =
      let collected = core_collects world w setting t (asks_collected world b t e) in
      and_from _ _ (and_from _ _ collected (root_opened b t e root)) refl

  due_root : (b : Back) (t : ℕ) → asks world b ≡ Some t → IsDue b t → IsRoot world b
  due_root b t e due = opened_root b t e (and_r _ _ (and_l _ _ due))

  -- ---- what a sweeper begins with

  -- the slot of a root that the sweeper holds, newly begun
  record IsBegun (h : Hand) (t : Standing) : Type 0 where
    where_to : Back
    target : ℕ
    wants : asks world where_to ≡ Some target
    root : IsRoot world where_to
    holder : holder_of world.sweepers where_to ≡ h.number
    is : begun w (slot_at world where_to Keep target) ≡ t

  root_begun : (h : Hand) (m : Message) (t : Standing) (a : AsksForRoot world h m)
      → begun w (slot_at world a.where_to Keep a.target) ≡ t → IsBegun h t
  root_begun h m t a is = record {
    where_to = a.where_to;
    target = a.target;
    wants = a.wants;
    root = a.root;
    holder = a.holder;
    is = is;
  }

  -- each slot of its mail is one
  mail_begun : (h : Hand) → Begins world h → (t : Standing) → Contains (mail_of world h []) t → IsBegun h t
  mail_begun h begins t c =
      let ins = map (in_standing world) h.inbox in
      let outs = map (out_standing world) h.outbox in
      elim (Contains-append_cases ins outs t c) [
        | inl e ↦
            let m = map_some (in_standing world) h.inbox t e in
            let r = begins.comes m.0 m.1 in
            let mine : owner world.sweepers r.0.target ≡ h.number = subst (IsFor world h) r.0.is r.1 in
            root_begun h m.0 t r.0 (begun_own world w r.0.where_to r.0.target setting (mine ∙ sym r.0.holder)
            ∙ ap (in_standing world) (sym r.0.is) ∙ m.2)
        | inr e ↦
            let m = map_some (out_standing world) h.outbox t e in
            let r = begins.goes m.0 m.1 in
            let other : owner world.sweepers r.0.target ≢ h.number = subst (IsForOther world h) r.0.is r.1 in
            root_begun h m.0 t r.0 (begun_other world w r.0.where_to r.0.target setting (λ same. other (same ∙ r.0.holder))
            ∙ ap (out_standing world) (sym r.0.is) ∙ m.2)
      ]

  -- and each root that it holds has its slot there
  root_there : (h : Hand) → Begins world h → (b : Back) (t : ℕ) → asks world b ≡ Some t → IsRoot world b
      → holder_of world.sweepers b ≡ h.number
      → Contains (map slot_of (mail_of world h [])) (slot_at world b Keep t)
  root_there h begins b t e root held =
      let m : Message = message.Forward t b in
      let ins = map (in_standing world) h.inbox in
      let outs = map (out_standing world) h.outbox in
      elim (Contains-append_cases h.inbox h.outbox m (begins.all b t e root held)) [
        | inl c ↦
            let there = some_map (in_standing world) h.inbox m c in
            some_map slot_of (ins ++ outs) (in_standing world m)
            (Contains-append_left ins outs (in_standing world m) there)
        | inr c ↦
            let there = some_map (out_standing world) h.outbox m c in
            some_map slot_of (ins ++ outs) (out_standing world m)
            (Contains-append_right ins outs (out_standing world m) there)
      ]

  -- so its mail has exactly the slots that it is to make
  makes_fresh : (h : Hand) → Begins world h → MakesFresh w h.number w.dues empty (mail_of world h [])
  makes_fresh h begins = record {
    sound = λ t c.
        let b = mail_begun h begins t c in
        let due = root_due b.where_to b.target b.wants b.root in
        (due_of world b.where_to b.target, setting.to b.where_to b.target b.wants, b.is, b.holder, due);
    new = λ t c d past is. absurd (contains_none d (subst (λ l. Contains l d) setting.past past));
    complete = λ d c held due.
        let f = setting.from d c in
        let root = due_root f.0 f.1 f.2 (subst (λ z. IsTrue (is_due w (alone empty) z)) f.3 due) in
        let holder = ap (λ (z : Due). z.slot.holder) (sym f.3) ∙ held in
        subst (λ (z : Due). Contains (map slot_of (mail_of world h [])) z.slot) (sym f.3)
        (root_there h begins f.0 f.1 f.2 root holder);
  }

  -- ---- what it stands for

  -- the object of a root has its place: an older one stays
  root_placed : (h : Hand) (b : Back) → IsRoot world b → IsPlaced world h b
  root_placed h (back.Register r) root = tt
  root_placed h (back.Field i x) root = (x, inl (root, refl))
  root_placed h (back.Entry line part) root = tt
  root_placed h (back.Wait x) root = tt
  root_placed h back.Nothing root = tt

  begun_ready : (h : Hand) → Begins world h → IsReady world h
  begun_ready h begins = record {
    number_in = begins.number_in;
    tied = begins.tied;
    comes = λ m c.
        let r = begins.comes m c in
        subst (MayCome world h) (sym r.0.is)
        (r.0.wants, subst (IsFor world h) r.0.is r.1, λ held. root_placed h r.0.where_to r.0.root);
    goes = λ m c.
        let r = begins.goes m c in
        subst (MayGo world h) (sym r.0.is) (r.0.wants, r.0.holder, subst (IsForOther world h) r.0.is r.1);
  }

  -- no slot stands twice there
  abbrev AreApart : Hand → Type 0
  AreApart h = (t u : Standing) → Contains (mail_of world h []) t → Contains (mail_of world h []) u
      → IsTrue (same_slot t.slot u.slot) → t ≡ u

  begun_holds : (h : Hand) → IsWorld world → Begins world h → AreApart h
      → Holds world w h [] (begun_part world h)
  begun_holds h is begins apart = record {
    own = ap (map (entry_of h.number)) (sym begins.own);
    unswept = ap (map object_of) (sym begins.unswept);
    mail = λ t c. c;
    here = λ t c. inl c;
    once = begins.once;
    apart = apart;
    known = λ t c.
        let b = mail_begun h begins t c in
        let known : IsKnown world (slot_at world b.where_to Keep b.target) =
        record { where_to = b.where_to; wants = b.wants; slot = refl } in
        subst (λ (u : Standing). IsKnown world u.slot) b.is known;
    begun = λ t c x i asked same mine.
        let b = mail_begun h begins t c in
        let names = ap (λ (u : Standing). u.slot.name) b.is ∙ ap (λ (a : Slot). a.name) same in
        let field = back.Field i x in
        let same_back = named_once world is b.where_to field b.target t.slot.target b.wants asked names in
        inl (subst (IsRoot world) same_back b.root);
  }

-- ---- the start

module _ (world : World) (w : Setting) (hands : ℕ → Hand) (is : IsWorld world)
    (setting : IsSettingOf world w)
    (begins : (k : ℕ) → k < world.sweepers → Begins world (hands k) × ((hands k).number ≡ k)) where
  after : AfterChange w world.sweepers (λ k. begun_part world (hands k))
  after = start_by_parts w world.sweepers (λ k. mail_of world (hands k) []) setting.given setting.past
      (holds_well world w setting) (in_range world w setting is.some) (λ k l.
      let b = begins k l in
      let makes = makes_fresh world w setting (hands k) b.0 in
      subst (λ z. MakesFresh w z w.dues empty (mail_of world (hands k) [])) b.1 makes)

  apart : (k : ℕ) → k < world.sweepers → AreApart world w setting (hands k)
  apart k l t u c d same =
      let p = after.are_parts k l in
      after.invariant.slots_once t u (p.here t c).0 (p.here u d).0 same

  pub start_stands : (s : State) × Stand world w hands s
  start_stands =
      let stands : Stand world w hands after.after = record {
        parts = λ k. begun_part world (hands k);
        invariant = after.invariant;
        territory = after.territory;
        held = after.held;
        are_parts = after.are_parts;
        numbers = λ k l. (begins k l).1;
        ready = λ k l. begun_ready world w setting (hands k) (begins k l).0;
        holds = λ k l. begun_holds world w setting (hands k) is (begins k l).0 (apart k l);
      } in
      (after.after, stands)
