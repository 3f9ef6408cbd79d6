-- The messages of all outboxes, what they stand for before and after they are delivered, and how often.
use Rattle.std.proofs.Common.{◌≡◌, ℕ, zero, suc, ◌+◌, ◌<◌, ◌≤◌, Bool, true, false, cond, List, [], ◌∷◌, map, filter, length, get_or, Contains, refl, ◌∙◌, ap, arith, inl, inr}
use Rattle.std.proofs.lemmas.Bool.{cases_lt}
use Rattle.std.proofs.lemmas.List.{map-append}
use Rattle.std.proofs.lemmas.List.Elements.{Contains-append_cases, Contains-append_left, Contains-append_right}
use Rattle.gc_mail.specs.declared.message.Message.{Message}
use Rattle.gc_mail.specs.declared.message.Message.TheVariants as message
use Rattle.gc_mail.specs.Recipients.{all_of, recipient_of}
use Rattle.owned_core.specs.declared.slot.Slot.{Slot}
use Rattle.owned_core.specs.Parts.{lies_at}
use Rattle.owned_core.specs.Rounds.{deliver}
use Rattle.owned_core.specs.Settings.{Setting}
use Rattle.owned_core.specs.Slots.{same_slot}
use Rattle.owned_core.proofs.Lists.{contains_none}
use Rattle.sweep_model.specs.World.{World}
use Rattle.sweep_model.specs.Settings.{IsSettingOf}
use Rattle.sweep_model.specs.Holding.{count_of, in_standing, one_if, out_standing}
use Rattle.sweep_model.proofs.Counting.{count_append}

-- ---- a message before and after

-- what goes becomes what came
pub delivered_is : (world : World) (m : Message) → deliver (out_standing world m) ≡ in_standing world m
delivered_is world (message.Forward t b) = refl
delivered_is world (message.Watch t b) = refl
delivered_is world (message.Moved b q) = refl

-- a message that came lies where it was to go
pub lies_for : (world : World) (w : Setting) → IsSettingOf world w → (m : Message)
    → lies_at w (in_standing world m) ≡ recipient_of world.sweepers m
lies_for world w setting (message.Forward t b) = setting.owner t
lies_for world w setting (message.Watch t b) = setting.owner t
lies_for world w setting (message.Moved b q) = refl

-- it is of the same slot
pub same_slots : (world : World) (m : Message) → (in_standing world m).slot ≡ (out_standing world m).slot
same_slots world (message.Forward t b) = refl
same_slots world (message.Watch t b) = refl
same_slots world (message.Moved b q) = refl

-- ---- all messages

-- a message of all comes from one outbox
pub from_one : (sent : List (List Message)) (m : Message) → Contains (all_of sent) m
    → (i : ℕ) × (i < length sent) × Contains (get_or sent i []) m
from_one [] m c = absurd (contains_none m c)
from_one (o ∷ sent) m c = elim (Contains-append_cases o (all_of sent) m c) [
  | inl e ↦ (0, omega arith, e)
  | inr e ↦ let r = from_one sent m e in (suc r.0, omega (arith, r.1), r.2)
]

-- a message of an outbox is one of all
pub to_all : (sent : List (List Message)) (i : ℕ) (m : Message) → i < length sent
    → Contains (get_or sent i []) m → Contains (all_of sent) m
to_all [] i m b c = absurd (omega (arith, b))
to_all (o ∷ sent) zero m b c = Contains-append_left o (all_of sent) m c
to_all (o ∷ sent) (suc i) m b c =
    Contains-append_right o (all_of sent) m (to_all sent i m (omega (arith, b)) c)

-- ---- counting

-- how often the slot stands in these messages, where they go and where they came
abbrev pub sent_count : World → Slot → List Message → ℕ
sent_count world a ms = count_of a (map (out_standing world) ms)

abbrev pub came_count : World → Slot → List Message → ℕ
came_count world a ms = count_of a (map (in_standing world) ms)

-- those that are for somebody are no more than all
pub count_filter : (world : World) (a : Slot) (p : Message → Bool) (ms : List Message)
    → came_count world a (filter p ms) ≤ sent_count world a ms
count_filter world a p [] = omega arith
count_filter world a p (m ∷ ms) =
    let r : came_count world a (filter p ms) ≤ sent_count world a ms = count_filter world a p ms in
    let e : one_if (same_slot (in_standing world m).slot a)
    ≡ one_if (same_slot (out_standing world m).slot a) =
    ap (λ z. one_if (same_slot z a)) (same_slots world m) in
    at (p m) r e
  where
    at : (b : Bool) → came_count world a (filter p ms) ≤ sent_count world a ms
        → one_if (same_slot (in_standing world m).slot a) ≡ one_if (same_slot (out_standing world m).slot a)
        → came_count world a (cond b (m ∷ filter p ms) (filter p ms))
        ≤ one_if (same_slot (out_standing world m).slot a) + sent_count world a ms
    at true r e = omega (arith, r, e)
    at false r e = omega (arith, r)

-- how often the slot stands in outbox i, and in all
abbrev pub count_at : World → Slot → List (List Message) → ℕ → ℕ
count_at world a sent i = sent_count world a (get_or sent i [])

abbrev pub count_all : World → Slot → List (List Message) → ℕ
count_all world a sent = sent_count world a (all_of sent)

-- the slot stands in one outbox at most
abbrev pub IsOfOne : World → Slot → List (List Message) → Type 0
IsOfOne world a sent =
    (i j : ℕ) → i < length sent → j < length sent
    → 1 ≤ count_at world a sent i → 1 ≤ count_at world a sent j → i ≡ j

count_next : (world : World) (a : Slot) (o : List Message) (sent : List (List Message))
    → count_all world a (o ∷ sent) ≡ sent_count world a o + count_all world a sent
count_next world a o sent =
    ap (count_of a) (map-append (out_standing world) o (all_of sent))
    ∙ count_append a (map (out_standing world) o) (map (out_standing world) (all_of sent))

-- what stands in all stands in some outbox
count_in : (world : World) (a : Slot) (sent : List (List Message)) → 0 < count_all world a sent
    → (i : ℕ) × (i < length sent) × (1 ≤ count_at world a sent i)
count_in world a [] h = absurd (omega (arith, h))
count_in world a (o ∷ sent) h =
    let s : count_all world a (o ∷ sent) ≡ sent_count world a o + count_all world a sent =
    count_next world a o sent in
    elim (cases_lt 0 (sent_count world a o)) [
      | inl more ↦ (0, omega arith, more)
      | inr none ↦
          let r = count_in world a sent (omega (arith, s, none, h)) in
          (suc r.0, omega (arith, r.1), r.2)
    ]

-- what stands once in each, and in one of them at most, stands once in all
pub count_once : (world : World) (a : Slot) (sent : List (List Message))
    → ((i : ℕ) → i < length sent → count_at world a sent i ≤ 1) → IsOfOne world a sent
    → count_all world a sent ≤ 1
count_once world a [] f g = omega arith
count_once world a (o ∷ sent) f g =
    let s : count_all world a (o ∷ sent) ≡ sent_count world a o + count_all world a sent =
    count_next world a o sent in
    let one : sent_count world a o ≤ 1 = f 0 (omega arith) in
    let rest : count_all world a sent ≤ 1 = count_once world a sent (λ i b. f (suc i) (omega (arith, b)))
    (λ i j b c d e.
    let r : suc i ≡ suc j = g (suc i) (suc j) (omega (arith, b)) (omega (arith, c)) d e in
    omega (arith, r)) in
    elim (cases_lt 0 (count_all world a sent)) [
      | inr none ↦ omega (arith, s, one, none)
      | inl some ↦
          let r = count_in world a sent some in
          let z : sent_count world a o ≡ 0 = elim (cases_lt 0 (sent_count world a o)) [
            | inr none ↦ omega (arith, none)
            | inl more ↦
                let e : 0 ≡ suc r.0 = g 0 (suc r.0) (omega arith) (omega (arith, r.1)) more r.2 in
                absurd (omega (arith, e))
          ] in
          omega (arith, s, z, rest)
    ]
