-- Slots that are alike.
use Rattle.std.proofs.Common.{◌≡◌, Bool, true, false, ◌&&◌, ◌==◌, IsTrue, refl, sym, ap, ◌∙◌}
use Rattle.std.proofs.lemmas.Bool.{and_parts, and_from, eqb-true, eq-eqb, false≢true}
use Rattle.owned_core.specs.Slots.{Keep, Slot, Want, Watch, is_keep, same_bool, same_slot, same_want}

-- ---- the same slot

same_want_itself : (w : Want) → IsTrue (same_want w w)
same_want_itself Keep = refl
same_want_itself Watch = refl

same_bool_itself : (b : Bool) → IsTrue (same_bool b b)
same_bool_itself true = refl
same_bool_itself false = refl

same_want_keep : (v w : Want) → IsTrue (same_want v w) → is_keep v ≡ is_keep w
same_want_keep Keep Keep h = refl
same_want_keep Keep Watch h = absurd (false≢true h)
same_want_keep Watch Keep h = absurd (false≢true h)
same_want_keep Watch Watch h = refl

pub same_slot_itself : (a : Slot) → IsTrue (same_slot a a)
same_slot_itself a = and_from _ _ (and_from _ _ (and_from _ _ (and_from _ _ (eq-eqb a.target a.target refl) (same_want_itself a.want)) (eq-eqb a.name a.name refl)) (eq-eqb a.holder a.holder refl)) (same_bool_itself a.has_place)

pub and_l : (x y : Bool) → IsTrue (x && y) → IsTrue x
and_l x y h = (and_parts x y h).0

pub and_r : (x y : Bool) → IsTrue (x && y) → IsTrue y
and_r x y h = (and_parts x y h).1

pub same_slot_target : (a b : Slot) → IsTrue (same_slot a b) → a.target ≡ b.target
same_slot_target a b h = eqb-true a.target b.target (and_l _ _ (and_l _ _ (and_l _ _ (and_l _ _ h))))

pub same_slot_keep : (a b : Slot) → IsTrue (same_slot a b) → is_keep a.want ≡ is_keep b.want
same_slot_keep a b h = same_want_keep a.want b.want (and_r _ _ (and_l _ _ (and_l _ _ (and_l _ _ h))))

pub same_slot_name : (a b : Slot) → IsTrue (same_slot a b) → a.name ≡ b.name
same_slot_name a b h = eqb-true a.name b.name (search (and_l, and_r))

pub same_slot_holder : (a b : Slot) → IsTrue (same_slot a b) → a.holder ≡ b.holder
same_slot_holder a b h = eqb-true a.holder b.holder (search (and_l, and_r))

-- ---- slots that are alike are equal

want_is : (v w : Want) → IsTrue (same_want v w) → v ≡ w
want_is Keep Keep h = refl
want_is Keep Watch h = absurd (false≢true h)
want_is Watch Keep h = absurd (false≢true h)
want_is Watch Watch h = refl

bool_is : (a b : Bool) → IsTrue (same_bool a b) → a ≡ b
bool_is true b h = sym h
bool_is false true h = absurd (false≢true h)
bool_is false false h = refl

pub slot_is : (a b : Slot) → IsTrue (same_slot a b) → a ≡ b
slot_is a b h =
    let name : IsTrue (a.name == b.name) = search (and_l, and_r) in
    let holder : IsTrue (a.holder == b.holder) = search (and_l, and_r) in
    let target : IsTrue (a.target == b.target) = search (and_l, and_r) in
    let want : IsTrue (same_want a.want b.want) = search (and_l, and_r) in
    let has_place : IsTrue (same_bool a.has_place b.has_place) = search (and_l, and_r) in
    ap {B = Slot} (λ z. record { name = z; holder = a.holder; target = a.target; want = a.want; has_place = a.has_place }) (eqb-true a.name b.name name)
    ∙ ap {B = Slot} (λ z. record { name = b.name; holder = z; target = a.target; want = a.want; has_place = a.has_place }) (eqb-true a.holder b.holder holder)
    ∙ ap {B = Slot} (λ z. record { name = b.name; holder = b.holder; target = z; want = a.want; has_place = a.has_place }) (eqb-true a.target b.target target)
    ∙ ap {B = Slot} (λ z. record { name = b.name; holder = b.holder; target = b.target; want = z; has_place = a.has_place }) (want_is a.want b.want want)
    ∙ ap {B = Slot} (λ z. record { name = b.name; holder = b.holder; target = b.target; want = b.want; has_place = z }) (bool_is a.has_place b.has_place has_place)
