-- Slots: what a sweeper asks the owner of an object for, and how far each request is.
use Rattle.std.specs.Prelude.{ℕ, Bool, true, false, not, ◌&&◌, ◌==◌, Option, None, Some, List, [], ◌∷◌}
-- A slot has a name, a holder, a target, a want and whether there is a word for its place. It wants its target to be
-- kept, or watches it. It is Asked, Heard, Answered, Told or Fixed, from then on with the place.
pub use Rattle.owned_core.specs.declared.slot.Want.{Want}
pub use Rattle.owned_core.specs.declared.slot.Want.TheVariants.{Keep, Watch}
pub use Rattle.owned_core.specs.declared.slot.Stage.{Stage}
pub use Rattle.owned_core.specs.declared.slot.Stage.TheVariants.{Asked, Heard, Answered, Told, Fixed}
pub use Rattle.owned_core.specs.declared.slot.Slot.{Slot}
pub use Rattle.owned_core.specs.declared.slot.Standing.{Standing}

-- A slot that is due where the member is older or swept, or there is none, and each watched premise is met.
-- `watched` has the Watch slots of these premises: one is met where its target is older or it is Fixed.
pub record Due : Type 0 where
  pub slot : Slot
  pub member : Option ℕ
  pub watched : List Slot

-- ---- tests

abbrev pub is_keep : Want → Bool
is_keep Keep = true
is_keep Watch = false

abbrev pub keeps : Due → Bool
keeps d = is_keep d.slot.want

abbrev pub same_want : Want → Want → Bool
same_want Keep w = is_keep w
same_want Watch w = not (is_keep w)

abbrev pub same_bool : Bool → Bool → Bool
same_bool true b = b
same_bool false b = not b

abbrev pub same_slot : Slot → Slot → Bool
same_slot a b =
    a.target == b.target && same_want a.want b.want && a.name == b.name && a.holder == b.holder
    && same_bool a.has_place b.has_place

abbrev pub is_asked : Stage → Bool
is_asked Asked = true
is_asked _ = false

abbrev pub is_heard : Stage → Bool
is_heard Heard = true
is_heard _ = false

abbrev pub is_fixed : Stage → Bool
is_fixed (Fixed p) = true
is_fixed _ = false

-- whether a slot can begin so
abbrev pub is_new : Stage → Bool
is_new Asked = true
is_new Heard = true
is_new _ = false

-- whether this place was found for the slot
abbrev pub is_at : Stage → ℕ → Bool
is_at (Answered q) p = p == q
is_at (Told q) p = p == q
is_at (Fixed q) p = p == q
is_at _ p = false

abbrev pub is_told_at : Stage → ℕ → Bool
is_told_at (Told q) p = p == q
is_told_at _ p = false

-- the member, where there is one
abbrev pub member_list : Option ℕ → List ℕ
member_list None = []
member_list (Some x) = x ∷ []
