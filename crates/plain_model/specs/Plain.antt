-- What the plain values and notes of the program mean.
use Rattle.std.specs.Prelude.{◌≡◌, ℕ, suc, ◌<◌, Bool, false, All, IsTrue, nat_lt, List, [], ◌∷◌, length, slice_index_or, Some, if◌then◌else◌}
use Rattle.std.specs.FinMap.{find}
use Rattle.std.specs.Ordering.{nat_cmp}
use Rattle.trace_types.specs.Rules.{Rule, has, has_premises, MeetsAll, ◌⊆◌}
use Rattle.trace_types.specs.Values as values
use Rattle.trace_types.specs.States as states
use Rattle.plain_model.specs.declared.value.Value.{Value}
use Rattle.plain_model.specs.declared.value.Value.TheVariants.{Fixnum, Nil, True, False, Bwp, Object}
use Rattle.plain_model.specs.declared.note.Note.{Note}
use Rattle.plain_model.specs.declared.note.Note.TheVariants.{Empty, SetTo, Gone}

-- the value of the definitions
abbrev pub meaning : Value → values.Value
meaning (Fixnum n) = values.fixnum n
meaning Nil = values.nil
meaning True = values.true_value
meaning False = values.false_value
meaning Bwp = values.bwp
meaning (Object birth) = values.object birth

-- an entry of a guardian's queue
abbrev pub queued : Value × ℕ → values.Value × ℕ
queued entry = (meaning entry.0, entry.1)

-- the note of the definitions
abbrev pub note_meaning : Note → states.Note
note_meaning Empty = states.empty
note_meaning (SetTo birth) = states.set_to birth
note_meaning Gone = states.gone

module _ {X : Type 0} where
  -- in an ascending list, how many entries are of a lesser birth
  abbrev pub place : ℕ → List (ℕ × X) → ℕ
  place birth [] = 0
  place birth (entry ∷ rest) = if nat_lt entry.0 birth then suc (place birth rest) else 0

  -- the entry of the birth is the one at this index
  abbrev pub HasEntry : List (ℕ × X) → ℕ → ℕ → Type 0
  HasEntry entries i birth =
      (i < length entries)
      × ((e : ℕ × X) → (slice_index_or entries i e).0 ≡ birth)
      × ((e : ℕ × X) → find nat_cmp birth entries ≡ Some (slice_index_or entries i e).1)

-- the two sets have the same members
abbrev pub Alike : List ℕ → List ℕ → Type 0
Alike s t = (x : ℕ) → has s x ≡ has t x

-- What a set became by going over some of all rules: it grew, it has what these rules conclude from what was there
-- before, it is in each set that meets all rules and had what was there before, and where nothing was added it is
-- the same.
pub record IsRound (old new : List ℕ) (added : Bool) (some all : List Rule) : Type 0 where
  pub grows : old ⊆ new
  pub concludes : All (λ r. IsTrue (has_premises old r) → IsTrue (has new r.conclusion)) some
  pub below_each : (other : List ℕ) → MeetsAll other all → old ⊆ other → new ⊆ other
  pub same : added ≡ false → new ≡ old
