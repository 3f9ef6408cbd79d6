-- The arguments of a collection, and what it does to a state.
use Rattle.std.specs.Prelude.{ℕ, zero, suc, ◌+◌, ◌%◌, ◌^◌, min, max, Bool, false, not, ◌&&◌, ◌||◌, ◌==◌, nat_le, nat_lt, List, ◌∷◌, ◌++◌, map, filter, Option, Some, None, if◌then◌else◌}
use Rattle.trace_types.specs.declared.kind.Kind.{Kind}
use Rattle.trace_types.specs.declared.kind.Kind.TheVariants.{Weak, Eph}
use Rattle.trace_types.specs.Values.{Value, bwp, Object, Graph, object_at, is_immobile}
use Rattle.trace_types.specs.States.{State, Registration, Note, gone, set_to, locked, static_generation}
use Rattle.trace_types.specs.Rules.{has}
use Rattle.trace_types.specs.Kept.{is_outside, kept, is_given}

-- the oldest generation that is collected, and the youngest and the oldest that a survivor goes to
pub record Arguments : Type 0 where
  pub cg : ℕ
  pub least : ℕ
  pub greatest : ℕ

-- Whether version and oldest generation allow the arguments. A generation below the oldest goes at most one
-- further, the oldest stays, and in version 2 the oldest may also become static.
abbrev pub are_allowed : ℕ → ℕ → Arguments → Bool
are_allowed version oldest a =
    nat_lt a.cg oldest && nat_le a.cg a.least && nat_le a.least a.greatest && nat_le a.greatest (a.cg + 1)
    || a.cg == oldest && a.least == oldest && a.greatest == oldest
    || version == 2 && a.cg == oldest && a.least == static_generation && a.greatest == static_generation

-- the greatest m at most the limit with 4 ^ m dividing n
abbrev pub greatest_power : ℕ → ℕ → ℕ
greatest_power n zero = 0
greatest_power n (suc m) = if n % 4 ^ suc m == 0 then suc m else greatest_power n m

-- the arguments of the n-th plain `collect`
abbrev pub plain_arguments : ℕ → ℕ → Arguments
plain_arguments oldest n =
    let cg = greatest_power n oldest in
    record { cg = cg; least = min (cg + 1) oldest; greatest = min (cg + 1) oldest }

-- the generation after a collection of what was in this one
abbrev pub target : Arguments → ℕ → ℕ
target a generation = if nat_le generation a.cg then min (max (generation + 1) a.least) a.greatest else generation

-- ---- what a collection leaves

-- a value breaks where it is an object that is not kept
abbrev pub unless_outside : List ℕ → Value → Value
unless_outside set v = if is_outside set v then bwp else v

-- a weak pair loses a car, and an ephemeron a key with its value, that is not kept
abbrev pub fields_left : List ℕ → Kind → List Value → List Value
fields_left set Weak (car ∷ rest) = unless_outside set car ∷ rest
fields_left set Eph (key ∷ value ∷ rest) =
    if is_outside set key then bwp ∷ bwp ∷ rest else key ∷ value ∷ rest
fields_left set _ fields = fields

-- the representatives that the guardian gets, in the order of the lines, each with its line
abbrev pub queued_for : State → ℕ → ℕ → List (Value × ℕ)
queued_for s cg guardian =
    map (λ r. (r.representative, r.line)) (filter (λ r. is_given s cg r && (guardian == r.guardian)) s.registrations)

-- what is left of a kept object: its target generation, its fields, and a queue with what the guardian is given
abbrev pub object_left : State → Arguments → ℕ → Object → Object
object_left s a birth o = record o {
  generation = target a o.generation;
  fields = fields_left (kept s a.cg) o.kind o.fields;
  queue = o.queue ++ queued_for s a.cg birth;
}

-- the kept objects
abbrev pub graph_left : State → Arguments → Graph
graph_left s a =
    map (λ entry. (entry.0, object_left s a entry.0 entry.1)) (filter (λ entry. has (kept s a.cg) entry.0) s.graph)

-- the registrations of kept guardians, but for those that were given
abbrev pub registrations_left : State → ℕ → List Registration
registrations_left s cg = filter (λ r. has (kept s cg) r.guardian && not (is_given s cg r)) s.registrations

-- whether the object keeps its place
abbrev pub is_fixed : State → ℕ → Object → Bool
is_fixed s birth o = is_immobile o.kind || has (locked s) birth

-- whether a note of the object goes: an object of an older generation isn't collected, and stays where it is
abbrev pub is_note_gone : State → ℕ → ℕ → Option Object → Bool
is_note_gone s cg birth None = false
is_note_gone s cg birth (Some o) = nat_le o.generation cg && (not (has (kept s cg) birth) || not (is_fixed s birth o))

-- a note is gone where its object was collected, and went or had no fixed place
abbrev pub note_left : State → ℕ → Note → Note
note_left s cg (set_to birth) = if is_note_gone s cg birth (object_at s.graph birth) then gone else set_to birth
note_left s cg note = note

-- the state after a collection with these arguments; nothing else changes
unfoldable pub collect : State → Arguments → State
collect s a = record s {
  graph = graph_left s a;
  notes = map (note_left s a.cg) s.notes;
  registrations = registrations_left s a.cg;
}
