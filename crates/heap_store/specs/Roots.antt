-- What a heap keeps beside its objects: registers, locks, notes and registrations, and how they read.
use Rattle.std.specs.Prelude.{◌≡◌, ℕ, ◌<◌, min, nat_lt, List, [], ◌∷◌, map, length, flat_map, slice_index_or, IsTrue, IsSome, Option, Some, None, if◌then◌else◌}
use Rattle.std.specs.List.{AllByRecursion}
use Rattle.std.specs.FinMap.{find}
use Rattle.std.specs.Ordering.{nat_cmp}
use Rattle.gc_words.specs.declared.value.Value.{Value}
use Rattle.gc_words.specs.declared.value.Value.TheVariants as word
use Rattle.gc_words.specs.declared.registration.Registration.{Registration}
use Rattle.trace_types.specs.Values as values
use Rattle.trace_types.specs.States as states
use Rattle.segment.specs.Segments.{Start}
use Rattle.heap_store.specs.declared.notes.Noted.{Noted}
use Rattle.heap_store.specs.declared.notes.Noted.TheVariants as note
use Rattle.heap_store.specs.Starts.{Starts, read, birth_of, is_object, IsThere}

-- ---- registers

pub record RegistersStand (f : Starts) (registers : List Value) (held : List values.Value) : Type 0 where
  pub there : AllByRecursion (IsThere f) registers
  pub reads : held ≡ map (read f) registers

-- ---- locks

-- an object is locked as often as its place is, and nothing else is locked
pub record LocksStand (f : Starts) (counts locks : List (ℕ × ℕ)) : Type 0 where
  pub there : (a : ℕ) → IsSome (find nat_cmp a counts) → IsTrue (is_object (f a))
  pub same : (a : ℕ) → IsTrue (is_object (f a)) → find nat_cmp (birth_of (f a)) locks ≡ find nat_cmp a counts

-- ---- notes

abbrev pub read_note : Starts → Noted → states.Note
read_note f note.Empty = states.empty
read_note f (note.Set a) = states.set_to (birth_of (f a))
read_note f note.Gone = states.gone

abbrev pub IsNoteThere : Starts → Noted → Type 0
IsNoteThere f (note.Set a) = IsTrue (is_object (f a))
IsNoteThere f _ = Unit {0}

pub record NotesStand (f : Starts) (notes : List Noted) (noted : List states.Note) : Type 0 where
  pub there : AllByRecursion (IsNoteThere f) notes
  pub reads : noted ≡ map (read_note f) notes

-- ---- registrations

abbrev pub read_registration : Starts → Registration → states.Registration
read_registration f r = record {
  line = r.line;
  guardian = birth_of (f r.guardian);
  object = read f r.object;
  representative = read f r.representative;
}

-- what a registration names is there
pub record IsRegistrationThere (f : Starts) (r : Registration) : Type 0 where
  pub guardian : IsTrue (is_object (f r.guardian))
  pub object : IsThere f r.object
  pub representative : IsThere f r.representative

-- the registrations in ascending order of their lines
abbrev pub put_by_line : states.Registration → List states.Registration → List states.Registration
put_by_line r [] = r ∷ []
put_by_line r (x ∷ xs) = if nat_lt r.line x.line then r ∷ x ∷ xs else x ∷ put_by_line r xs

abbrev pub by_line : List states.Registration → List states.Registration
by_line [] = []
by_line (r ∷ rs) = put_by_line r (by_line rs)

abbrev pub generation_of : Option Start → ℕ
generation_of None = 8
generation_of (Some x) = x.generation

-- the generation of the object that the value is; no generation is above that of an immediate
abbrev pub generation_of_value : Starts → Value → ℕ
generation_of_value f (word.Object a) = generation_of (f a)
generation_of_value f _ = 8

-- the level of a registration: the least generation of the objects that it names
abbrev pub level_of : Starts → Registration → ℕ
level_of f r =
    min (generation_of (f r.guardian))
    (min (generation_of_value f r.object) (generation_of_value f r.representative))

-- each list of the registry has the registrations of its level, and all of them are the state's
pub record RegistryStands (f : Starts) (registry : List (List Registration))
    (registrations : List states.Registration) : Type 0 where
  pub there : AllByRecursion (AllByRecursion (IsRegistrationThere f)) registry
  pub levels : (level : ℕ) → level < length registry
      → AllByRecursion (λ r. level_of f r ≡ level) (slice_index_or registry level [])
  pub reads : registrations ≡ by_line (map (read_registration f) (flat_map (λ rs. rs) registry))
