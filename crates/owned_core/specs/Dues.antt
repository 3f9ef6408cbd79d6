-- The slots of each phase of a collection, as a list of dues, from the state and the number of sweepers.
use Rattle.std.specs.Prelude.{ℕ, ◌+◌, ◌*◌, ◌%◌, Bool, true, false, not, ◌&&◌, ◌==◌, List, [], ◌∷◌, ◌++◌, map, filter, flat_map, Option, Some, None, if◌then◌else◌}
use Rattle.trace_types.specs.declared.kind.Kind.{Kind}
use Rattle.trace_types.specs.declared.kind.Kind.TheVariants.{Weak}
use Rattle.trace_types.specs.Values.{Value, objects_in, Object, object_at, is_ephemeron, strong_references}
use Rattle.trace_types.specs.States.{State, Registration, locked}
use Rattle.trace_types.specs.Values.{key_of, value_of}
use Rattle.trace_types.specs.Kept.{older, is_dead, is_unordered, is_ordered, is_candidate, ready}
use Rattle.owned_core.specs.Settings.{Setting}
use Rattle.owned_core.specs.Slots.{Due, Keep, Slot, Watch}

-- ---- slots by name

abbrev pub register_name : ℕ → ℕ
register_name r = 4 * r

abbrev pub field_name : ℕ → ℕ → ℕ
field_name x i = 4 * (x * 2097152 + i) + 1

abbrev pub entry_name : ℕ → ℕ → ℕ
entry_name line part = 4 * (4 * line + part) + 2

abbrev pub wait_name : ℕ → ℕ
wait_name x = 4 * x + 7

abbrev pub no_name : ℕ
no_name = 3

abbrev pub keep_at : ℕ → ℕ → ℕ → Slot
keep_at name holder target = record { name = name; holder = holder; target = target; want = Keep; has_place = true }

abbrev pub keep_nowhere : ℕ → ℕ → Slot
keep_nowhere holder target = record { name = no_name; holder = holder; target = target; want = Keep; has_place = false }

abbrev pub watch_at : ℕ → ℕ → ℕ → Slot
watch_at name holder target = record { name = name; holder = holder; target = target; want = Watch; has_place = true }

abbrev pub always : Slot → Due
always a = record { slot = a; member = None; watched = [] }

abbrev pub of_member : ℕ → Slot → Due
of_member x a = record { slot = a; member = Some x; watched = [] }

-- ---- the image of an object

-- the sweeper of an object
abbrev pub creator_of : Option Object → ℕ
creator_of None = 0
creator_of (Some o) = o.creator

abbrev pub owner_in : State → ℕ → ℕ → ℕ
owner_in s n x = creator_of (object_at s.graph x) % n

abbrev pub is_weak : Kind → Bool
is_weak Weak = true
is_weak _ = false

abbrev pub strong_dues : ℕ → ℕ → ℕ → List ℕ → List Due
strong_dues k x i [] = []
strong_dues k x i (y ∷ ys) = of_member x (keep_at (field_name x i) k y) ∷ strong_dues k x (i + 1) ys

-- the slot that watches the car of a weak pair or the key of an ephemeron, where that is an object
abbrev pub key_slots : ℕ → ℕ → Object → List Slot
key_slots k x o = map (watch_at (field_name x 0) k) (objects_in (key_of o ∷ []))

abbrev pub weak_dues : ℕ → ℕ → Object → List Due
weak_dues k x o = if is_weak o.kind then map (of_member x) (key_slots k x o) else []

abbrev pub ephemeron_dues : ℕ → ℕ → Object → List Due
ephemeron_dues k x o =
    if is_ephemeron o.kind
    then map (of_member x) (key_slots k x o)
    ++ map (λ v. record { slot = keep_at (field_name x 1) k v; member = Some x; watched = key_slots k x o }) (objects_in (value_of o ∷ []))
    else []

abbrev pub object_dues : ℕ → ℕ → Object → List Due
object_dues k x o = strong_dues k x 0 (strong_references o) ++ (weak_dues k x o ++ ephemeron_dues k x o)

-- ---- registrations, registers and locks

abbrev pub guardian_slot : ℕ → Registration → Slot
guardian_slot n r = watch_at (entry_name r.line 0) (r.line % n) r.guardian

abbrev pub entry_slots : ℕ → Registration → List Slot
entry_slots n r = guardian_slot n r ∷ map (watch_at (entry_name r.line 1) (r.line % n)) (objects_in (r.object ∷ []))

-- the representative, where the slots are met
abbrev pub representative_dues : ℕ → Registration → List Slot → List Due
representative_dues n r watched = map (λ v. record { slot = keep_at (entry_name r.line 2) (r.line % n) v; member = None; watched = watched }) (objects_in (r.representative ∷ []))

abbrev pub registration_dues : ℕ → Registration → List Due
registration_dues n r = map always (entry_slots n r) ++ representative_dues n r (entry_slots n r)

abbrev pub register_dues : ℕ → ℕ → List Value → List Due
register_dues n i [] = []
register_dues n i (v ∷ vs) = map (λ x. always (keep_at (register_name i) (i % n) x)) (objects_in (v ∷ [])) ++ register_dues n (i + 1) vs

abbrev pub lock_dues : State → ℕ → List Due
lock_dues s n = map (λ x. always (keep_nowhere (owner_in s n x) x)) (locked s)

-- ---- the phases

abbrev pub base_dues : State → ℕ → List Due
base_dues s n =
    register_dues n 0 s.registers ++ (lock_dues s n
    ++ (flat_map (λ entry. object_dues (owner_in s n entry.0) entry.0 entry.1) s.graph ++ flat_map (registration_dues n) s.registrations))

abbrev pub served_dues : State → ℕ → ℕ → List Due
served_dues s cg n =
    flat_map (λ r. representative_dues n r (guardian_slot n r ∷ [])) (filter (λ r. is_dead s cg r && is_unordered s r) s.registrations)

-- the rules of a candidate's object with the object struck from the premises: where it is its own key, nothing is watched
abbrev pub wait_slots : ℕ → ℕ → Object → List Slot
wait_slots k x o = filter (λ a. not (x == a.target)) (map (watch_at (wait_name x) k) (objects_in (key_of o ∷ [])))

abbrev pub as_though_object : ℕ → ℕ → Object → List Due
as_though_object k x o =
    map (λ y. always (keep_nowhere k y)) (strong_references o)
    ++ (if is_ephemeron o.kind
    then map always (wait_slots k x o) ++ map (λ v. record { slot = keep_nowhere k v; member = None; watched = wait_slots k x o }) (objects_in (value_of o ∷ []))
    else [])

abbrev pub as_though_dues : State → ℕ → ℕ → List Due
as_though_dues s cg n =
    flat_map (λ r. flat_map (λ x. flat_map (λ entry. if x == entry.0 then as_though_object (owner_in s n x) x entry.1 else []) s.graph) (objects_in (r.object ∷ [])))
    (filter (is_candidate s cg) s.registrations)

abbrev pub ready_dues : State → ℕ → ℕ → List Due
ready_dues s cg n = flat_map (λ r. representative_dues n r []) (ready s cg)

abbrev pub unready_dues : State → ℕ → ℕ → List Due
unready_dues s cg n =
    flat_map (λ r. map (λ x. record { slot = keep_nowhere (r.line % n) x; member = None; watched = guardian_slot n r ∷ [] }) (objects_in (r.object ∷ [])))
    (filter (λ r. is_dead s cg r && is_ordered s r && not (is_candidate s cg r)) s.registrations)

-- what the first phase is given, with these dues; the rest is of the places
abbrev pub setting : Setting → State → ℕ → ℕ → List Due → Setting
setting places s cg n dues =
    record places { older = older s cg; owner = owner_in s n; dues = dues; past = []; given = [] }
