-- Which objects a collection keeps, in four sets. A, the accessible objects, is closed from the roots. L adds what
-- unordered guardians save. W adds what the dead objects of ordered guardians would still need. K is what is kept.
use Rattle.std.specs.Prelude.{ℕ, Bool, true, false, not, ◌&&◌, ◌||◌, ◌==◌, List, [], ◌∷◌, ◌++◌, map, filter, flat_map, nat_lt, Option, Some, None, if◌then◌else◌}
use Rattle.trace_types.specs.declared.kind.Kind.{Kind}
use Rattle.trace_types.specs.declared.kind.Kind.TheVariants.{Guard, OrderedGuard}
use Rattle.trace_types.specs.Values.{Value, object, objects_in, Object, object_at, is_ephemeron, key_of, value_of, strong_values}
use Rattle.trace_types.specs.States.{State, Registration, locked}
use Rattle.trace_types.specs.Rules.{Rule, has, least, facts}

-- ---- the rules of a state

-- from the premises, the value, where it is an object
abbrev pub rules_to : Value → List ℕ → List Rule
rules_to value premises = map (λ x. record { premises = premises; conclusion = x }) (objects_in (value ∷ []))

-- from an object, each value that it holds strongly
abbrev pub strong_rules : ℕ → Object → List Rule
strong_rules x o = flat_map (λ v. rules_to v (x ∷ [])) (strong_values o)

-- from an ephemeron, and its key where that is an object, its value
abbrev pub ephemeron_rules : ℕ → Object → List Rule
ephemeron_rules x o =
    if is_ephemeron o.kind then rules_to (value_of o) (x ∷ objects_in (key_of o ∷ [])) else []

-- what follows from an object
abbrev pub object_rules : ℕ → Object → List Rule
object_rules x o = strong_rules x o ++ ephemeron_rules x o

-- from a guardian, and the object of its registration where that is one, the representative
abbrev pub registration_rules : Registration → List Rule
registration_rules r = rules_to r.representative (r.guardian ∷ objects_in (r.object ∷ []))

-- what every set of objects must meet to be closed
abbrev pub rules : State → List Rule
rules s = flat_map (λ entry. object_rules entry.0 entry.1) s.graph ++ flat_map registration_rules s.registrations

-- ---- accessible, dead, served

-- objects that are not collected, for they are of a generation above
abbrev pub older : State → ℕ → List ℕ
older s cg = map (λ entry. entry.0) (filter (λ entry. nat_lt cg entry.1.generation) s.graph)

-- what is there without a premise: the objects in registers, the locked and the older ones
abbrev pub roots : State → ℕ → List Rule
roots s cg = facts (objects_in s.registers ++ locked s ++ older s cg)

-- A: the least closed set with the roots
unfoldable pub accessible : State → ℕ → List ℕ
accessible s cg = least (rules s ++ roots s cg)

-- whether the value is an object outside the set
abbrev pub is_outside : List ℕ → Value → Bool
is_outside set (object x) = not (has set x)
is_outside set _ = false

-- whether there is an object, of a kind that passes the test
abbrev pub is_of_kind : (Kind → Bool) → Option Object → Bool
is_of_kind test None = false
is_of_kind test (Some o) = test o.kind

-- unordered guardians are the default ones
abbrev pub is_unordered_kind : Kind → Bool
is_unordered_kind Guard = true
is_unordered_kind _ = false

-- ordered guardians
abbrev pub is_ordered_kind : Kind → Bool
is_ordered_kind OrderedGuard = true
is_ordered_kind _ = false

-- whether the registration's guardian is an unordered one
abbrev pub is_unordered : State → Registration → Bool
is_unordered s r = is_of_kind is_unordered_kind (object_at s.graph r.guardian)

-- whether the registration's guardian is an ordered one
abbrev pub is_ordered : State → Registration → Bool
is_ordered s r = is_of_kind is_ordered_kind (object_at s.graph r.guardian)

-- whether the registration is dead: its object is inaccessible
abbrev pub is_dead : State → ℕ → Registration → Bool
is_dead s cg r = is_outside (accessible s cg) r.object

-- from the guardian of a dead registration that is unordered, the representative, which the guardian saves
abbrev pub served : State → ℕ → List Rule
served s cg =
    flat_map (λ r. rules_to r.representative (r.guardian ∷ []))
    (filter (λ r. is_dead s cg r && is_unordered s r) s.registrations)

-- L: what unordered guardians save is there too
unfoldable pub accessible_or_served : State → ℕ → List ℕ
accessible_or_served s cg = least (rules s ++ roots s cg ++ served s cg)

-- ---- ordered guardians

-- whether the registration may be ready: it is dead, its guardian is ordered and in L, and its object is not in L
abbrev pub is_candidate : State → ℕ → Registration → Bool
is_candidate s cg r =
    is_dead s cg r && is_ordered s r && has (accessible_or_served s cg) r.guardian
    && is_outside (accessible_or_served s cg) r.object

-- the rules with the object struck from their premises
abbrev pub without_premise : ℕ → List Rule → List Rule
without_premise x = map (λ (r : Rule). record r { premises = filter (λ y. not (x == y)) r.premises })

-- what would be asked of the object if it were a member: what it holds strongly, and as an ephemeron
abbrev pub as_though_member : State → ℕ → List Rule
as_though_member s x =
    flat_map (λ entry. if x == entry.0 then without_premise x (object_rules x entry.1) else []) s.graph

-- the same for the object of each candidate
abbrev pub as_though : State → ℕ → List Rule
as_though s cg =
    flat_map (λ r. flat_map (as_though_member s) (objects_in (r.object ∷ [])))
    (filter (is_candidate s cg) s.registrations)

-- W: what the candidates' objects would ask for is there too
unfoldable pub waited_for : State → ℕ → List ℕ
waited_for s cg = least (rules s ++ roots s cg ++ served s cg ++ as_though s cg)

-- whether nothing waits for the candidate: no candidate's object leads to its object
abbrev pub is_ready : State → ℕ → Registration → Bool
is_ready s cg r = is_candidate s cg r && is_outside (waited_for s cg) r.object

-- the candidates that are ready
abbrev pub ready : State → ℕ → List Registration
ready s cg = filter (is_ready s cg) s.registrations

-- whether the registration is a dead one of an ordered guardian, and no candidate
abbrev pub is_unready : State → ℕ → Registration → Bool
is_unready s cg r = is_dead s cg r && is_ordered s r && not (is_candidate s cg r)

-- from the guardian of such a registration, the object
abbrev pub unready_rules : State → ℕ → List Rule
unready_rules s cg =
    flat_map (λ r. rules_to r.object (r.guardian ∷ []))
    (filter (is_unready s cg) s.registrations)

-- K: the least set with W and what is given, in which registrations that are not given keep their objects
unfoldable pub kept : State → ℕ → List ℕ
kept s cg =
    least (rules s ++ served s cg ++ facts (waited_for s cg)
    ++ facts (objects_in (map (λ r. r.representative) (ready s cg)))
    ++ unready_rules s cg)

-- whether the registration's representative goes into its guardian's queue: it is dead, its guardian kept and
-- unordered, or it is ready
abbrev pub is_given : State → ℕ → Registration → Bool
is_given s cg r = is_dead s cg r && is_unordered s r && has (kept s cg) r.guardian || is_ready s cg r
