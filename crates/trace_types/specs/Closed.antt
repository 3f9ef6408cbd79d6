-- Closed sets of objects, in words of their own: a set meets the rules of a state exactly where it is closed.
use Rattle.std.specs.Prelude.{◌≡◌, ℕ, ◌&&◌, List, ◌∷◌, All, IsTrue, IsFalse, Some}
use Rattle.trace_types.specs.Values.{Value, object, Object, object_at, is_ephemeron, key_of, value_of, strong_references}
use Rattle.trace_types.specs.States.{State}
use Rattle.trace_types.specs.Rules.{has, ◌⊆◌}
use Rattle.trace_types.specs.Kept.{is_outside, accessible, is_dead, is_unordered, accessible_or_served, is_candidate, waited_for, is_ready, is_unready}

-- the value is an immediate or in the set
abbrev pub IsIn : List ℕ → Value → Type 0
IsIn set v = IsFalse (is_outside set v)

-- Strong references of members are members. An ephemeron's value is in, where the ephemeron and its key are. A
-- registration's representative is in, where its guardian and its object are.
pub record IsClosed (s : State) (set : List ℕ) : Type 0 where
  pub strong : (x : ℕ) (o : Object) → object_at s.graph x ≡ Some o → IsTrue (has set x) → strong_references o ⊆ set
  pub ephemerons : (x : ℕ) (o : Object) → object_at s.graph x ≡ Some o → IsTrue (is_ephemeron o.kind)
      → IsTrue (has set x) → IsIn set (key_of o) → IsIn set (value_of o)
  pub registrations : All (λ r. IsTrue (has set r.guardian) → IsIn set r.object → IsIn set r.representative) s.registrations

-- ---- what L, W and K must be, in words of their own

-- for each dead registration of an unordered guardian in the set, the representative is in
abbrev pub IsServed : State → ℕ → List ℕ → Type 0
IsServed s cg set =
    All (λ r. IsTrue (is_dead s cg r && is_unordered s r) → IsTrue (has set r.guardian) → IsIn set r.representative)
    s.registrations

-- what the object would ask for if it were a member: its strong references, and its value where it is an ephemeron
-- whose key is in, or is the object itself
pub record HasAsked (set : List ℕ) (x : ℕ) (o : Object) : Type 0 where
  pub strong : strong_references o ⊆ set
  pub ephemeron : IsTrue (is_ephemeron o.kind) → IsIn (x ∷ set) (key_of o) → IsIn set (value_of o)

-- what each candidate's object would ask for is in
abbrev pub IsAsked : State → ℕ → List ℕ → Type 0
IsAsked s cg set =
    All (λ r. IsTrue (is_candidate s cg r) → (x : ℕ) (o : Object) → r.object ≡ object x
    → object_at s.graph x ≡ Some o → HasAsked set x o)
    s.registrations

-- L: closed, with A, and served
pub record HoldsServed (s : State) (cg : ℕ) (set : List ℕ) : Type 0 where
  pub closed : IsClosed s set
  pub accessible : accessible s cg ⊆ set
  pub served : IsServed s cg set

-- W: closed and served, with L, and with what the candidates' objects ask for
pub record HoldsAsked (s : State) (cg : ℕ) (set : List ℕ) : Type 0 where
  pub closed : IsClosed s set
  pub before : accessible_or_served s cg ⊆ set
  pub served : IsServed s cg set
  pub asked : IsAsked s cg set

-- K: closed and served, with W, with the representatives of ready candidates, and with the object of each dead
-- registration of an ordered guardian in the set that is no candidate
pub record HoldsKept (s : State) (cg : ℕ) (set : List ℕ) : Type 0 where
  pub closed : IsClosed s set
  pub before : waited_for s cg ⊆ set
  pub served : IsServed s cg set
  pub given : All (λ r. IsTrue (is_ready s cg r) → IsIn set r.representative) s.registrations
  pub unready : All (λ r. IsTrue (is_unready s cg r) → IsTrue (has set r.guardian) → IsIn set r.object) s.registrations
