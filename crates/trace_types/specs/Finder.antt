-- Why an object is kept, and how much it holds: walks along strong references.
use Rattle.std.specs.Prelude.{◌≡◌, ◌≤◌, ◌<◌, ◌⊎◌, ℕ, zero, suc, ◌==◌, List, [], ◌∷◌, ◌++◌, map, filter, flat_map, length, Option, Some, None, IsTrue, if◌then◌else◌}
use Rattle.trace_types.specs.declared.kind.Kind.{Kind}
use Rattle.trace_types.specs.declared.kind.Kind.TheVariants.{Weak}
use Rattle.trace_types.specs.Values.{Value, objects_in, Object, Graph, object_at, strong_values, strong_references}
use Rattle.trace_types.specs.Rules.{has, ◌⊆◌, least, facts}
use Rattle.trace_types.specs.Kept.{strong_rules}

-- ---- steps

-- the index of the first strong value: the car of a weak pair is none
abbrev pub first_index : Kind → ℕ
first_index Weak = 1
first_index _ = 0

-- to each object among the values, with the index of the value, counted from the number
abbrev pub indexed : ℕ → List Value → List (ℕ × ℕ)
indexed n [] = []
indexed n (v ∷ vs) = map (λ x. (n, x)) (objects_in (v ∷ [])) ++ indexed (suc n) vs

-- the steps of an object: its strong references, each with its index among the fields or in the queue
abbrev pub steps : Object → List (ℕ × ℕ)
steps o = indexed (first_index o.kind) (strong_values o)

-- the steps of an object that was looked up
abbrev pub steps_at : Option Object → List (ℕ × ℕ)
steps_at None = []
steps_at (Some o) = steps o

-- ---- walks

-- the walks of so many steps from a to b, in the order of lists by their numbers from the left
abbrev pub walks : Graph → ℕ → ℕ → ℕ → List (List ℕ)
walks graph zero a b = if a == b then [] ∷ [] else []
walks graph (suc n) a b = flat_map (λ s. map (λ walk. s.0 ∷ walk) (walks graph n s.1 b)) (steps_at (object_at graph a))

-- the first walk of the list, or else the other
abbrev pub first_or : List (List ℕ) → (Unit {0} → Option (List ℕ)) → Option (List ℕ)
first_or [] other = other tt
first_or (walk ∷ rest) other = Some walk

-- the first of the walks of n steps, or where there are none of those of n + 1 steps, and so on, trying so many lengths
abbrev pub shortest : Graph → ℕ → ℕ → ℕ → ℕ → Option (List ℕ)
shortest graph zero n a b = None
shortest graph (suc more) n a b = first_or (walks graph n a b) (λ _. shortest graph more (suc n) a b)

-- Among the walks of least length from a to b, the first. Such a walk comes to no object twice.
unfoldable pub path : Graph → ℕ → ℕ → Option (List ℕ)
path graph a b = shortest graph (length graph) 0 a b

-- ---- what a path is, in words of its own

-- the object to which the step with the index leads
abbrev pub step_at : List (ℕ × ℕ) → ℕ → Option ℕ
step_at [] index = None
step_at (s ∷ rest) index = if s.0 == index then Some s.1 else step_at rest index

-- the same from an object of the graph
abbrev pub next_of : Graph → Option ℕ → ℕ → Option ℕ
next_of graph None index = None
next_of graph (Some a) index = step_at (steps_at (object_at graph a)) index

-- the object to which a list of indexes leads, step by step; the empty list leads nowhere else
abbrev pub led : Graph → Option ℕ → List ℕ → Option ℕ
led graph from [] = from
led graph from (index ∷ walk) = led graph (next_of graph from index) walk

-- the list comes before the other in the order of lists by their numbers from the left
abbrev pub IsBefore : List ℕ → List ℕ → Type 0
IsBefore (i ∷ walk) (j ∷ other) = (i < j) ⊎ ((i ≡ j) × IsBefore walk other)
IsBefore _ _ = ⊥

-- the list is a walk from a to b, no walk is shorter, and no other walk of its length comes before it
pub record IsPath (graph : Graph) (a b : ℕ) (walk : List ℕ) : Type 0 where
  pub leads : led graph (Some a) walk ≡ Some b
  pub shortest : (other : List ℕ) → led graph (Some a) other ≡ Some b → length walk ≤ length other
  pub first : (other : List ℕ) → led graph (Some a) other ≡ Some b → length other ≡ length walk
      → IsBefore other walk → ⊥

-- ---- what is reached

-- the least set that holds a and every object to which a step of a member leads
unfoldable pub reach : Graph → ℕ → List ℕ
reach graph a = least (facts (a ∷ []) ++ flat_map (λ entry. strong_rules entry.0 entry.1) graph)

-- the same in words of its own: what the set holds
pub record HoldsReached (graph : Graph) (a : ℕ) (set : List ℕ) : Type 0 where
  pub start : IsTrue (has set a)
  pub steps : (x : ℕ) (o : Object) → object_at graph x ≡ Some o → IsTrue (has set x) → strong_references o ⊆ set

-- the objects that are reached from a
abbrev pub reached : Graph → ℕ → Graph
reached graph a = let set = reach graph a in filter (λ entry. has set entry.0) graph
