-- What the laws of these definitions say. Each is the contract of a public function that does nothing.
use Rattle.std.specs.Prelude.{◌≡◌, ℕ, ◌+◌, ◌≤◌, ◌==◌, List, [], ◌∷◌, ◌++◌, length, map, flat_map, sum_by, All, IsTrue, Option, Some, None, Ok, option_map, if◌then◌else◌}
use Rattle.trace_types.specs.declared.kind.Kind.{Kind}
use Rattle.trace_types.specs.declared.fault.Fault.{Fault}
use Rattle.trace_types.specs.declared.command.Command.{Command}
use Rattle.trace_types.specs.Values.{Value, Object, Graph, objects_in, object_at, size_of}
use Rattle.trace_types.specs.States.{State, opening, locked, with_object, with_field, new_object, with_new}
use Rattle.trace_types.specs.Rules.{Rule, has, ◌⊆◌, least, MeetsAll, IsAmong, facts, IsLeastWith}
use Rattle.trace_types.specs.Kept.{older, accessible, accessible_or_served, waited_for, kept}
use Rattle.trace_types.specs.Closed.{IsClosed, HoldsServed, HoldsAsked, HoldsKept}
use Rattle.trace_types.specs.WellFormed.{IsWellFormed, IsNext, AllBefore, operands_fit, greatest_line}
use Rattle.trace_types.specs.Collections.{Arguments, are_allowed, object_left, collect}
use Rattle.trace_types.specs.Printing.{census, of_generation, words_of}
use Rattle.trace_types.specs.Finder.{path, led, IsPath, reach, HoldsReached}
use Rattle.trace_types.specs.Steps.{step}
use Rattle.trace_types.specs.Reading.{read}
use Rattle.trace_types.specs.Lines.{lines_of}
use Rattle.trace_types.specs.Workloads.{generated, workload_from}
use Rattle.trace_types.specs.Runs.{run}
use Rattle.trace_types.specs.declared.limits.Limits.{Limits}

-- ---- least sets

-- the least set meets each rule, and is in each set that does
pub record IsLeast (rules : List Rule) (set : List ℕ) : Type 0 where
  pub meets_each : MeetsAll set rules
  pub below_each : (other : List ℕ) → MeetsAll other rules → set ⊆ other

-- of each list of rules
abbrev pub LeastIsLeast : Type 0
LeastIsLeast = (rules : List Rule) → IsLeast rules (least rules)

-- More rules, more objects. So the least set depends on its rules as a set.
abbrev pub LeastGrows : Type 0
LeastGrows = (rules others : List Rule) → IsAmong rules others → least rules ⊆ least others

-- the same set of rules, the same members
abbrev pub LeastIsOfASet : Type 0
LeastIsOfASet = (rules others : List Rule) → IsAmong rules others → IsAmong others rules → (x : ℕ)
    → has (least rules) x ≡ has (least others) x

-- further rules go on from what is there already
abbrev pub LeastGoesOn : Type 0
LeastGoesOn = (rules more : List Rule) (x : ℕ)
    → has (least (rules ++ more)) x ≡ has (least (facts (least rules) ++ (rules ++ more))) x

-- the rules with other names for the objects
abbrev pub renamed : (ℕ → ℕ) → List Rule → List Rule
renamed name rules = map (λ (r : Rule). record { premises = map name r.premises; conclusion = name r.conclusion }) rules

-- the objects that the rules name
abbrev pub mentioned : List Rule → List ℕ
mentioned rules = flat_map (λ r. r.conclusion ∷ r.premises) rules

-- no two objects of the set get one name
abbrev pub KeepsApart : (ℕ → ℕ) → List ℕ → Type 0
KeepsApart name set = (x y : ℕ) → IsTrue (has set x) → IsTrue (has set y) → name x ≡ name y → x ≡ y

-- other names for the objects of the rules are other names for the objects of the least set
abbrev pub LeastIsRenamed : Type 0
LeastIsRenamed = (name : ℕ → ℕ) (rules : List Rule) → KeepsApart name (mentioned rules)
    → least (renamed name rules) ≡ map name (least rules)

-- ---- a collection

-- A is the least closed set that holds the objects in registers, the locked objects and the older ones
pub record IsAccessible (s : State) (cg : ℕ) (set : List ℕ) : Type 0 where
  pub closed : IsClosed s set
  pub roots : (objects_in s.registers ++ locked s ++ older s cg) ⊆ set
  pub below_each : (other : List ℕ) → IsClosed s other
      → (objects_in s.registers ++ locked s ++ older s cg) ⊆ other → set ⊆ other

-- in each well-formed state
abbrev pub AccessibleIsLeastClosed : Type 0
AccessibleIsLeastClosed = (s : State) (cg : ℕ) → IsWellFormed s → IsAccessible s cg (accessible s cg)

-- L, W and K are the least sets of their kind
pub record PhasesAreLeast (s : State) (cg : ℕ) : Type 0 where
  pub served : IsLeastWith (HoldsServed s cg) (accessible_or_served s cg)
  pub waited : IsLeastWith (HoldsAsked s cg) (waited_for s cg)
  pub kept : IsLeastWith (HoldsKept s cg) (kept s cg)

-- in each well-formed state
abbrev pub EachPhaseIsLeast : Type 0
EachPhaseIsLeast = (s : State) (cg : ℕ) → IsWellFormed s → PhasesAreLeast s cg

-- A is in L, L in W, and W in K
pub record PhasesGrow (s : State) (cg : ℕ) : Type 0 where
  pub served : accessible s cg ⊆ accessible_or_served s cg
  pub waited : accessible_or_served s cg ⊆ waited_for s cg
  pub kept : waited_for s cg ⊆ kept s cg

-- in each state
abbrev pub EachPhaseGrows : Type 0
EachPhaseGrows = (s : State) (cg : ℕ) → PhasesGrow s cg

-- ---- well-formed states

-- where a trace begins, the state is well formed
abbrev pub OpeningIsWellFormed : Type 0
OpeningIsWellFormed = (oldest : ℕ) → 1 ≤ oldest → oldest ≤ 7 → IsWellFormed (opening oldest)

-- a collection with allowed arguments keeps a state well formed
abbrev pub CollectKeepsWellFormed : Type 0
CollectKeepsWellFormed = (s : State) (a : Arguments) → IsWellFormed s
    → IsTrue (are_allowed s.version s.oldest a) → IsWellFormed (collect s a)

-- a command that is not refused keeps a state well formed
abbrev pub StepKeepsWellFormed : Type 0
StepKeepsWellFormed =
    (s s' : State) (line : ℕ) (c : Command) (text : List ℕ) → IsWellFormed s → IsNext s line → IsTrue (operands_fit c)
    → step s line c ≡ Ok (s', text) → IsWellFormed s'

-- after a line the next line comes after every birth and line of the state
abbrev pub StepLeavesNext : Type 0
StepLeavesNext =
    (s s' : State) (line : ℕ) (c : Command) (text : List ℕ) → IsWellFormed s → IsNext s line → IsTrue (operands_fit c)
    → step s line c ≡ Ok (s', text) → AllBefore s' (line + 1)

-- a command that is read has operands without a fault of their own
abbrev pub ReadFits : Type 0
ReadFits = (line : List ℕ) (c : Command) → read line ≡ Ok (Some c) → IsTrue (operands_fit c)

-- the state of a run is well formed
abbrev pub RunIsWellFormed : Type 0
RunIsWellFormed =
    (limits : Limits) (bytes : List ℕ) → 1 ≤ limits.generations → limits.generations ≤ 7 → limits.max_lines ≤ greatest_line
    → IsWellFormed (run step limits bytes).state

-- ---- the census

-- the census counts each object once, and its words
pub record AddsUp (graph : Graph) : Type 0 where
  pub objects : sum_by (λ counts. counts.0) (census graph) ≡ length graph
  pub words : sum_by (λ counts. counts.1) (census graph) ≡ words_of graph

-- in each well-formed state
abbrev pub CensusAddsUp : Type 0
CensusAddsUp = (s : State) → IsWellFormed s → AddsUp s.graph

-- ---- graphs

-- what is found after an object was put under a birth: it, and the others as they were
abbrev pub PutIsFound : Type 0
PutIsFound = (s : State) (birth q : ℕ) (o : Object)
    → object_at (with_object s birth o).graph q ≡ (if q == birth then Some o else object_at s.graph q)

-- what is found after a collection: what is left of a kept object
abbrev pub LeftIsFound : Type 0
LeftIsFound =
    (s : State) (a : Arguments) (q : ℕ)
    → object_at (collect s a).graph q ≡ (if has (kept s a.cg) q then option_map (object_left s a q) (object_at s.graph q) else None)

-- a new object is the last of the graph, and it counts in generation 0
pub record NewCounts (s : State) (line d : ℕ) (kind : Kind) (fields : List Value) : Type 0 where
  pub last : (with_new s line d kind fields).graph ≡ s.graph ++ (line, new_object s kind fields) ∷ []
  pub objects : (g : ℕ)
      → length (of_generation g (with_new s line d kind fields).graph) ≡ length (of_generation g s.graph) + (if g == 0 then 1 else 0)
  pub words : (g : ℕ)
      → words_of (of_generation g (with_new s line d kind fields).graph) ≡ words_of (of_generation g s.graph) + (if g == 0 then size_of kind fields else 0)

-- with a line above every number of the state
abbrev pub EachNewCounts : Type 0
EachNewCounts = (s : State) (line d : ℕ) (kind : Kind) (fields : List Value) → AllBefore s line
    → NewCounts s line d kind fields

-- a change of a field changes no count
abbrev pub FieldKeepsCensus : Type 0
FieldKeepsCensus =
    (s : State) (x index : ℕ) (o : Object) (v : Value) → IsWellFormed s → object_at s.graph x ≡ Some o
    → census (with_field s x o index v).graph ≡ census s.graph

-- ---- paths

-- what `path` gives is a path, and it gives none only where no walk leads from the one object to the other
pub record FindsPath (graph : Graph) (a b : ℕ) : Type 0 where
  pub found : (walk : List ℕ) → path graph a b ≡ Some walk → IsPath graph a b walk
  pub none : ◌≡◌ {A = Option (List ℕ)} (path graph a b) None → (walk : List ℕ)
      → led graph (Some a) walk ≡ Some b → ⊥

-- to each object of a graph
abbrev pub PathIsFirst : Type 0
PathIsFirst = (graph : Graph) (a b : ℕ) (o : Object) → object_at graph b ≡ Some o → FindsPath graph a b

-- what is reached is the least set that holds the object and what a step of a member leads to
abbrev pub ReachIsLeast : Type 0
ReachIsLeast = (s : State) (a : ℕ) → IsWellFormed s → IsLeastWith (HoldsReached s.graph a) (reach s.graph a)

-- ---- workloads

-- the lines of a workload are those that were generated, so many as were asked for, and none is too long
pub record IsWorkload (number count : ℕ) : Type 0 where
  pub lines : lines_of (generated number count) ≡ workload_from count 1 number
  pub so_many : length (workload_from count 1 number) ≡ count
  pub short : All (λ line. length line ≤ 1024) (workload_from count 1 number)

-- of each number and count
abbrev pub EachIsWorkload : Type 0
EachIsWorkload = (number count : ℕ) → IsWorkload number count

-- no line of a workload is refused
abbrev pub WorkloadsAreAccepted : Type 0
WorkloadsAreAccepted =
    (limits : Limits) (number count : ℕ) → 1 ≤ limits.generations → limits.generations ≤ 7
    → limits.max_lines ≤ greatest_line → count ≤ limits.max_lines
    → ◌≡◌ {A = Option (ℕ × Fault)} (run step limits (generated number count)).stop None
