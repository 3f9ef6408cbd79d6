-- What the sets of a collection are, phase by phase.
use Rattle.std.specs.Prelude.{ℕ, List, ◌++◌, map}
use Rattle.trace_types.specs.Values.{objects_in}
use Rattle.trace_types.specs.Rules.{Rule, facts}
use Rattle.trace_types.specs.States.{State}
use Rattle.trace_types.specs.Kept.{rules, served, accessible, accessible_or_served, waited_for, ready, unready_rules, kept}
use Rattle.plain_model.specs.declared.sets.Sets.{Sets}
use Rattle.plain_model.specs.Plain.{Alike}

-- A is there
abbrev pub IsAccessible : State → Sets → Type 0
IsAccessible s sets = Alike sets.accessible (accessible s sets.cg)

-- A and L are there
abbrev pub IsServed : State → Sets → Type 0
IsServed s sets = IsAccessible s sets × Alike sets.served (accessible_or_served s sets.cg)

-- A, L and W are there
abbrev pub IsWaitedFor : State → Sets → Type 0
IsWaitedFor s sets = IsServed s sets × Alike sets.waited_for (waited_for s sets.cg)

-- all four sets are there
abbrev pub IsKept : State → Sets → Type 0
IsKept s sets = IsWaitedFor s sets × Alike sets.kept (kept s sets.cg)

-- the rules of what is kept, where W is given by this list of its members
abbrev pub kept_rules_with : State → ℕ → List ℕ → List Rule
kept_rules_with s cg waited =
    rules s ++ served s cg ++ facts waited
    ++ facts (objects_in (map (λ r. r.representative) (ready s cg)))
    ++ unready_rules s cg
