-- Well-formed states, and what a command owes beside its own faults.
use Rattle.std.specs.Prelude.{◌≡◌, ℕ, ◌+◌, ◌≤◌, ◌<◌, Bool, true, false, not, ◌&&◌, ◌||◌, ◌==◌, nat_le, nat_lt, List, [], ◌∷◌, ◌++◌, map, length, flat_map, All, IsTrue, Option, Some, None, if◌then◌else◌}
use Rattle.std.specs.List.{list_all}
use Rattle.std.specs.FinMap.{is_sorted}
use Rattle.std.specs.Ordering.{nat_cmp}
use Rattle.trace_types.specs.declared.operand.Operand.{Operand}
use Rattle.trace_types.specs.declared.operand.Operand.TheVariants.{Fixnum}
use Rattle.trace_types.specs.declared.command.Command.{Command}
use Rattle.trace_types.specs.declared.command.Command.TheVariants as commands
use Rattle.trace_types.specs.declared.kind.Kind.{Kind}
use Rattle.trace_types.specs.declared.kind.Kind.TheVariants.{Pair, Weak, Eph, Boxed, Guard, OrderedGuard, Cell}
use Rattle.trace_types.specs.Values.{Value, is_fixnum, is_value, is_byte, objects_in, Object, object_at, is_guardian, has_bytes, queue_values}
use Rattle.trace_types.specs.States.{State, Registration, Note, set_to, locked, static_generation}
use Rattle.trace_types.specs.Rules.{◌⊆◌}
use Rattle.trace_types.specs.Kept.{is_of_kind}
use Rattle.trace_types.specs.Reading.{is_register}

-- ---- what is named and numbered

-- the objects of the graph
abbrev pub births : State → List ℕ
births s = map (λ entry. entry.0) s.graph

-- the object that a note is set to
abbrev pub noted : Note → List ℕ
noted (set_to birth) = birth ∷ []
noted _ = []

-- the births in its fields and queue
abbrev pub named_by_object : ℕ × Object → List ℕ
named_by_object entry = objects_in (entry.1.fields ++ queue_values entry.1)

-- its guardian, and its object and representative where these are objects
abbrev pub named_by_registration : Registration → List ℕ
named_by_registration r = r.guardian ∷ objects_in (r.object ∷ r.representative ∷ [])

-- every birth that is named in a field, queue, register, lock count, set note or registration
abbrev pub named : State → List ℕ
named s =
    flat_map named_by_object s.graph ++ objects_in s.registers ++ locked s ++ flat_map noted s.notes
    ++ flat_map named_by_registration s.registrations

-- in the order of the list
abbrev pub registration_lines : State → List ℕ
registration_lines s = map (λ r. r.line) s.registrations

-- births, registration lines and lines in queues
abbrev pub numbers : State → List ℕ
numbers s = births s ++ registration_lines s ++ flat_map (λ entry. map (λ e. e.1) entry.1.queue) s.graph

-- how often the number stands in the list
abbrev pub occurrences : ℕ → List ℕ → ℕ
occurrences n [] = 0
occurrences n (x ∷ xs) = (if x == n then 1 else 0) + occurrences n xs

-- the greatest number of a line
abbrev pub greatest_line : ℕ
greatest_line = 1073741823

-- each number is less than the next ones
abbrev pub is_ascending : List ℕ → Bool
is_ascending [] = true
is_ascending (n ∷ ns) = list_all (nat_lt n) ns && is_ascending ns

-- ---- objects

-- whether an object of the kind may have these fields; a queue cell is no object of a graph
abbrev pub has_its_fields : Kind → List Value → Bool
has_its_fields Pair fields = length fields == 2
has_its_fields Weak fields = length fields == 2
has_its_fields Eph fields = length fields == 2
has_its_fields Boxed fields = length fields == 1
has_its_fields Guard fields = length fields == 0
has_its_fields OrderedGuard fields = length fields == 0
has_its_fields Cell fields = false
has_its_fields _ fields = nat_le (length fields) 4000000

-- the values of byte kinds are numbers from 0 to 255, and all other values are in range
abbrev pub fields_fit : Kind → List Value → Bool
fields_fit kind fields = if has_bytes kind then list_all is_byte fields else list_all is_value fields

-- whether the generation is one of a state with this version and oldest generation
abbrev pub is_generation : ℕ → ℕ → ℕ → Bool
is_generation version oldest g = nat_le g oldest || version == 2 && g == static_generation

-- an object as it may stand in a graph
pub record IsObject (version oldest : ℕ) (o : Object) : Type 0 where
  pub fields : IsTrue (has_its_fields o.kind o.fields)
  pub fitting : IsTrue (fields_fit o.kind o.fields)
  pub queue : IsTrue (is_guardian o.kind || length o.queue == 0)
  pub queue_fitting : IsTrue (list_all is_value (queue_values o))
  pub creator : o.creator ≤ 63
  pub generation : IsTrue (is_generation version oldest o.generation)

-- ---- states

-- what makes a state well formed, with no number in it above this one
pub record IsWellFormedTo (last : ℕ) (s : State) : Type 0 where
  pub ordered : IsTrue (is_sorted nat_cmp s.graph)
  pub objects : All (λ entry. IsObject s.version s.oldest entry.1) s.graph
  -- every birth that is named is in the graph
  pub in_graph : named s ⊆ births s
  pub guardians : All (λ r. IsTrue (is_of_kind is_guardian (object_at s.graph r.guardian))) s.registrations
  -- births, registration lines and lines in queues all differ, and are from 1 to `last`
  pub differ : (n : ℕ) → occurrences n (numbers s) ≤ 1
  pub in_range : (n : ℕ) → 1 ≤ occurrences n (numbers s) → (1 ≤ n) × (n ≤ last)
  pub lines_ordered : IsTrue (is_ascending (registration_lines s))
  pub registration_values : All (λ r. IsTrue (is_value r.object && is_value r.representative)) s.registrations
  pub locks_ordered : IsTrue (is_sorted nat_cmp s.locks)
  pub locks : All (λ entry. 1 ≤ entry.1) s.locks
  pub registers : length s.registers ≡ 4096
  pub register_values : IsTrue (list_all is_value s.registers)
  pub notes : length s.notes ≡ 256
  pub thread : s.thread ≤ 63
  pub oldest : (1 ≤ s.oldest) × (s.oldest ≤ 7)
  pub version : IsTrue (s.version == 1 || s.version == 2)

-- the numbers are lines of a trace
abbrev pub IsWellFormed : State → Type 0
IsWellFormed s = IsWellFormedTo greatest_line s

-- every number of the state is below the line
abbrev pub AllBefore : State → ℕ → Type 0
AllBefore s line = (n : ℕ) → 1 ≤ occurrences n (numbers s) → n < line

-- the line comes after every birth and line of the state
pub record IsNext (s : State) (line : ℕ) : Type 0 where
  pub counted : 1 ≤ line
  pub bounded : line ≤ greatest_line
  pub above : AllBefore s line

-- ---- operands

-- a fixnum is in range
abbrev pub operand_fits : Operand → Bool
operand_fits (Fixnum n) = is_fixnum n
operand_fits _ = true

-- where there is one, it is in range
abbrev pub representative_fits : Option Operand → Bool
representative_fits None = true
representative_fits (Some operand) = operand_fits operand

-- Whether the operands of a command have no fault of their own. That registers, bytes and counts are in range is said
-- by their types.
abbrev pub operands_fit : Command → Bool
operands_fit (commands.Thread t) = nat_le t 63
operands_fit (commands.Cons d car cdr) = operand_fits car && operand_fits cdr
operands_fit (commands.Weak d car cdr) = operand_fits car && operand_fits cdr
operands_fit (commands.Eph d key value) = operand_fits key && operand_fits value
operands_fit (commands.MakeBox d value) = operand_fits value
operands_fit (commands.Vector d n value) = operand_fits value
operands_fit (commands.Bytes d n byte) = nat_le byte 255
operands_fit (commands.ImmVector d n value) = operand_fits value
operands_fit (commands.ImmBytes d n byte) = nat_le byte 255
operands_fit (commands.Reg guardian o representative) = operand_fits o && representative_fits representative
operands_fit (commands.Set s index value) = operand_fits value
operands_fit (commands.Mov d value) = operand_fits value
operands_fit (commands.Lock value) = operand_fits value
operands_fit (commands.Unlock value) = operand_fits value
operands_fit (commands.Print value) = operand_fits value
operands_fit (commands.Gen value) = operand_fits value
operands_fit (commands.TablePut d table mode key value) =
    operand_fits key && operand_fits value && not (table == d) && not (is_register d key) && not (is_register d value)
operands_fit (commands.TableGet d table key) = operand_fits key
operands_fit (commands.TableDel table key) = operand_fits key
operands_fit (commands.Path from to) = operand_fits to
operands_fit _ = true
