-- The state of a trace.
use Rattle.std.specs.Prelude.{ℕ, List, [], map, replicate, set, slice_index_or, Option, Some, None, Result, Ok}
use Rattle.std.specs.FinMap.{find, put}
use Rattle.std.specs.Ordering.{nat_cmp}
use Rattle.trace_types.specs.declared.fault.Fault.{Fault}
use Rattle.trace_types.specs.declared.kind.Kind.{Kind}
use Rattle.trace_types.specs.declared.operand.Operand.{Operand}
use Rattle.trace_types.specs.declared.operand.Operand.TheVariants.{Reg, Fixnum, Nil, True, False}
use Rattle.trace_types.specs.Values.{Value, fixnum, nil, true_value, false_value, object, Object, Graph}

-- objects of this generation are never collected
abbrev pub static_generation : ℕ
static_generation = 8

-- A note is empty, set to an object's place, or gone.
pub data Note : Type 0 where
  empty gone : Note
  set_to : ℕ → Note

-- where no representative is named, it is the object itself
pub record Registration : Type 0 where
  pub line : ℕ
  pub guardian : ℕ
  pub object : Value
  pub representative : Value

-- Registers are 4,096 and notes 256. Locks go from births to counts above 0, in ascending order of births,
-- and registrations stand in ascending order of lines. `oldest` is the oldest generation that is collected,
-- `collects` the number of accepted `collect` lines without arguments. The version is 1 or 2.
pub record State : Type 0 where
  pub graph : Graph
  pub registers : List Value
  pub locks : List (ℕ × ℕ)
  pub notes : List Note
  pub registrations : List Registration
  pub thread : ℕ
  pub collects : ℕ
  pub oldest : ℕ
  pub version : ℕ

-- where a trace begins
abbrev pub opening : ℕ → State
opening oldest = record {
  graph = [];
  registers = replicate 4096 nil;
  locks = [];
  notes = replicate 256 empty;
  registrations = [];
  thread = 0;
  collects = 0;
  oldest = oldest;
  version = 1;
}

-- ---- parts of a state

-- what a register holds
abbrev pub register_value : State → ℕ → Value
register_value s r = slice_index_or s.registers r nil

-- the state with another value in a register
abbrev pub with_register : State → ℕ → Value → State
with_register s r v = record s { registers = set s.registers r v }

-- what an operand stands for
abbrev pub operand_value : State → Operand → Value
operand_value s (Reg r) = register_value s r
operand_value s (Fixnum n) = fixnum n
operand_value s Nil = nil
operand_value s True = true_value
operand_value s False = false_value

-- the state with the object in its graph under the birth
abbrev pub with_object : State → ℕ → Object → State
with_object s birth o = record s { graph = put nat_cmp birth o s.graph }

-- the state with another value in a field of an object
abbrev pub with_field : State → ℕ → Object → ℕ → Value → State
with_field s birth o index v = with_object s birth (record o { fields = set o.fields index v })

-- a new object of the current thread, in generation 0
abbrev pub new_object : State → Kind → List Value → Object
new_object s kind fields = record { kind = kind; creator = s.thread; generation = 0; fields = fields; queue = [] }

-- the state with a new object in register d, whose birth is the line
abbrev pub with_new : State → ℕ → ℕ → Kind → List Value → State
with_new s line d kind fields = with_register (with_object s line (new_object s kind fields)) d (object line)

-- what is not there counts 0
abbrev pub or_zero : Option ℕ → ℕ
or_zero None = 0
or_zero (Some n) = n

-- how often the object is locked
abbrev pub lock_count : State → ℕ → ℕ
lock_count s birth = or_zero (find nat_cmp birth s.locks)

-- the objects that are locked
abbrev pub locked : State → List ℕ
locked s = map (λ entry. entry.0) s.locks

-- ---- what a line answers

-- the new state and the text, or the fault
abbrev pub Answer : Type 0
Answer = Result (State × List ℕ) Fault

-- a new state, and no text
abbrev pub silently : State → Answer
silently s = Ok (s, [])
