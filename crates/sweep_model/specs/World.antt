-- What stood when a collection began, and which objects its slots ask for. Objects are named by their old addresses.
use Rattle.std.specs.Prelude.{◌≡◌, ℕ, ◌<◌, ◌≤◌, ◌==◌, nat_le, Bool, true, false, not, if◌then◌else◌, slice_index, Option, None, Some, IsSome}
use Rattle.gc_words.specs.declared.value.Value.{Value}
use Rattle.gc_words.specs.declared.value.Value.TheVariants as value
use Rattle.gc_words.specs.Word.{value_of}
use Rattle.gc_words.specs.Layout.{IsAddress}
use Rattle.trace_types.specs.declared.kind.Kind.{Kind}
use Rattle.trace_types.specs.declared.kind.Kind.TheVariants as kind
use Rattle.segment.specs.Segments.{Start}
use Rattle.territory.specs.declared.territory.Targets.{Targets}
use Rattle.territory.specs.Territories.{IsShaped}
use Rattle.territory.specs.Finishing.{target_of}
use Rattle.gc_mail.specs.declared.message.Slot.{Slot as Back}
use Rattle.gc_mail.specs.declared.message.Slot.TheVariants as back

-- What started at each address and what each register held, in all territories; how many sweepers there are;
-- which generations are collected, and where what is kept of them goes.
pub record World : Type 0 where
  pub image : ℕ → Option Start
  pub registers : ℕ → Option Value
  pub sweepers : ℕ
  pub targets : Targets

-- ---- generations

-- whether a start is of a generation that is collected
abbrev pub is_young : ℕ → Option Start → Bool
is_young cg None = false
is_young cg (Some x) = nat_le x.generation cg

-- whether it is of an older one
abbrev pub is_old : ℕ → Option Start → Bool
is_old cg None = false
is_old cg (Some x) = not (nat_le x.generation cg)

abbrev pub is_collected : World → ℕ → Bool
is_collected world a = is_young world.targets.cg (world.image a)

abbrev pub is_older : World → ℕ → Bool
is_older world a = is_old world.targets.cg (world.image a)

-- the generation that an object has after the collection
abbrev pub goes_to : Targets → ℕ → ℕ
goes_to targets g = if nat_le g targets.cg then target_of targets g else g

-- ---- fields

-- Whether a word of an object of this kind is a strong field: not the car of a weak pair, nor the key and value of an
-- ephemeron, nor bytes. The words of guardians and of the cells of their queues are strong.
abbrev pub is_strong : Kind → ℕ → Bool
is_strong kind.Weak index = not (index == 0)
is_strong kind.Eph index = false
is_strong kind.Bytes index = false
is_strong kind.ImmBytes index = false
is_strong _ index = true

-- the value of a strong field
abbrev pub strong_value : Option Start → ℕ → Option Value
strong_value None index = None
strong_value (Some x) index = if is_strong x.kind index then value_of (slice_index x.words index) else None

-- the object that a value refers to
abbrev pub object_in : Option Value → Option ℕ
object_in (Some (value.Object a)) = Some a
object_in _ = None

-- ---- slots

abbrev pub if_collected : World → Option ℕ → Option ℕ
if_collected world None = None
if_collected world (Some t) = if is_collected world t then Some t else None

-- the collected object that is wanted at a slot: what the register held, or what the strong field had
abbrev pub asks : World → Back → Option ℕ
asks world (back.Register r) = if_collected world (object_in (world.registers r))
asks world (back.Field i x) = if_collected world (object_in (strong_value (world.image x) i))
asks world _ = None

-- There are 1 to 64 sweepers, each start has an address and the shape of its kind, and what a strong field or a
-- register refers to started somewhere.
pub record IsWorld (world : World) : Type 0 where
  pub some : 0 < world.sweepers
  pub most : world.sweepers ≤ 64
  pub addresses : (a : ℕ) (x : Start) → world.image a ≡ Some x → IsAddress a
  pub shaped : (a : ℕ) (x : Start) → world.image a ≡ Some x → IsShaped x
  pub fields : (a i b : ℕ) → object_in (strong_value (world.image a) i) ≡ Some b → IsSome (world.image b)
  pub held : (r b : ℕ) → object_in (world.registers r) ≡ Some b → IsSome (world.image b)
