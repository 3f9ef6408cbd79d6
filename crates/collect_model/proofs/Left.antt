-- What a collection leaves of the starts and the registers of a heap.
use Rattle.std.specs.Prelude.{◌≡◌, ℕ, List, map, IsTrue, Some}
use Rattle.std.specs.List.{AllByRecursion}
use Rattle.gc_words.specs.declared.value.Value.{Value}
use Rattle.gc_words.specs.Layout.{thread_of}
use Rattle.trace_types.specs.Rules.{has}
use Rattle.trace_types.specs.Collections.{Arguments, fields_left, target}
use Rattle.segment.specs.Segments.{Start}
use Rattle.heap_store.specs.Starts.{Starts, IsLaidOut, IsThere, fields_of, read}

-- y at q in g is what is left of x at p in f: the same object in its target generation, with the fields that
-- are left where these objects are kept
pub record IsLeftOf (kept : List ℕ) (a : Arguments) (f g : Starts) (p : ℕ) (x : Start) (q : ℕ) (y : Start)
    : Type 0 where
  pub kind : y.kind ≡ x.kind
  pub birth : y.birth ≡ x.birth
  pub generation : y.generation ≡ target a x.generation
  pub thread : thread_of q ≡ thread_of p
  pub fields : fields_of g y ≡ fields_left kept x.kind (fields_of f x)
  pub laid_out : IsLaidOut g y

-- something in g is left of what starts at p in f
pub record IsLeft (kept : List ℕ) (a : Arguments) (f g : Starts) (p : ℕ) (x : Start) : Type 0 where
  pub place : ℕ
  pub start : Start
  pub here : g place ≡ Some start
  pub left : IsLeftOf kept a f g p x place start

-- what starts at q in g is left of something in f that is kept
pub record WasKept (set : List ℕ) (a : Arguments) (f g : Starts) (q : ℕ) (y : Start) : Type 0 where
  pub place : ℕ
  pub start : Start
  pub there : f place ≡ Some start
  pub kept : IsTrue (has set start.birth)
  pub left : IsLeftOf set a f g place start q y

-- what starts in g is what is left of the kept starts of f, each at one place
pub record AreLeft (kept : List ℕ) (a : Arguments) (f g : Starts) : Type 0 where
  pub to : (p : ℕ) (x : Start) → f p ≡ Some x → IsTrue (has kept x.birth) → IsLeft kept a f g p x
  pub from : (q : ℕ) (y : Start) → g q ≡ Some y → WasKept kept a f g q y
  pub once : (q r : ℕ) (y z : Start) → g q ≡ Some y → g r ≡ Some z → y.birth ≡ z.birth → q ≡ r

-- the registers read as before
pub record AreRegistersLeft (f g : Starts) (before after : List Value) : Type 0 where
  pub there : AllByRecursion (IsThere g) after
  pub reads : map (read g) after ≡ map (read f) before
