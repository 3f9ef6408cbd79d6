-- What operands and registers stand for.
use Rattle.std.proofs.Common.{◌≡◌, ℕ, zero, suc, List, [], ◌∷◌, length, map, get_or, IsTrue, pos, negsuc, ◌^◌, refl, sym, ◌∙◌, ap}
use Rattle.std.proofs.lemmas.Bool.{ltb-true}
use Rattle.std.proofs.lemmas.List.{length-map}
use Rattle.gc_words.specs.declared.value.Value.{Value}
use Rattle.gc_words.specs.declared.value.Value.TheVariants as word
use Rattle.gc_words.specs.Word.{IsInRange}
use Rattle.trace_types.specs.declared.operand.Operand.{Operand}
use Rattle.trace_types.specs.declared.operand.Operand.TheVariants.{Reg, Fixnum, Nil, True, False}
use Rattle.trace_types.specs.Values as values
use Rattle.trace_types.specs.States as states
use Rattle.trace_types.specs.States.{State, register_value}
use Rattle.trace_types.specs.WellFormed.{operand_fits}
use Rattle.heap_store.specs.Starts.{Starts, read, IsThere}
use Rattle.heap_store.specs.HeapView.{HeapView, starts_of}
use Rattle.heap_store.specs.Stands.{Stands}
use Rattle.heap_store.specs.Calls.{operand_value}
use Rattle.heap_store.proofs.Kept.{at_index}

pub read_at : (f : Starts) (vs : List Value) (k : ℕ) → get_or (map (read f) vs) k values.nil ≡ read f (get_or vs k word.Nil)
read_at f [] k = refl
read_at f (v ∷ vs) zero = refl
read_at f (v ∷ vs) (suc k) = read_at f vs k

pub in_range : (f : Starts) (v : Value) → IsThere f v → IsInRange v
in_range f (word.Fixnum n) h = h
in_range f word.Nil h = tt
in_range f word.True h = tt
in_range f word.False h = tt
in_range f word.Bwp h = tt
in_range f (word.Object a) h = tt

module _ (h : HeapView) (s : State) (stands : Stands h s) where
  pub register_there : (r : ℕ) → IsThere (starts_of h) (get_or h.registers r word.Nil)
  register_there r = at_index (IsThere (starts_of h)) word.Nil tt h.registers stands.registers.there r

  pub register_read : (r : ℕ) → register_value s r ≡ read (starts_of h) (get_or h.registers r word.Nil)
  register_read r = ap (λ vs. get_or vs r values.nil) stands.registers.reads ∙ read_at (starts_of h) h.registers r

  pub operand_there : (o : Operand) → IsTrue (operand_fits o) → IsThere (starts_of h) (operand_value h.registers o)
  operand_there (Reg r) fits = register_there r
  operand_there (Fixnum (pos n)) fits = ltb-true n (2 ^ 60) fits
  operand_there (Fixnum (negsuc n)) fits = ltb-true n (2 ^ 60) fits
  operand_there Nil fits = tt
  operand_there True fits = tt
  operand_there False fits = tt

  pub operand_read : (o : Operand) → states.operand_value s o ≡ read (starts_of h) (operand_value h.registers o)
  operand_read (Reg r) = register_read r
  operand_read (Fixnum n) = refl
  operand_read Nil = refl
  operand_read True = refl
  operand_read False = refl

  -- there are 4,096 registers
  pub register_count : length h.registers ≡ 4096
  register_count = sym (length-map h.registers (read (starts_of h))) ∙ sym (ap length stands.registers.reads) ∙ stands.well_formed.registers
