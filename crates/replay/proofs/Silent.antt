-- Which commands print nothing.
use Rattle.std.proofs.Common.{◌≡◌, ℕ, cond, Bool, true, false, List, [], Option, Some, None, Result, Ok, Err, IsTrue, refl}
use Rattle.trace_types.specs.declared.fault.Fault.{Fault}
use Rattle.trace_types.specs.declared.command.Command.{Command}
use Rattle.trace_types.specs.declared.command.Command.TheVariants.{Thread, Cons, Weak, Eph, MakeBox, Vector, Bytes, ImmVector, ImmBytes, Guard, OrderedGuard, Reg, Take, Get, Set, Mov, Lock, Unlock, Note, Check, Collect, Print, Census, Gen, Version, TablePut, TableGet, TableDel, Path, Size}
use Rattle.trace_types.specs.declared.operand.CollectArgs.TheVariants.{Plain, Explicit}
use Rattle.trace_types.specs.declared.kind.Kind.{Kind}
use Rattle.trace_types.specs.Values.{Value, Object}
use Rattle.trace_types.specs.Faults.{◌>>=◌}
use Rattle.trace_types.specs.States.{State, Answer, silently, register_value, operand_value}
use Rattle.trace_types.specs.Steps.{step, put_at, found_at, object_of, fielded_of, table_of, whole_key}
use Rattle.trace_types.specs.Tables.{entry_kind, where_in, free_in}
use Rattle.std.proofs.lemmas.Bool.{false≢true}

-- what an answer prints
abbrev pub text_of : Answer → List ℕ
text_of (Ok p) = p.1
text_of (Err f) = []

pub record IsSilent (a : Answer) : Type 0 where
  pub empty : text_of a ≡ []

-- the commands that print nothing
abbrev pub is_silent : Command → Bool
is_silent (Check k r) = false
is_silent (Print value) = false
is_silent Census = false
is_silent (Gen value) = false
is_silent (Path from to) = false
is_silent (Size from) = false
is_silent _ = true

refused : (f : Fault) → IsSilent (Err f)
refused f = record { empty = refl }

said : (s : State) → IsSilent (silently s)
said s = record { empty = refl }

then : {X : Type 0} (r : Result X Fault) (next : X → Answer) → ((x : X) → IsSilent (next x)) → IsSilent (r >>= next)
then (Ok x) next h = h x
then (Err f) next h = refused f

either : (b : Bool) (a other : Answer) → IsSilent a → IsSilent other → IsSilent (cond b a other)
either true a other h k = h
either false a other h k = k

put_silent : (s : State) (line d : ℕ) (table : ℕ × Object) (k : Kind) (key v : Value) (at free : Option ℕ) → IsSilent (put_at s line d table k key v at free)
put_silent s line d table k key v (Some slot) free = then _ _ (λ e. said _)
put_silent s line d table k key v None (Some slot) = said _
put_silent s line d table k key v None None = refused _

pub silent : (s : State) (n : ℕ) (c : Command) → IsTrue (is_silent c) → IsSilent (step s n c)
unfolding step
silent s n (Thread thread) h = said _
silent s n (Cons d car cdr) h = said _
silent s n (Weak d car cdr) h = said _
silent s n (Eph d key value) h = said _
silent s n (MakeBox d value) h = said _
silent s n (Vector d count value) h = either _ _ _ (said _) (refused _)
silent s n (Bytes d count byte) h = either _ _ _ (said _) (refused _)
silent s n (ImmVector d count value) h = either _ _ _ (said _) (refused _)
silent s n (ImmBytes d count byte) h = either _ _ _ (said _) (refused _)
silent s n (Guard d) h = said _
silent s n (OrderedGuard d) h = said _
silent s n (Reg guardian o representative) h = then _ _ (λ g. said _)
silent s n (Take d guardian) h = then _ _ (λ g. said _)
silent s n (Get d from index) h = then (fielded_of s (register_value s from)) _ (λ o. either _ _ _ (said _) (refused _))
silent s n (Set into index value) h = then (fielded_of s (register_value s into)) _ (λ o. either _ _ _ (refused _) (either _ _ _ (said _) (refused _)))
silent s n (Mov d value) h = said _
silent s n (Lock value) h = then _ _ (λ o. said _)
silent s n (Unlock value) h = then (object_of s (operand_value s value)) _ (λ o. either _ _ _ (refused _) (said _))
silent s n (Note k r) h = then (object_of s (register_value s r)) _ (λ o. either _ _ _ (said _) (refused _))
silent s n (Collect Plain) h = said _
silent s n (Collect (Explicit cg least greatest)) h = either _ _ _ (said _) (refused _)
silent s n Version h = either _ _ _ (said _) (refused _)
silent s n (TablePut d table mode key value) h =
    then (table_of s (register_value s table)) _ (λ t. then (whole_key (operand_value s key)) _ (λ k.
    put_silent s n d t (entry_kind mode) k (operand_value s value) (where_in s.graph t.1 k) (free_in s.graph t.1)))
silent s n (TableGet d table key) h =
    then (table_of s (register_value s table)) _ (λ t. then (whole_key (operand_value s key)) _ (λ k.
    then (found_at s t.1 (where_in s.graph t.1 k)) _ (λ v. said _)))
silent s n (TableDel table key) h =
    then (table_of s (register_value s table)) _ (λ t. then (whole_key (operand_value s key)) _ (λ k. said _))
silent s n (Check k r) h = absurd (false≢true h)
silent s n (Print value) h = absurd (false≢true h)
silent s n Census h = absurd (false≢true h)
silent s n (Gen value) h = absurd (false≢true h)
silent s n (Path from to) h = absurd (false≢true h)
silent s n (Size from) h = absurd (false≢true h)
