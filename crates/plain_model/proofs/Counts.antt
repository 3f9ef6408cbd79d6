-- No count of a state grows by more than one a line.
use Rattle.std.proofs.Common.{◌≡◌, ℕ, zero, suc, ◌+◌, ◌-◌, ◌<◌, Bool, true, false, ◌==◌, ◌&&◌, ◌||◌, cond, not, nat_le, nat_lt, List, [], ◌∷◌, length, All, Option, Some, None, Result, Ok, Err, refl, sym, subst, arith, slice_index_or, IsTrue}
use Rattle.std.specs.List.{AllByRecursion}
use Rattle.std.proofs.lemmas.List.Elements.{All-from_recursion, recursion_from_All}
use Rattle.trace_types.specs.declared.fault.Fault.{Fault}
use Rattle.trace_types.specs.declared.kind.Kind.{Kind}
use Rattle.trace_types.specs.declared.operand.CollectArgs.{CollectArgs}
use Rattle.trace_types.specs.declared.operand.CollectArgs.TheVariants.{Plain, Explicit}
use Rattle.trace_types.specs.declared.command.Command.{Command}
use Rattle.trace_types.specs.declared.command.Command.TheVariants as commands
use Rattle.trace_types.specs.Values.{Value, Object, has_bytes, is_byte, is_immobile}
use Rattle.trace_types.specs.States as states
use Rattle.trace_types.specs.States.{State, Answer, silently, lock_count, register_value, operand_value}
use Rattle.trace_types.specs.Faults.{◌>>=◌}
use Rattle.trace_types.specs.Collections.{collect, are_allowed}
use Rattle.trace_types.specs.Tables.{entry_kind, where_in, free_in}
use Rattle.trace_types.specs.Steps.{step, not_too_long, greatest_length, with_lock_count, take_first, checked, collected, put_at, emptied, object_of, guardian_of, fielded_of, table_of, whole_key, found_at, entry_in}
use Rattle.trace_types.specs.Reading.{read}
use Rattle.trace_types.specs.Runs.{performed, line_turn}
use Rattle.trace_types.specs.declared.limits.Limits.{Limits}
use Rattle.trace_types.specs.declared.fault.Fault.TheVariants.{TooLong, TooManyLines}
use Rattle.trace_types.proofs.Stepping.{each_put_any}
use Rattle.trace_types.proofs.Keeping.{each_filtered}
use Rattle.plain_model.specs.Stepping.{CountsBelow}
use Rattle.plain_model.proofs.Parts.{count_below}

-- the counts of the state of an answer
unfoldable Counted : ℕ → Answer → Type 0
Counted n (Ok p) = CountsBelow n p.0
Counted n (Err fault) = Unit {0}

module _ (line : ℕ) (s : State) (counts : CountsBelow line s) where
  -- the same counts, at the next line
  same : (t : State) → t.collects ≡ s.collects → t.locks ≡ s.locks → CountsBelow (line + 1) t
  same t collects locks = record {
    collects = let below = counts.collects in omega (arith, collects);
    locks = subst (λ es. All (λ entry. entry.1 < line + 1) es) (sym locks)
        (All-from_recursion _ s.locks (later s.locks (recursion_from_All (λ entry. entry.1 < line) s.locks counts.locks)));
  }
    where
      later : (es : List (ℕ × ℕ)) → AllByRecursion (λ entry. entry.1 < line) es → AllByRecursion (λ entry. entry.1 < line + 1) es
      later [] all = all
      later (e ∷ es) all = let below : e.1 < line = all.0 in (omega arith, later es all.1)

  kept : CountsBelow (line + 1) s
  kept = same s refl refl

  -- ---- answers

  told : (t : State) (text : List ℕ) → CountsBelow (line + 1) t → Counted (line + 1) (Ok (t, text))
  unfolding Counted
  told t text h = h

  left : (t : State) (text : List ℕ) → t.collects ≡ s.collects → t.locks ≡ s.locks → Counted (line + 1) (Ok (t, text))
  left t text collects locks = told t text (same t collects locks)

  failed : (fault : Fault) → Counted (line + 1) (Err fault)
  unfolding Counted
  failed fault = tt

  bound : {A : Type 0} (r : Result A Fault) (act : A → Answer) → ((a : A) → Counted (line + 1) (act a)) → Counted (line + 1) (r >>= act)
  bound (Ok a) act h = h a
  bound (Err fault) act h = failed fault

  chosen : (b : Bool) (one other : Answer) → Counted (line + 1) one → Counted (line + 1) other → Counted (line + 1) (cond b one other)
  chosen true one other h k = h
  chosen false one other h k = k

  -- ---- what changes the counts, or goes by cases

  recounted : (x n : ℕ) → n < line + 1 → CountsBelow (line + 1) (with_lock_count s x n)
  recounted x zero less = record {
    collects = kept.collects;
    locks = All-from_recursion _ _ (each_filtered (λ entry. entry.1 < line + 1) (λ entry. not (x == entry.0)) s.locks
        (any s.locks (recursion_from_All (λ entry. entry.1 < line + 1) s.locks kept.locks)));
  }
    where
      any : (es : List (ℕ × ℕ)) → AllByRecursion (λ entry. entry.1 < line + 1) es
          → AllByRecursion (λ entry. IsTrue (not (x == entry.0)) → entry.1 < line + 1) es
      any [] all = all
      any (e ∷ es) all = (λ _. all.0, any es all.1)
  recounted x (suc n) less = record {
    collects = kept.collects;
    locks = All-from_recursion _ _ (each_put_any x (suc n) (λ entry. entry.1 < line + 1) less s.locks
        (recursion_from_All (λ entry. entry.1 < line + 1) s.locks kept.locks));
  }

  locked_more : (x : ℕ) → CountsBelow (line + 1) (with_lock_count s x (lock_count s x + 1))
  locked_more x = let below = count_below line s x counts in recounted x (lock_count s x + 1) (omega arith)

  locked_less : (x : ℕ) → CountsBelow (line + 1) (with_lock_count s x (lock_count s x - 1))
  locked_less x = let below = count_below line s x counts in recounted x (lock_count s x - 1) (omega arith)

  taken : (d x : ℕ) (o : Object) (queue : List (Value × ℕ)) → CountsBelow (line + 1) (take_first s d x o queue)
  taken d x o [] = same (take_first s d x o []) refl refl
  taken d x o (entry ∷ rest) = same (take_first s d x o (entry ∷ rest)) refl refl

  emptied_kept : (table : ℕ × Object) (slot : Option ℕ) → CountsBelow (line + 1) (emptied s table slot)
  emptied_kept table None = kept
  emptied_kept table (Some slot) = same (emptied s table (Some slot)) refl refl

  put_kept : (n d : ℕ) (table : ℕ × Object) (kind : Kind) (key v : Value) (slot free : Option ℕ)
      → Counted (line + 1) (put_at s n d table kind key v slot free)
  put_kept n d table kind key v (Some slot) free = bound (entry_in s table.1 slot) _ (λ e. left _ _ refl refl)
  put_kept n d table kind key v None (Some slot) = left _ _ refl refl
  put_kept n d table kind key v None None = failed _

  check_kept : (k : ℕ) (v : Value) (note : states.Note) → Counted (line + 1) (checked s k v note)
  check_kept k v states.empty = failed _
  check_kept k v states.gone = told _ _ kept
  check_kept k v (states.set_to birth) = told _ _ kept

  collection_kept : (args : CollectArgs) → Counted (line + 1) (collected s args)
  unfolding collect
  collection_kept Plain = told _ _ (record { collects = let below = counts.collects in omega arith; locks = kept.locks })
  collection_kept (Explicit cg least greatest) =
      chosen (are_allowed s.version s.oldest (record { cg = cg; least = least; greatest = greatest })) _ _ (left _ _ refl refl) (failed _)

  copied : (n : ℕ) (t : State) → CountsBelow (line + 1) t → Counted (line + 1) (not_too_long s n (silently t))
  copied n t h = chosen (nat_le n (greatest_length s)) _ _ (told t [] h) (failed _)

  -- the counts of the state of a command's answer
  counted : (n : ℕ) (c : Command) → Counted (line + 1) (step s n c)
  unfolding step
  counted n (commands.Thread t) = left _ _ refl refl
  counted n (commands.Cons d car cdr) = left _ _ refl refl
  counted n (commands.Weak d car cdr) = left _ _ refl refl
  counted n (commands.Eph d key value) = left _ _ refl refl
  counted n (commands.MakeBox d value) = left _ _ refl refl
  counted n (commands.Vector d m value) = copied m _ (same _ refl refl)
  counted n (commands.Bytes d m byte) = copied m _ (same _ refl refl)
  counted n (commands.ImmVector d m value) = copied m _ (same _ refl refl)
  counted n (commands.ImmBytes d m byte) = copied m _ (same _ refl refl)
  counted n (commands.Guard d) = left _ _ refl refl
  counted n (commands.OrderedGuard d) = left _ _ refl refl
  counted n (commands.Reg guardian o representative) =
      bound (guardian_of s (register_value s guardian)) _ (λ g. left _ _ refl refl)
  counted n (commands.Take d guardian) =
      bound (guardian_of s (register_value s guardian)) _ (λ g. told _ _ (taken d g.0 g.1 g.1.queue))
  counted n (commands.Get d from index) =
      bound (fielded_of s (register_value s from)) _ (λ o. chosen (nat_lt index (length o.1.fields)) _ _ (left _ _ refl refl) (failed _))
  counted n (commands.Set into index value) =
      bound (fielded_of s (register_value s into)) _ (λ o.
      chosen (has_bytes o.1.kind && not (is_byte (operand_value s value))) _ _ (failed _)
      (chosen (nat_lt index (length o.1.fields)) _ _ (left _ _ refl refl) (failed _)))
  counted n (commands.Mov d value) = left _ _ refl refl
  counted n (commands.Lock value) = bound (object_of s (operand_value s value)) _ (λ o. told _ _ (locked_more o.0))
  counted n (commands.Unlock value) =
      bound (object_of s (operand_value s value)) _ (λ o.
      chosen (lock_count s o.0 == 0) _ _ (failed _) (told _ _ (locked_less o.0)))
  counted n (commands.Note k r) =
      bound (object_of s (register_value s r)) _ (λ o.
      chosen (is_immobile o.1.kind || nat_lt 0 (lock_count s o.0)) _ _ (left _ _ refl refl) (failed _))
  counted n (commands.Check k r) = check_kept k (register_value s r) (slice_index_or s.notes k states.empty)
  counted n (commands.Collect args) = collection_kept args
  counted n (commands.Print value) = told _ _ kept
  counted n commands.Census = told _ _ kept
  counted n (commands.Gen value) = told _ _ kept
  counted n commands.Version = chosen (n == 1) _ _ (left _ _ refl refl) (failed _)
  counted n (commands.TablePut d table mode key value) =
      bound (table_of s (register_value s table)) _ (λ t. bound (whole_key (operand_value s key)) _ (λ k.
      put_kept n d t (entry_kind mode) k (operand_value s value) (where_in s.graph t.1 k) (free_in s.graph t.1)))
  counted n (commands.TableGet d table key) =
      bound (table_of s (register_value s table)) _ (λ t. bound (whole_key (operand_value s key)) _ (λ k.
      bound (found_at s t.1 (where_in s.graph t.1 k)) _ (λ v. left _ _ refl refl)))
  counted n (commands.TableDel table key) =
      bound (table_of s (register_value s table)) _ (λ t. bound (whole_key (operand_value s key)) _ (λ k.
      told _ _ (emptied_kept t (where_in s.graph t.1 k))))
  counted n (commands.Path from to) =
      bound (object_of s (register_value s from)) _ (λ a. bound (object_of s (operand_value s to)) _ (λ b. told _ _ kept))
  counted n (commands.Size from) = told _ _ kept

  line_counted : (r : Result (Option Command) Fault) → Counted (line + 1) (performed step s line r)
  line_counted (Err fault) = failed fault
  line_counted (Ok None) = told _ _ kept
  line_counted (Ok (Some c)) = counted line c

-- a line leaves the counts below the next line
pub turn_counts : (limits : Limits) (n : ℕ) (line : List ℕ) (s t : State) (text : List ℕ) → CountsBelow n s
    → line_turn step limits s n line ≡ Ok (t, text) → CountsBelow (n + 1) t
unfolding Counted
turn_counts limits n line s t text counts e = subst (Counted (n + 1)) e
    (chosen n s counts (nat_lt 1024 (length line)) _ _ (failed n s counts TooLong)
    (chosen n s counts (nat_lt limits.max_lines n) _ _ (failed n s counts TooManyLines) (line_counted n s counts (read line))))
