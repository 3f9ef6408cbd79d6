-- No line of a workload is refused: its registers hold what its lines need.
use Rattle.std.proofs.Common.{◌≡◌, ℕ, zero, suc, ◌+◌, ◌-◌, ◌%◌, ◌≤◌, ◌<◌, ◌⊎◌, pos, Bool, true, false, not, ◌&&◌, ◌==◌, List, [], ◌∷◌, ◌++◌, length, set, slice_index_or, replicate, cond, IsTrue, Option, Some, None, option_map, Ok, Err, refl, sym, ap, subst, ◌∙◌, arith, nat_lt, nat_le, codes, decimal, inl, inr}
use Rattle.std.proofs.lemmas.Bool.{or_left, or_right, cases_Bool, eqb-true, eqb-false, eq-eqb, ne_eqb, cond-true, cond-false, ltb-true, lt-ltb, le-leb, leb-true, leb-false, false≢true}
use Rattle.std.proofs.lemmas.List.{get_or-set_same, get_or-set_other}
use Rattle.std.proofs.lemmas.List.Elements.{recursion_from_All}
use Rattle.std.specs.Fmt.{digits}
use Rattle.trace_types.specs.declared.kind.Kind.{Kind}
use Rattle.trace_types.specs.declared.kind.Kind.TheVariants as kinds
use Rattle.trace_types.specs.declared.fault.Fault.{Fault}
use Rattle.trace_types.specs.declared.fault.Fault.TheVariants.{WrongKind, BadIndex, BadLength, TooLong, TooManyLines}
use Rattle.trace_types.specs.declared.operand.Operand.{Operand}
use Rattle.trace_types.specs.declared.operand.Operand.TheVariants.{Fixnum, Nil}
use Rattle.trace_types.specs.declared.operand.CollectArgs.TheVariants.{Plain}
use Rattle.trace_types.specs.declared.command.Command.{Command}
use Rattle.trace_types.specs.declared.command.Command.TheVariants as commands
use Rattle.trace_types.specs.declared.limits.Limits.{Limits}
use Rattle.trace_types.specs.Faults.{◌>>=◌}
use Rattle.trace_types.specs.Values.{Value, nil, object, object_in, objects_in, Object, object_at, is_guardian, has_bytes, is_byte}
use Rattle.trace_types.specs.States.{State, Registration, opening, silently, locked, register_value, operand_value, with_register, with_object, with_field, with_new, new_object}
use Rattle.trace_types.specs.Tables.{is_entry}
use Rattle.trace_types.specs.Rules.{has}
use Rattle.trace_types.specs.Kept.{kept, older}
use Rattle.trace_types.specs.Collections.{Arguments, collect, object_left, plain_arguments}
use Rattle.trace_types.specs.WellFormed.{IsWellFormed, IsObject, AllBefore, has_its_fields, greatest_line}
use Rattle.trace_types.specs.Steps.{found_object, guardian_of, fielded_of, within, greatest_length, with_registration, take_first, step}
use Rattle.trace_types.specs.Reading.{register, value, count, thread, is_skipped, three_operands, command_in, read}
use Rattle.trace_types.specs.Run.{Ran, after_text, run_from}
use Rattle.trace_types.specs.Runs.{performed, line_turn, run}
use Rattle.trace_types.specs.Printing.{census_text}
use Rattle.trace_types.specs.Workloads.{words, reg, next_state, drawn, drawn_line, drawn_from, workload_line, state_after_line, workload_from, generated}
use Rattle.trace_types.proofs.Least.{has-append}
use Rattle.trace_types.proofs.Meeting.{each_found}
use Rattle.trace_types.proofs.Graphs.{object_at-put}
use Rattle.trace_types.proofs.Stepping.{births_before}
use Rattle.trace_types.proofs.Phases.{accessible_kept, roots_accessible}
use Rattle.trace_types.proofs.Finding.{left_found}
use Rattle.trace_types.proofs.Ranges.{entry_has_values}
use Rattle.trace_types.proofs.Wording.{is_word, small, thread_read, read-words, three-ok, two-ok, one-ok}
use Rattle.trace_types.proofs.RunLaws.{run-nil, run-goes}
use Rattle.trace_types.proofs.Lasting.{Lasts, turn_lasts}
use Rattle.trace_types.proofs.Opening.{opening_well_formed}
use Rattle.trace_types.proofs.Generating.{workload_lines, four_short, three_short, two_short, register_short, number_short}

-- ---- what registers hold

-- the value is an object of a kind that passes the test
abbrev pub Holds : (Kind → Bool) → State → Value → Type 0
Holds test s v = (x : ℕ) × (o : Object) × (v ≡ object x) × (object_at s.graph x ≡ Some o) × IsTrue (test o.kind)

abbrev pub At : (Kind → Bool) → State → ℕ → Type 0
At test s r = Holds test s (register_value s r)

-- every register but d holds what it did
abbrev pub Keeps : ℕ → State → State → Type 0
Keeps d s t = (test : Kind → Bool) (r : ℕ) → (r ≡ d → ⊥) → At test s r → At test t r

keeps_register : (s : State) (d : ℕ) (v : Value) → Keeps d s (with_register s d v)
keeps_register s d v test r other h = (h.0, h.1, get_or-set_other s.registers d r v nil other ∙ h.2, h.3, h.4)

-- an object more
keeps_new : (s : State) (line : ℕ) (new : Object) → AllBefore s line → (test : Kind → Bool) (r : ℕ) → At test s r → At test (with_object s line new) r
keeps_new s line new before test r h =
    let below = ltb-true h.0 line (each_found (λ y q. IsTrue (nat_lt y line)) s.graph (births_before s line before) h.0 h.1 h.3) in
    (h.0, h.1, h.2, object_at-put s.graph line new h.0 ∙ cond-false (h.0 == line) (Some new) (object_at s.graph h.0) (ne_eqb h.0 line (λ same. omega arith)) ∙ h.3, h.4)

-- a changed object of the same kind
keeps_changed : (s : State) (x : ℕ) (o new : Object) → object_at s.graph x ≡ Some o → new.kind ≡ o.kind → (test : Kind → Bool) (r : ℕ) → At test s r → At test (with_object s x new) r
keeps_changed s x o new found same test r h =
    elim (cases_Bool (h.0 == x)) [
      | inl here ↦
          let one : h.1 ≡ o = same_object (sym h.3 ∙ ap (object_at s.graph) (eqb-true h.0 x here) ∙ found) in
          (h.0, new, h.2, object_at-put s.graph x new h.0 ∙ cond-true (h.0 == x) (Some new) (object_at s.graph h.0) here, ap test (same ∙ sym (ap (λ (q : Object). q.kind) one)) ∙ h.4)
      | inr other ↦ (h.0, h.1, h.2, object_at-put s.graph x new h.0 ∙ cond-false (h.0 == x) (Some new) (object_at s.graph h.0) other ∙ h.3, h.4)
    ]
  where
    same_object : {a b : Object} → Some a ≡ Some b → a ≡ b
    same_object e = cc

slot_has : (vs : List Value) (r x : ℕ) → slice_index_or vs r nil ≡ object x → IsTrue (has (objects_in vs) x)
slot_has [] r x e = absurd (no_object e)
  where
    no_object : nil ≡ object x → ⊥
    no_object e = cc
slot_has (v ∷ vs) zero x e =
    subst (λ w. IsTrue (has (objects_in (w ∷ vs)) x)) (sym e) (or_left (x == x) (has (objects_in vs) x) (eq-eqb x x refl))
slot_has (v ∷ vs) (suc r) x e = by_value v (slot_has vs r x e)
  where
    by_value : (v : Value) → IsTrue (has (objects_in vs) x) → IsTrue (has (objects_in (v ∷ vs)) x)
    by_value v h = has-append (object_in v) (objects_in vs) x ∙ or_right (has (object_in v) x) (has (objects_in vs) x) h

keeps_collected : (s : State) (a : Arguments) (test : Kind → Bool) (r : ℕ) → At test s r → At test (collect s a) r
unfolding collect
keeps_collected s a test r h =
    let rooted = has-append (objects_in s.registers ++ locked s) (older s a.cg) h.0 ∙ or_left (has (objects_in s.registers ++ locked s) h.0) (has (older s a.cg) h.0)
    (has-append (objects_in s.registers) (locked s) h.0 ∙ or_left (has (objects_in s.registers) h.0) (has (locked s) h.0) (slot_has s.registers r h.0 h.2)) in
    let there = accessible_kept s a.cg h.0 (roots_accessible s a.cg h.0 rooted) in
    (h.0, object_left s a h.0 h.1, h.2, left_found s a h.0 ∙ cond-true (has (kept s a.cg) h.0) (option_map (object_left s a h.0) (object_at s.graph h.0)) None there ∙ ap (option_map (object_left s a h.0)) h.3, h.4)

-- what a new object is
made_at : (s : State) (line d : ℕ) (kind : Kind) (fields : List Value) (test : Kind → Bool) → IsWellFormed s → d < 4096 → IsTrue (test kind) → At test (with_new s line d kind fields) d
made_at s line d kind fields test well small is = (
  line,
  new_object s kind fields,
  get_or-set_same s.registers d (object line) nil (let all = well.registers in omega (arith, all)),
  object_at-put s.graph line (new_object s kind fields) line ∙ cond-true (line == line) (Some (new_object s kind fields)) (object_at s.graph line) (eq-eqb line line refl),
  is,
)

keeps_made : (s : State) (line d : ℕ) (kind : Kind) (fields : List Value) → AllBefore s line → Keeps d s (with_new s line d kind fields)
keeps_made s line d kind fields before test r other h = keeps_register (with_object s line (new_object s kind fields)) d (object line) test r other (keeps_new s line (new_object s kind fields) before test r h)

-- ---- stages

-- after so many lines: pairs in the first 64 registers, then two guardians
pub record Stage (n : ℕ) (s : State) : Type 0 where
  pub pairs : (r : ℕ) → r < 64 → r < n → At is_entry s r
  pub first : 64 < n → At is_guardian s 64
  pub second : 65 < n → At is_guardian s 65

moved : (n d : ℕ) (s t : State) → Keeps d s t → (d < 64 → At is_entry t d) → (64 ≡ d → ⊥) → (65 ≡ d → ⊥) → Stage n s → Stage n t
moved n d s t keeps new one two stage = record {
  pairs = λ r small there. elim (cases_Bool (r == d)) [
    | inl same ↦ let e = eqb-true r d same in subst (At is_entry t) (sym e) (new (omega (arith, e)))
    | inr other ↦ keeps is_entry r (eqb-false r d other) (stage.pairs r small there)
  ];
  first = λ there. keeps is_guardian 64 one (stage.first there);
  second = λ there. keeps is_guardian 65 two (stage.second there);
}

same_stage : (n : ℕ) (s t : State) → ((test : Kind → Bool) (r : ℕ) → At test s r → At test t r) → Stage n s → Stage n t
same_stage n s t keeps stage = record {
  pairs = λ r small there. keeps is_entry r (stage.pairs r small there);
  first = λ there. keeps is_guardian 64 (stage.first there);
  second = λ there. keeps is_guardian 65 (stage.second there);
}

-- ---- commands that are not refused

record IsPairKind (kind : Kind) (fields : List Value) : Type 0 where
  open_kind : is_guardian kind ≡ false
  two_fields : length fields ≡ 2

pair_kind : (kind : Kind) (fields : List Value) → IsTrue (is_entry kind) → IsTrue (has_its_fields kind fields) → IsPairKind kind fields
pair_kind kinds.Pair fields h k = record { open_kind = refl; two_fields = eqb-true (length fields) 2 k }
pair_kind kinds.Weak fields h k = record { open_kind = refl; two_fields = eqb-true (length fields) 2 k }
pair_kind kinds.Eph fields h k = record { open_kind = refl; two_fields = eqb-true (length fields) 2 k }
pair_kind kinds.Boxed fields h k = absurd (false≢true h)
pair_kind kinds.Vector fields h k = absurd (false≢true h)
pair_kind kinds.Bytes fields h k = absurd (false≢true h)
pair_kind kinds.ImmVector fields h k = absurd (false≢true h)
pair_kind kinds.ImmBytes fields h k = absurd (false≢true h)
pair_kind kinds.Guard fields h k = absurd (false≢true h)
pair_kind kinds.OrderedGuard fields h k = absurd (false≢true h)
pair_kind kinds.Cell fields h k = absurd (false≢true h)

guardian_found : (s : State) (v : Value) (h : Holds is_guardian s v) → guardian_of s v ≡ Ok (h.0, h.1)
guardian_found s v h =
    ap (guardian_of s) h.2
    ∙ ap (λ r. found_object h.0 r >>= λ g. cond (is_guardian g.1.kind) (Ok g) (Err WrongKind)) h.3
    ∙ cond-true (is_guardian h.1.kind) (Ok (h.0, h.1)) (Err WrongKind) h.4

fielded_found : (s : State) (v : Value) (h : Holds is_entry s v) → is_guardian h.1.kind ≡ false → fielded_of s v ≡ Ok (h.0, h.1)
fielded_found s v h open_kind =
    ap (fielded_of s) h.2
    ∙ ap (λ r. found_object h.0 r >>= λ o. cond (is_guardian o.1.kind) (Err WrongKind) (Ok o)) h.3
    ∙ cond-false (is_guardian h.1.kind) (Err WrongKind) (Ok (h.0, h.1)) open_kind

-- the command goes, and leaves the stage
record Goes (n : ℕ) (s : State) (line : ℕ) (c : Command) : Type 0 where
  answer : State × List ℕ
  goes : step s line c ≡ Ok answer
  stage : Stage n answer.0

module _ (n : ℕ) (s : State) (line : ℕ) (well : IsWellFormed s) (before : AllBefore s line) (stage : Stage n s) where
  abbrev Made : ℕ → Kind → List Value → State
  Made d kind fields = with_new s line d kind fields

  made_stage : (d : ℕ) (kind : Kind) (fields : List Value) → d < 64 → IsTrue (is_entry kind) → Stage n (Made d kind fields)
  made_stage d kind fields few is = moved n d s (Made d kind fields) (keeps_made s line d kind fields before) (λ _. made_at s line d kind fields is_entry well (omega arith) is) (λ e. omega arith) (λ e. omega arith) stage

  cons_goes : (d : ℕ) (a b : Operand) → d < 64 → Goes n s line (commands.Cons d a b)
  unfolding step
  cons_goes d a b few = record { answer = (Made d kinds.Pair (operand_value s a ∷ operand_value s b ∷ []), []); goes = refl; stage = made_stage d kinds.Pair _ few refl }

  weak_goes : (d : ℕ) (a b : Operand) → d < 64 → Goes n s line (commands.Weak d a b)
  unfolding step
  weak_goes d a b few = record { answer = (Made d kinds.Weak (operand_value s a ∷ operand_value s b ∷ []), []); goes = refl; stage = made_stage d kinds.Weak _ few refl }

  eph_goes : (d : ℕ) (a b : Operand) → d < 64 → Goes n s line (commands.Eph d a b)
  unfolding step
  eph_goes d a b few = record { answer = (Made d kinds.Eph (operand_value s a ∷ operand_value s b ∷ []), []); goes = refl; stage = made_stage d kinds.Eph _ few refl }

  vector_goes : (b : ℕ) (v : Operand) → b < 64 → Goes n s line (commands.Vector 67 b v)
  unfolding step
  vector_goes b v few = record {
    answer = (Made 67 kinds.Vector (replicate b (operand_value s v)), []);
    goes = cond-true (nat_le b (greatest_length s)) _ (Err BadLength) (le-leb b (greatest_length s) most);
    stage = moved n 67 s (Made 67 kinds.Vector (replicate b (operand_value s v))) (keeps_made s line 67 kinds.Vector _ before) (λ e. absurd (omega arith)) (λ e. omega arith) (λ e. omega arith) stage;
  }
    where
      most : b ≤ greatest_length s
      most = elim (s.version == 2) as (λ t. b ≤ cond t 4000000 1000000) [ true ↦ omega arith | false ↦ omega arith ]

  thread_goes : (t : ℕ) → Goes n s line (commands.Thread t)
  unfolding step
  thread_goes t = record { answer = (record s { thread = t }, []); goes = refl; stage = same_stage n s (record s { thread = t }) (λ test r h. h) stage }

  collect_goes : Goes n s line (commands.Collect Plain)
  unfolding step
  collect_goes =
      let counted : State = record s { collects = s.collects + 1 } in
      let a = plain_arguments s.oldest (s.collects + 1) in
      record { answer = (collect counted a, []); goes = refl; stage = same_stage n s (collect counted a) (λ test r h. keeps_collected counted a test r h) stage }

  reg_goes : (g : ℕ) (o : Operand) → At is_guardian s g → Goes n s line (commands.Reg g o None)
  unfolding step
  reg_goes g o h =
      let r : ℕ → Registration = λ x. record { line = line; guardian = x; object = operand_value s o; representative = operand_value s o } in
      record {
        answer = (with_registration s (r h.0), []);
        goes = ap (λ found. found >>= λ q. silently (with_registration s (r q.0))) (guardian_found s (register_value s g) h);
        stage = same_stage n s (with_registration s (r h.0)) (λ test q k. k) stage;
      }

  take_goes : (g : ℕ) → At is_guardian s g → Goes n s line (commands.Take 66 g)
  unfolding step
  take_goes g h = record {
    answer = (take_first s 66 h.0 h.1 h.1.queue, []);
    goes = ap (λ found. found >>= λ q. silently (take_first s 66 q.0 q.1 q.1.queue)) (guardian_found s (register_value s g) h);
    stage = by_queue h.1.queue;
  }
    where
      by_queue : (queue : List (Value × ℕ)) → Stage n (take_first s 66 h.0 h.1 queue)
      by_queue [] = moved n 66 s (take_first s 66 h.0 h.1 []) (keeps_register s 66 _) (λ e. absurd (omega arith)) (λ e. omega arith) (λ e. omega arith) stage
      by_queue (entry ∷ rest) =
          moved n 66 s (take_first s 66 h.0 h.1 (entry ∷ rest))
          (λ test r other k. keeps_register (with_object s h.0 (record (h.1) { queue = rest })) 66 entry.0 test r other (keeps_changed s h.0 h.1 (record (h.1) { queue = rest }) h.3 refl test r k))
          (λ e. absurd (omega arith)) (λ e. omega arith) (λ e. omega arith) stage

  set_goes : (p e : ℕ) (v : Operand) → e < 2 → At is_entry s p → Goes n s line (commands.Set p e v)
  unfolding step
  set_goes p e v few h =
      let is = each_found (λ x o. IsObject s.version s.oldest o) s.graph (recursion_from_All (λ q. IsObject s.version s.oldest q.1) s.graph well.objects) h.0 h.1 h.3 in
      let pair = pair_kind h.1.kind h.1.fields h.4 is.fields in
      let two = pair.two_fields in
      record {
        answer = (with_field s h.0 h.1 e (operand_value s v), []);
        goes =
            ap (λ found. found >>= λ o. cond (has_bytes o.1.kind && not (is_byte (operand_value s v))) (Err WrongKind) (within o.1 e (silently (with_field s o.0 o.1 e (operand_value s v))))) (fielded_found s (register_value s p) h pair.open_kind)
            ∙ cond-false (has_bytes h.1.kind && not (is_byte (operand_value s v))) (Err WrongKind) _ (ap (λ b. b && not (is_byte (operand_value s v))) (entry_has_values h.1.kind h.4))
            ∙ cond-true (nat_lt e (length h.1.fields)) _ (Err BadIndex) (lt-ltb e (length h.1.fields) (omega (arith, two)));
        stage = same_stage n s (with_field s h.0 h.1 e (operand_value s v)) (keeps_changed s h.0 h.1 (record (h.1) { fields = set h.1.fields e (operand_value s v) }) h.3 refl) stage;
      }

-- ---- lines that are not refused

-- the line goes, and leaves the stage
record LineGoes (limits : Limits) (n : ℕ) (s : State) (i : ℕ) (line : List ℕ) : Type 0 where
  answer : State × List ℕ
  goes : line_turn step limits s i line ≡ Ok answer
  stage : Stage n answer.0

module _ (limits : Limits) (n : ℕ) (s : State) (i : ℕ) (within : i ≤ limits.max_lines) where
  line_goes : (line : List ℕ) (c : Command) → length line ≤ 1024 → read line ≡ Ok (Some c) → Goes n s i c → LineGoes limits n s i line
  line_goes line c short e go = record {
    answer = go.answer;
    goes =
        cond-false (nat_lt 1024 (length line)) (Err TooLong) _ (not_less 1024 (length line) short)
        ∙ cond-false (nat_lt limits.max_lines i) (Err TooManyLines) _ (not_less limits.max_lines i within)
        ∙ ap (performed step s i) e ∙ go.goes;
    stage = go.stage;
  }
    where
      not_less : (a b : ℕ) → b ≤ a → nat_lt a b ≡ false
      not_less a b h = elim (cases_Bool (nat_lt a b)) [ inl less ↦ let l = ltb-true a b less in absurd (omega arith) | inr more ↦ more ]

  either_goes : (b : Bool) (one other : List ℕ) → LineGoes limits n s i one → LineGoes limits n s i other → LineGoes limits n s i (cond b one other)
  either_goes true one other h k = h
  either_goes false one other h k = k

  module _ (well : IsWellFormed s) (before : AllBefore s i) (stage : Stage n s) (enough : 66 ≤ n) where
    -- three operands that are registers
    registers_go : (w : List ℕ) (make : ℕ → Operand → Operand → Command) (p q b : ℕ) → p < 64 → q < 64 → b < 68 → IsTrue (is_word w) → length w ≤ 8
        → is_skipped (words (w ∷ reg p ∷ reg q ∷ reg b ∷ [])) ≡ false
        → command_in (w ∷ reg p ∷ reg q ∷ reg b ∷ []) ≡ three_operands register value value make (reg p ∷ reg q ∷ reg b ∷ [])
        → Goes n s i (make p (Operand.Reg q) (Operand.Reg b)) → LineGoes limits n s i (words (w ∷ reg p ∷ reg q ∷ reg b ∷ []))
    registers_go w make p q b hp hq hb word long first e go =
        let sp = small p (omega arith) in
        let sq = small q (omega arith) in
        let sb = small b hb in
        line_goes (words (w ∷ reg p ∷ reg q ∷ reg b ∷ [])) (make p (Operand.Reg q) (Operand.Reg b))
        (four_short w (reg p) (reg q) (reg b) long (register_short p (omega arith)) (register_short q (omega arith)) (register_short b hb))
        (read-words w (reg p ∷ reg q ∷ reg b ∷ []) (make p (Operand.Reg q) (Operand.Reg b)) (word, (sp.register_word, (sq.register_word, (sb.register_word, tt)))) first
        (e ∙ three-ok register value value make (reg p) (reg q) (reg b) p (Operand.Reg q) (Operand.Reg b) sp.register_read sq.value_read sb.value_read))
        go

    cons_line : (p q b : ℕ) → p < 64 → q < 64 → b < 68 → LineGoes limits n s i (words (codes "cons" ∷ reg p ∷ reg q ∷ reg b ∷ []))
    cons_line p q b hp hq hb = registers_go (codes "cons") commands.Cons p q b hp hq hb refl (omega arith) refl refl (cons_goes n s i well before stage p _ _ hp)

    weak_line : (p q b : ℕ) → p < 64 → q < 64 → b < 64 → LineGoes limits n s i (words (codes "weak" ∷ reg p ∷ reg q ∷ reg b ∷ []))
    weak_line p q b hp hq hb = registers_go (codes "weak") commands.Weak p q b hp hq (omega arith) refl (omega arith) refl refl (weak_goes n s i well before stage p _ _ hp)

    eph_line : (p q b : ℕ) → p < 64 → q < 64 → b < 64 → LineGoes limits n s i (words (codes "eph" ∷ reg p ∷ reg q ∷ reg b ∷ []))
    eph_line p q b hp hq hb = registers_go (codes "eph") commands.Eph p q b hp hq (omega arith) refl (omega arith) refl refl (eph_goes n s i well before stage p _ _ hp)

    set_line : (p e q : ℕ) → p < 64 → e < 2 → q < 68 → LineGoes limits n s i (words (codes "set" ∷ reg p ∷ decimal e ∷ reg q ∷ []))
    set_line p e q hp he hq =
        let sp = small p (omega arith) in
        let se = small e (omega arith) in
        let sq = small q hq in
        line_goes (words (codes "set" ∷ reg p ∷ decimal e ∷ reg q ∷ [])) (commands.Set p e (Operand.Reg q))
        (four_short (codes "set") (reg p) (decimal e) (reg q) (omega arith) (register_short p (omega arith)) (number_short e (omega arith)) (register_short q hq))
        (read-words (codes "set") (reg p ∷ decimal e ∷ reg q ∷ []) _ (refl, (sp.register_word, (se.number_word, (sq.register_word, tt)))) refl
        (three-ok register count value commands.Set (reg p) (decimal e) (reg q) p e (Operand.Reg q) sp.register_read se.count_read sq.value_read))
        (set_goes n s i well before stage p e (Operand.Reg q) he (stage.pairs p hp (omega arith)))

    vector_line : (b q : ℕ) → b < 64 → q < 64 → LineGoes limits n s i (words (codes "vec" ∷ codes "r67" ∷ decimal b ∷ reg q ∷ []))
    vector_line b q hb hq =
        let sb = small b (omega arith) in
        let sq = small q (omega arith) in
        line_goes (words (codes "vec" ∷ codes "r67" ∷ decimal b ∷ reg q ∷ [])) (commands.Vector 67 b (Operand.Reg q))
        (four_short (codes "vec") (codes "r67") (decimal b) (reg q) (omega arith) (omega arith) (number_short b (omega arith)) (register_short q (omega arith)))
        (read-words (codes "vec") (codes "r67" ∷ decimal b ∷ reg q ∷ []) _ (refl, (refl, (sb.number_word, (sq.register_word, tt)))) refl
        (three-ok register count value commands.Vector (codes "r67") (decimal b) (reg q) 67 b (Operand.Reg q) refl sb.count_read sq.value_read))
        (vector_goes n s i well before stage b (Operand.Reg q) hb)

    reg_line : (g p : ℕ) → g < 68 → p < 64 → At is_guardian s g → LineGoes limits n s i (words (codes "reg" ∷ reg g ∷ reg p ∷ []))
    reg_line g p hg hp h =
        let sg = small g hg in
        let sp = small p (omega arith) in
        line_goes (words (codes "reg" ∷ reg g ∷ reg p ∷ [])) (commands.Reg g (Operand.Reg p) None)
        (three_short (codes "reg") (reg g) (reg p) (omega arith) (register_short g hg) (register_short p (omega arith)))
        (read-words (codes "reg") (reg g ∷ reg p ∷ []) _ (refl, (sg.register_word, (sp.register_word, tt))) refl
        (two-ok register value (λ guardian o. commands.Reg guardian o None) (reg g) (reg p) g (Operand.Reg p) sg.register_read sp.value_read))
        (reg_goes n s i well before stage g (Operand.Reg p) h)

    take_line : (g : ℕ) → g < 68 → At is_guardian s g → LineGoes limits n s i (words (codes "take" ∷ codes "r66" ∷ reg g ∷ []))
    take_line g hg h =
        let sg = small g hg in
        line_goes (words (codes "take" ∷ codes "r66" ∷ reg g ∷ [])) (commands.Take 66 g)
        (three_short (codes "take") (codes "r66") (reg g) (omega arith) (omega arith) (register_short g hg))
        (read-words (codes "take") (codes "r66" ∷ reg g ∷ []) _ (refl, (refl, (sg.register_word, tt))) refl
        (two-ok register register commands.Take (codes "r66") (reg g) 66 g refl sg.register_read))
        (take_goes n s i well before stage g h)

    thread_line : (t : ℕ) → t < 64 → LineGoes limits n s i (words (codes "thread" ∷ decimal t ∷ []))
    thread_line t ht =
        let st = small t (omega arith) in
        line_goes (words (codes "thread" ∷ decimal t ∷ [])) (commands.Thread t)
        (two_short (codes "thread") (decimal t) (omega arith) (number_short t (omega arith)))
        (read-words (codes "thread") (decimal t ∷ []) _ (refl, (st.number_word, tt)) refl
        (one-ok thread commands.Thread (decimal t) t (thread_read t ht)))
        (thread_goes n s i well before stage t)

    collect_line : LineGoes limits n s i (codes "collect")
    collect_line = line_goes (codes "collect") (commands.Collect Plain) (omega arith) (read-words (codes "collect") [] _ (refl, tt) refl refl) (collect_goes n s i well before stage)

    first_at : At is_guardian s 64
    first_at = stage.first (omega arith)

    second_at : At is_guardian s 65
    second_at = stage.second (omega arith)

    guardian_at : (e : ℕ) → e < 2 → At is_guardian s (64 + e)
    guardian_at zero h = first_at
    guardian_at (suc zero) h = second_at
    guardian_at (suc (suc e)) h = absurd (omega arith)

    drawn_goes : (a p q b : ℕ) → p < 64 → q < 64 → b < 64 → LineGoes limits n s i (drawn_line a p q b)
    unfolding digits
    drawn_goes a p q b hp hq hb =
        either_goes (nat_lt a 4) _ _ (cons_line p q b hp hq (omega arith))
        (either_goes (a == 4) _ _ (weak_line p q b hp hq hb)
        (either_goes (a == 5) _ _ (eph_line p q b hp hq hb)
        (either_goes (nat_lt a 9) _ _ (set_line p (b % 2) q hp (omega arith) (omega arith))
        (either_goes (a == 9) _ _ (reg_line 64 p (omega arith) hp first_at)
        (either_goes (a == 10) _ _ (reg_line 65 p (omega arith) hp second_at)
        (either_goes (a == 11) _ _ (take_line (64 + b % 2) (omega arith) (guardian_at (b % 2) (omega arith)))
        (either_goes (a == 12) _ _ (thread_line (b % 8) (omega arith))
        (either_goes (a == 13) _ _ (vector_line b q hb hq)
        (either_goes (a == 14) _ _ (set_line p 1 67 hp (omega arith) (omega arith))
        (either_goes (nat_lt b 8) _ _ collect_line (cons_line p q 66 hp hq (omega arith))))))))))))

    draws_go : (x : ℕ) → LineGoes limits n s i (drawn_from x)
    draws_go x =
        let first = next_state x in
        let second = next_state first in
        let third = next_state second in
        let fourth = next_state third in
        drawn_goes (drawn first % 16) (drawn second % 64) (drawn third % 64) (drawn fourth % 64) (below (drawn second)) (below (drawn third)) (below (drawn fourth))
      where
        below : (k : ℕ) → k % 64 < 64
        below k = omega arith

-- ---- from line to line

-- a stage in which all is there is the next one too
later_stage : (n : ℕ) (s : State) → 66 ≤ n → Stage n s → Stage (suc n) s
later_stage n s all stage = record {
  pairs = λ r small there. stage.pairs r small (omega arith);
  first = λ there. stage.first (omega arith);
  second = λ there. stage.second (omega arith);
}

module _ (limits : Limits) (n : ℕ) (s : State) (within : suc n ≤ limits.max_lines) (well : IsWellFormed s) (before : AllBefore s (suc n)) (stage : Stage n s) where
  -- one of the first 64 lines, which fills a register more
  filled : n < 64 → LineGoes limits (suc n) s (suc n) (words (codes "cons" ∷ reg n ∷ decimal (suc n) ∷ codes "nil" ∷ []))
  unfolding step
  filled few =
      let sn = small n (omega arith) in
      let sm = small (suc n) (omega arith) in
      line_goes limits (suc n) s (suc n) within (words (codes "cons" ∷ reg n ∷ decimal (suc n) ∷ codes "nil" ∷ [])) (commands.Cons n (Fixnum (pos (suc n))) Nil)
      (four_short (codes "cons") (reg n) (decimal (suc n)) (codes "nil") (omega arith) (register_short n (omega arith)) (number_short (suc n) (omega arith)) (omega arith))
      (read-words (codes "cons") (reg n ∷ decimal (suc n) ∷ codes "nil" ∷ []) _ (refl, (sn.register_word, (sm.number_word, (refl, tt)))) refl
      (three-ok register value value commands.Cons (reg n) (decimal (suc n)) (codes "nil") n (Fixnum (pos (suc n))) Nil sn.register_read sm.fixnum_read refl))
      made
    where
      fields : List Value
      fields = operand_value s (Fixnum (pos (suc n))) ∷ nil ∷ []

      t : State
      t = with_new s (suc n) n kinds.Pair fields

      there : Stage (suc n) t
      there = record {
        pairs = λ r small r_there. elim (cases_Bool (r == n)) [
          | inl same ↦ subst (At is_entry t) (sym (eqb-true r n same)) (made_at s (suc n) n kinds.Pair fields is_entry well (omega arith) refl)
          | inr other ↦ let e = eqb-false r n other in keeps_made s (suc n) n kinds.Pair fields before is_entry r e (stage.pairs r small (omega (arith, e)))
        ];
        first = λ more. absurd (omega arith);
        second = λ more. absurd (omega arith);
      }

      made : Goes (suc n) s (suc n) (commands.Cons n (Fixnum (pos (suc n))) Nil)
      made = record { answer = (t, []); goes = refl; stage = there }

  -- a guardian in register 64 or 65
  guarded : (d : ℕ) (kind : Kind) → n ≡ d → (d ≡ 64) ⊎ (d ≡ 65) → IsTrue (is_guardian kind) → Stage (suc n) (with_new s (suc n) d kind [])
  guarded d kind at one is =
      let t : State = with_new s (suc n) d kind [] in
      let new : At is_guardian t d = made_at s (suc n) d kind [] is_guardian well (elim one [ inl e ↦ omega (arith, e) | inr e ↦ omega (arith, e) ]) is in
      let big : 64 ≤ d = elim one [ inl e ↦ omega (arith, e) | inr e ↦ omega (arith, e) ] in
      record {
        pairs = λ r small r_there. keeps_made s (suc n) d kind [] before is_entry r (λ e. omega (arith, e, big)) (stage.pairs r small (omega (arith, at, big)));
        first = λ more. elim (cases_Bool (64 == d)) [
          | inl same ↦ subst (At is_guardian t) (sym (eqb-true 64 d same)) new
          | inr other ↦ let e = eqb-false 64 d other in keeps_made s (suc n) d kind [] before is_guardian 64 e (stage.first (omega (arith, at, big, e)))
        ];
        second = λ more. elim (cases_Bool (65 == d)) [
          | inl same ↦ subst (At is_guardian t) (sym (eqb-true 65 d same)) new
          | inr other ↦ let e = eqb-false 65 d other in keeps_made s (suc n) d kind [] before is_guardian 65 e (stage.second (omega (arith, at, big, e)))
        ];
      }

  guard_line : n ≡ 64 → LineGoes limits (suc n) s (suc n) (codes "guard r64")
  unfolding step
  guard_line at = line_goes limits (suc n) s (suc n) within (codes "guard r64") (commands.Guard 64) (omega arith) (read-words (codes "guard") (codes "r64" ∷ []) _ (refl, (refl, tt)) refl refl) made
    where
      made : Goes (suc n) s (suc n) (commands.Guard 64)
      made = record { answer = (with_new s (suc n) 64 kinds.Guard [], []); goes = refl; stage = guarded 64 kinds.Guard at (inl refl) refl }

  oguard_line : n ≡ 65 → LineGoes limits (suc n) s (suc n) (codes "oguard r65")
  unfolding step
  oguard_line at = line_goes limits (suc n) s (suc n) within (codes "oguard r65") (commands.OrderedGuard 65) (omega arith) (read-words (codes "oguard") (codes "r65" ∷ []) _ (refl, (refl, tt)) refl refl) made
    where
      made : Goes (suc n) s (suc n) (commands.OrderedGuard 65)
      made = record { answer = (with_new s (suc n) 65 kinds.OrderedGuard [], []); goes = refl; stage = guarded 65 kinds.OrderedGuard at (inr refl) refl }

  any_line : (x : ℕ) → LineGoes limits (suc n) s (suc n) (workload_line (suc n) x)
  any_line x = by_low (nat_le (suc n) 64) refl
    where
      low : nat_le (suc n) 64 ≡ true → LineGoes limits (suc n) s (suc n) (words (codes "cons" ∷ reg (suc n - 1) ∷ decimal (suc n) ∷ codes "nil" ∷ []))
      low e =
          let l = leb-true (suc n) 64 e in
          let same : n ≡ suc n - 1 = omega arith in
          subst (λ r. LineGoes limits (suc n) s (suc n) (words (codes "cons" ∷ reg r ∷ decimal (suc n) ∷ codes "nil" ∷ []))) same (filled (omega (arith, l)))

      high : nat_le (suc n) 64 ≡ false → LineGoes limits (suc n) s (suc n) (cond (suc n == 65) (codes "guard r64") (cond (suc n == 66) (codes "oguard r65") (drawn_from x)))
      high e = by_first (suc n == 65) refl
        where
          by_second : (t : Bool) → (suc n == 65) ≡ false → (suc n == 66) ≡ t → LineGoes limits (suc n) s (suc n) (cond t (codes "oguard r65") (drawn_from x))
          by_second true f g = let is = eqb-true (suc n) 66 g in oguard_line (omega (arith, is))
          by_second false f g =
              let l = leb-false (suc n) 64 e in
              let ne = eqb-false (suc n) 65 f in
              let nf = eqb-false (suc n) 66 g in
              let all : 66 ≤ n = omega (arith, l, ne, nf) in
              draws_go limits (suc n) s (suc n) within well before (later_stage n s all stage) (omega arith) x

          by_first : (t : Bool) → (suc n == 65) ≡ t → LineGoes limits (suc n) s (suc n) (cond t (codes "guard r64") (cond (suc n == 66) (codes "oguard r65") (drawn_from x)))
          by_first true f = let is = eqb-true (suc n) 65 f in guard_line (omega (arith, is))
          by_first false f = by_second (suc n == 66) f refl

      by_low : (t : Bool) → nat_le (suc n) 64 ≡ t → LineGoes limits (suc n) s (suc n) (cond t (words (codes "cons" ∷ reg (suc n - 1) ∷ decimal (suc n) ∷ codes "nil" ∷ [])) (cond (suc n == 65) (codes "guard r64") (cond (suc n == 66) (codes "oguard r65") (drawn_from x))))
      by_low true e = low e
      by_low false e = high e

  census_line : LineGoes limits n s (suc n) (codes "census")
  unfolding step
  census_line = line_goes limits n s (suc n) within (codes "census") commands.Census (omega arith) (read-words (codes "census") [] _ (refl, tt) refl refl) goes_census
    where
      goes_census : Goes n s (suc n) commands.Census
      goes_census = record { answer = (s, census_text s.graph); goes = refl; stage = stage }

-- ---- the run

no_stop : {S : Type 0} (t : List ℕ) (r : Ran S) → ◌≡◌ {A = Option (ℕ × Fault)} r.stop None → ◌≡◌ {A = Option (ℕ × Fault)} (after_text t r).stop None
no_stop t r e = e

accepted_from : (limits : Limits) → limits.max_lines ≤ greatest_line → (count n x : ℕ) (s : State) → n + count ≤ limits.max_lines → IsWellFormed s → AllBefore s (suc n) → Stage n s
    → ◌≡◌ {A = Option (ℕ × Fault)} (run_from (line_turn step limits) s (suc n) (workload_from count (suc n) x)).stop None
accepted_from limits most zero n x s room well before stage = ap (λ (r : Ran State). r.stop) (run-nil (line_turn step limits) s (suc n))
accepted_from limits most (suc zero) n x s room well before stage =
    let go = census_line limits n s (omega arith) well before stage in
    ap (λ (r : Ran State). r.stop) (run-goes (line_turn step limits) s (suc n) (codes "census") [] go.answer go.goes)
    ∙ ap (λ (r : Ran State). r.stop) (run-nil (line_turn step limits) go.answer.0 (suc n + 1))
accepted_from limits most (suc (suc more)) n x s room well before stage =
    let line = workload_line (suc n) x in
    let go = any_line limits n s (omega arith) well before stage x in
    let lasts = subst (Lasts (suc n)) go.goes (turn_lasts limits s (suc n) line most (omega arith) well before) in
    let next : suc n + 1 ≡ suc (suc n) = omega arith in
    ap (λ (r : Ran State). r.stop) (run-goes (line_turn step limits) s (suc n) line (workload_from (suc more) (suc (suc n)) (state_after_line (suc n) x)) go.answer go.goes)
    ∙ ap (λ m. (run_from (line_turn step limits) go.answer.0 m (workload_from (suc more) (suc (suc n)) (state_after_line (suc n) x))).stop) next
    ∙ accepted_from limits most (suc more) (suc n) (state_after_line (suc n) x) go.answer.0 (omega arith) lasts.0 (subst (AllBefore go.answer.0) next lasts.1) go.stage

-- no line of a workload is refused
pub workload_accepted : (limits : Limits) (number count : ℕ) → 1 ≤ limits.generations → limits.generations ≤ 7 → limits.max_lines ≤ greatest_line → count ≤ limits.max_lines
    → ◌≡◌ {A = Option (ℕ × Fault)} (run step limits (generated number count)).stop None
unfolding run
workload_accepted limits number count least most lines room =
    ap (λ ls. (run_from (line_turn step limits) (opening limits.generations) 1 ls).stop) (workload_lines number count).lines
    ∙ accepted_from limits lines count 0 number (opening limits.generations) (omega arith) (opening_well_formed limits.generations least most) (λ k h. absurd (omega (arith, h))) (record {
      pairs = λ r small there. absurd (omega arith);
      first = λ there. absurd (omega arith);
      second = λ there. absurd (omega arith);
    })
