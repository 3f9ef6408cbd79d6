-- A field read.
use Rattle.std.proofs.Common.{◌≡◌, ℕ, ℤ, w64, to_z, of_z, IsSome, IfSome, inl, inr, ◌⊎◌, zero, suc, ◌<◌, ◌≤◌, ◌^◌, ◌/◌, ◌%◌, Bool, true, false, not, cond, pos, nat_lt, List, [], ◌∷◌, length, map, set, get_or, IsTrue, Option, Some, None, Ok, Err, refl, sym, ◌∙◌, ap, subst, arith}
use Rattle.std.specs.List.{AllByRecursion}
use Rattle.std.specs.Int.{to_le_bytes}
use Rattle.std.proofs.lemmas.Int.{to_z-of_z}
use Rattle.std.proofs.lemmas.List.FromFn.{length-map-range_with_len}
use Rattle.std.proofs.lemmas.Bool.{false≢true, lt-ltb, le-ltb}
use Rattle.gc_words.specs.declared.value.Value.{Value}
use Rattle.gc_words.specs.declared.value.Value.TheVariants as word
use Rattle.gc_words.specs.Word.{value_of}
use Rattle.trace_types.specs.declared.kind.Kind.{Kind}
use Rattle.trace_types.specs.declared.kind.Kind.TheVariants as kind
use Rattle.trace_types.specs.declared.fault.Fault.{Fault}
use Rattle.trace_types.specs.declared.command.Command.TheVariants.{Get}
use Rattle.trace_types.specs.Faults.{◌>>=◌}
use Rattle.trace_types.specs.Values.{fixnum, nil, object, Object, object_at, field_at, has_bytes, is_guardian}
use Rattle.trace_types.specs.States.{State, Answer, silently, register_value, with_register}
use Rattle.trace_types.specs.Steps.{found_object, fielded_of, within, step}
use Rattle.segment.specs.Layout.{words_after, HasLength}
use Rattle.segment.specs.Segments.{Start}
use Rattle.heap_store.specs.declared.error.HeapError.{HeapError}
use Rattle.heap_store.specs.Starts.{Starts, is_cell, is_object, birth_of, has_values, read, read_option, read_word, IsThere, IsThereOption, IsWordThere, word_bytes, byte_at, bytes_of, fields_of, object_of, IsLaidOut}
use Rattle.territory.specs.Territories.{words_of}
use Rattle.heap_store.specs.HeapView.{HeapView, starts_of}
use Rattle.heap_store.specs.Stands.{Stands}
use Rattle.heap_store.specs.Calls.{Obeys, IsValid}
use Rattle.heap_store.specs.Fields.{place_in, IsFielded, HasNoFields, or_nil, field_in, word_index}
use Rattle.heap_store.proofs.Bytes.{byte_of_bytes, bytes_small}
use Rattle.heap_store.proofs.Making.{fields_by, fields_count}
use Rattle.heap_store.proofs.Operands.{register_read}
use Rattle.heap_store.proofs.Setting.{object_found}
use Rattle.heap_store.proofs.Plain.{plain_kept}
use Rattle.heap_store.proofs.Standing.{register_changed}

-- ---- the value of a field

module _ (f : Starts) where
  value_there : (o : Option Value) → IsThereOption f o → (read f (or_nil o) ≡ read_option f o) × IsThere f (or_nil o)
  value_there None there = absurd there
  value_there (Some v) there = (refl, there)

  nil_or_there : (o : Option Value) → read f (or_nil o) ≡ read_option f o
  nil_or_there None = refl
  nil_or_there (Some v) = refl

  word_at : (ws : List ℕ) (i : ℕ) → i < length ws → get_or (map (read_word f) ws) i nil ≡ read_word f (get_or ws i 0)
  word_at [] i within = absurd (omega arith)
  word_at (w ∷ ws) zero within = refl
  word_at (w ∷ ws) (suc i) within = word_at ws i (omega arith)

  word_there_at : (ws : List ℕ) (i : ℕ) → i < length ws → AllByRecursion (IsWordThere f) ws → IsWordThere f (get_or ws i 0)
  word_there_at [] i within all = absurd (omega arith)
  word_there_at (w ∷ ws) zero within all = all.0
  word_there_at (w ∷ ws) (suc i) within all = word_there_at ws i (omega arith) all.1

  abbrev start_by : Kind → ℕ → List ℕ → Start
  start_by k n ws = record { kind = k; length = n; generation = 0; birth = 0; words = ws }

  byte_at_field : (ws : List ℕ) (n i : ℕ) → i < n → fixnum (pos (byte_at ws i)) ≡ get_or (map (λ b. fixnum (pos b)) (bytes_of ws n)) i nil
  byte_at_field ws n i less = sym (mapped (bytes_of ws n) i (omega (arith, less, count)) ∙ ap (λ b. fixnum (pos b)) (byte_of_bytes ws n i less))
    where
      count : length (bytes_of ws n) ≡ n
      count = length-map-range_with_len (byte_at ws) 0 n

      mapped : (bs : List ℕ) (j : ℕ) → j < length bs → get_or (map (λ b. fixnum (pos b)) bs) j nil ≡ fixnum (pos (get_or bs j 0))
      mapped [] j within = absurd (omega arith)
      mapped (b ∷ bs) zero within = refl
      mapped (b ∷ bs) (suc j) within = mapped bs j (omega arith)

  read_by : (k : Kind) (n : ℕ) (ws : List ℕ) (i : ℕ) → is_cell k ≡ false → is_guardian k ≡ false → i < n → (has_bytes k ≡ false → length ws ≡ n)
      → read f (field_in (Some (start_by k n ws)) i) ≡ get_or (fields_by f k n ws) i nil
  read_by kind.Pair n ws i lacks plain less count = nil_or_there (value_of (get_or ws i 0)) ∙ sym (word_at ws i (omega (arith, less, count refl)))
  read_by kind.Weak n ws i lacks plain less count = nil_or_there (value_of (get_or ws i 0)) ∙ sym (word_at ws i (omega (arith, less, count refl)))
  read_by kind.Eph n ws i lacks plain less count = nil_or_there (value_of (get_or ws i 0)) ∙ sym (word_at ws i (omega (arith, less, count refl)))
  read_by kind.Boxed n ws i lacks plain less count = nil_or_there (value_of (get_or ws i 0)) ∙ sym (word_at ws i (omega (arith, less, count refl)))
  read_by kind.Vector n ws i lacks plain less count = nil_or_there (value_of (get_or ws i 0)) ∙ sym (word_at ws i (omega (arith, less, count refl)))
  read_by kind.ImmVector n ws i lacks plain less count = nil_or_there (value_of (get_or ws i 0)) ∙ sym (word_at ws i (omega (arith, less, count refl)))
  read_by kind.Bytes n ws i lacks plain less count = byte_at_field ws n i less
  read_by kind.ImmBytes n ws i lacks plain less count = byte_at_field ws n i less
  read_by kind.Guard n ws i lacks plain less count = absurd (false≢true (sym plain))
  read_by kind.OrderedGuard n ws i lacks plain less count = absurd (false≢true (sym plain))
  read_by kind.Cell n ws i lacks plain less count = absurd (false≢true (sym lacks))

  -- as many words as fields, but for bytes
  word_count : (k : Kind) (n : ℕ) (ws : List ℕ) → is_cell k ≡ false → is_guardian k ≡ false → HasLength k n → length ws ≡ words_after k n → has_bytes k ≡ false → length ws ≡ n
  word_count kind.Pair n ws lacks plain sized count words = count ∙ sym sized
  word_count kind.Weak n ws lacks plain sized count words = count ∙ sym sized
  word_count kind.Eph n ws lacks plain sized count words = count ∙ sym sized
  word_count kind.Boxed n ws lacks plain sized count words = count ∙ sym sized
  word_count kind.Vector n ws lacks plain sized count words = count
  word_count kind.ImmVector n ws lacks plain sized count words = count
  word_count kind.Bytes n ws lacks plain sized count words = absurd (false≢true (sym words))
  word_count kind.ImmBytes n ws lacks plain sized count words = absurd (false≢true (sym words))
  word_count kind.Guard n ws lacks plain sized count words = absurd (false≢true (sym plain))
  word_count kind.OrderedGuard n ws lacks plain sized count words = absurd (false≢true (sym plain))
  word_count kind.Cell n ws lacks plain sized count words = absurd (false≢true (sym lacks))

  byte_there : (ws : List ℕ) (i : ℕ) → byte_at ws i < 2 ^ 60
  byte_there ws i = let small = bytes_small (get_or ws (i / 8) 0) (i % 8) in omega arith

  there_by : (k : Kind) (n : ℕ) (ws : List ℕ) (i : ℕ) → is_cell k ≡ false → is_guardian k ≡ false → (has_bytes k ≡ false → i < length ws) → (IsTrue (has_values k) → AllByRecursion (IsWordThere f) ws)
      → IsThere f (field_in (Some (start_by k n ws)) i)
  there_by kind.Pair n ws i lacks plain within all = (value_there (value_of (get_or ws i 0)) (word_there_at ws i (within refl) (all refl))).1
  there_by kind.Weak n ws i lacks plain within all = (value_there (value_of (get_or ws i 0)) (word_there_at ws i (within refl) (all refl))).1
  there_by kind.Eph n ws i lacks plain within all = (value_there (value_of (get_or ws i 0)) (word_there_at ws i (within refl) (all refl))).1
  there_by kind.Boxed n ws i lacks plain within all = (value_there (value_of (get_or ws i 0)) (word_there_at ws i (within refl) (all refl))).1
  there_by kind.Vector n ws i lacks plain within all = (value_there (value_of (get_or ws i 0)) (word_there_at ws i (within refl) (all refl))).1
  there_by kind.ImmVector n ws i lacks plain within all = (value_there (value_of (get_or ws i 0)) (word_there_at ws i (within refl) (all refl))).1
  there_by kind.Bytes n ws i lacks plain within all = byte_there ws i
  there_by kind.ImmBytes n ws i lacks plain within all = byte_there ws i
  there_by kind.Guard n ws i lacks plain within all = absurd (false≢true (sym plain))
  there_by kind.OrderedGuard n ws i lacks plain within all = absurd (false≢true (sym plain))
  there_by kind.Cell n ws i lacks plain within all = absurd (false≢true (sym lacks))

  -- an index below the length is that of a field
  pub field_read : (x : Start) (i : ℕ) → is_cell x.kind ≡ false → is_guardian x.kind ≡ false → IsLaidOut f x → i < x.length → read f (field_in (Some x) i) ≡ get_or (fields_of f x) i nil
  field_read x i lacks plain laid less = read_by x.kind x.length x.words i lacks plain less (word_count x.kind x.length x.words lacks plain laid.sized laid.words)

  pub field_there : (x : Start) (i : ℕ) → is_cell x.kind ≡ false → is_guardian x.kind ≡ false → IsLaidOut f x → i < x.length → IsThere f (field_in (Some x) i)
  field_there x i lacks plain laid less =
      there_by x.kind x.length x.words i lacks plain (λ words. let count = word_count x.kind x.length x.words lacks plain laid.sized laid.words words in omega (arith, count, less)) laid.values

-- ---- the object in a register

is_holding : (v : Value) (a : ℕ) → place_in v ≡ Some a → v ≡ word.Object a
is_holding (word.Object b) a e = ap word.Object (same_Some b a e)
  where
    same_Some : (m n : ℕ) → Some m ≡ Some n → m ≡ n
    same_Some m n e = cc
is_holding (word.Fixnum n) a e = absurd (let n : None ≡ Some a = e in cc)
is_holding word.Nil a e = absurd (let n : None ≡ Some a = e in cc)
is_holding word.True a e = absurd (let n : None ≡ Some a = e in cc)
is_holding word.False a e = absurd (let n : None ≡ Some a = e in cc)
is_holding word.Bwp a e = absurd (let n : None ≡ Some a = e in cc)

module _ (h : HeapView) (s : State) (stands : Stands h s) (r : ℕ) where
  no_object : (v : Value) → place_in v ≡ None → fielded_of s (read (starts_of h) v) ≡ Err Fault.WrongKind
  no_object (word.Object a) e = absurd (let n : Some a ≡ None = e in cc)
  no_object (word.Fixnum n) e = refl
  no_object word.Nil e = refl
  no_object word.True e = refl
  no_object word.False e = refl
  no_object word.Bwp e = refl

  pub immediate_has_none : place_in (get_or h.registers r word.Nil) ≡ None → fielded_of s (register_value s r) ≡ Err Fault.WrongKind
  immediate_has_none e = ap (fielded_of s) (register_read h s stands r) ∙ no_object (get_or h.registers r word.Nil) e

  held_value : (a : ℕ) (x : Start) → get_or h.registers r word.Nil ≡ word.Object a → starts_of h a ≡ Some x → register_value s r ≡ object x.birth
  held_value a x holds here = register_read h s stands r ∙ ap (read (starts_of h)) holds ∙ ap (λ o. object (birth_of o)) here

  fielded_object : (birth : ℕ) (o : Object) → object_at s.graph birth ≡ Some o → fielded_of s (object birth) ≡ cond (is_guardian o.kind) (Err Fault.WrongKind) (Ok (birth, o))
  fielded_object birth o found = ap (λ q. found_object birth q >>= λ p. cond (is_guardian p.1.kind) (Err Fault.WrongKind) (Ok p)) found

  pub guardian_has_none : (a : ℕ) (x : Start) → get_or h.registers r word.Nil ≡ word.Object a → starts_of h a ≡ Some x → is_cell x.kind ≡ false → is_guardian x.kind ≡ true
      → fielded_of s (register_value s r) ≡ Err Fault.WrongKind
  guardian_has_none a x holds here lacks guardian =
      let found = stands.graph.objects a x here lacks in
      ap (fielded_of s) (held_value a x holds here) ∙ fielded_object x.birth (object_of (starts_of h) a x found.queue) found.found
      ∙ ap (λ b. cond b (Err Fault.WrongKind) (Ok (x.birth, object_of (starts_of h) a x found.queue))) guardian

  pub fielded_is : (a : ℕ) (is : IsFielded h r a) → fielded_of s (register_value s r) ≡ Ok (is.start.birth, object_of (starts_of h) a is.start [])
  fielded_is a is =
      ap (fielded_of s) (held_value a is.start is.holds is.here)
      ∙ fielded_object is.start.birth (object_of (starts_of h) a is.start []) (object_found h s stands a is.start is.here is.no_cell is.no_guardian)
      ∙ ap (λ b. cond b (Err Fault.WrongKind) (Ok (is.start.birth, object_of (starts_of h) a is.start []))) is.no_guardian

-- ---- `get`

-- the rest of the step, once the object is found
get_from : State → ℕ → ℕ → ℕ × Object → Answer
get_from s d i o = within o.1 i (silently (with_register s d (field_at o.1 i)))

module _ (h : HeapView) (s : State) (stands : Stands h s) (d r i : ℕ) where
  pub count_of : (a : ℕ) (is : IsFielded h r a) → length (fields_of (starts_of h) is.start) ≡ is.start.length
  count_of a is = let laid = stands.closed.laid_out a is.start is.here in fields_count (starts_of h) is.start.kind is.start.length is.start.words is.no_cell laid.sized laid.words

  got_from : (a : ℕ) (is : IsFielded h r a) (b : Bool) → nat_lt i (length (fields_of (starts_of h) is.start)) ≡ b → (fielded_of s (register_value s r) >>= get_from s d i)
      ≡ cond b (silently (with_register s d (get_or (fields_of (starts_of h) is.start) i nil))) (Err Fault.BadIndex)
  unfolding get_from
  got_from a is b e = ap (λ o. o >>= get_from s d i) (fielded_is h s stands r a is) ∙ ap (λ c. cond c (silently (with_register s d (get_or (fields_of (starts_of h) is.start) i nil))) (Err Fault.BadIndex)) e

  pub gets_here : (line a : ℕ) (is : IsFielded h r a) → i < is.start.length → Obeys s (step s line (Get d r i)) (Ok tt) (record h { registers = set h.registers d (field_in (Some is.start) i) })
  unfolding step get_from
  gets_here line a is less =
      let f : Starts = starts_of h in
      let x : Start = is.start in
      let laid = stands.closed.laid_out a x is.here in
      let new : HeapView = record h { registers = set h.registers d (field_in (Some x) i) } in
      subst (λ answer. Obeys s answer (Ok tt) new) (sym (got_from a is true (lt-ltb i (length (fields_of f x)) (omega (arith, less, count_of a is)))))
      (subst (λ v. Stands new (with_register s d v)) (field_read f x i is.no_cell is.no_guardian laid less)
      (register_changed h s stands d (field_in (Some x) i) (field_there f x i is.no_cell is.no_guardian laid less)))

  pub gets_beyond : (line a : ℕ) (is : IsFielded h r a) → is.start.length ≤ i → Obeys s (step s line (Get d r i)) (Err (HeapError.Fault Fault.BadIndex)) h
  unfolding step get_from
  gets_beyond line a is past =
      subst (λ answer. Obeys s answer (Err (HeapError.Fault Fault.BadIndex)) h) (sym (got_from a is false (le-ltb i (length (fields_of (starts_of h) is.start)) (omega (arith, past, count_of a is))))) (refl, stands)

  pub gets_nothing : (line : ℕ) → HasNoFields h r → Obeys s (step s line (Get d r i)) (Err (HeapError.Fault Fault.WrongKind)) h
  unfolding step get_from
  gets_nothing line none = subst (λ answer. Obeys s answer (Err (HeapError.Fault Fault.WrongKind)) h) (sym (ap (λ o. o >>= get_from s d i) (none s stands))) (refl, stands)

-- ---- what the calls of a territory tell

-- a byte as a fixnum
pub byte_got : (o : Option Start) (i w : ℕ) (bytes : List ℕ) (z : ℤ) (k : Kind) → z ≡ pos (get_or bytes (i % 8) 0) → bytes ≡ to_le_bytes w64 w → w ≡ get_or (words_of o) (i / 8) 0
    → IsSome o → IfSome o (λ x. k ≡ x.kind) → (k ≡ kind.Bytes) ⊎ (k ≡ kind.ImmBytes) → word.Fixnum (to_z w64 (of_z w64 z)) ≡ field_in o i
unfolding word_bytes
byte_got None i w bytes z k ez eb ew there same is = absurd (false≢true there)
byte_got (Some x) i w bytes z k ez eb ew there same is =
    let byte : get_or bytes (i % 8) 0 ≡ byte_at x.words i = ap (λ bs. get_or bs (i % 8) 0) (eb ∙ ap (to_le_bytes w64) ew) in
    let small = bytes_small (get_or x.words (i / 8) 0) (i % 8) in
    ap (λ v. word.Fixnum (to_z w64 (of_z w64 v))) (ez ∙ ap pos byte)
    ∙ ap word.Fixnum (to_z-of_z w64 (pos (byte_at x.words i)) (omega (arith, small)))
    ∙ ap (λ b. cond b (word.Fixnum (pos (byte_at x.words i))) (or_nil (value_of (get_or x.words i 0)))) (sym (ap has_bytes (sym same) ∙ elim is [ inl e ↦ ap has_bytes e | inr e ↦ ap has_bytes e ]))

-- a guardian has no fields
pub guardian_none : (h : HeapView) (r a : ℕ) (o : Option Start) (k : Kind) (v : Option ℕ) → v ≡ place_in (get_or h.registers r word.Nil) → v ≡ Some a → IsTrue (is_object (starts_of h a)) → o ≡ starts_of h a → IfSome o (λ x. k ≡ x.kind)
    → (k ≡ kind.Guard) ⊎ (k ≡ kind.OrderedGuard) → HasNoFields h r
guardian_none h r a o k v place is there here same guard s stands = by_start o here same
  where
    holds : get_or h.registers r word.Nil ≡ word.Object a
    holds = is_holding (get_or h.registers r word.Nil) a (sym place ∙ is)

    by_start : (p : Option Start) → p ≡ starts_of h a → IfSome p (λ x. k ≡ x.kind) → fielded_of s (register_value s r) ≡ Err Fault.WrongKind
    by_start None e k_is = absurd (false≢true (ap is_object e ∙ there))
    by_start (Some x) e k_is =
        guardian_has_none h s stands r a x holds (sym e) (not_true (is_cell x.kind) (ap is_object e ∙ there))
        (ap is_guardian (sym k_is) ∙ elim guard [ inl g ↦ ap is_guardian g | inr g ↦ ap is_guardian g ])
      where
        not_true : (b : Bool) → not b ≡ true → b ≡ false
        not_true true n = absurd (false≢true n)
        not_true false n = refl

-- what `get` leaves, where it is below the length
pub gets : (h : HeapView) (s : State) (line d r i a : ℕ) (v : Value) (o : Option Start) (len : ℕ) → IsFielded h r a → o ≡ starts_of h a → IfSome o (λ x. len ≡ x.length) → i < len → v ≡ field_in o i → Stands h s
    → Obeys s (step s line (Get d r i)) (Ok tt) (record h { registers = set h.registers d v })
gets h s line d r i a v o len is here same less value stands =
    let start : o ≡ Some is.start = here ∙ is.here in
    let length_is : len ≡ is.start.length = subst (λ p. IfSome p (λ x. len ≡ x.length)) start same in
    subst (λ w. Obeys s (step s line (Get d r i)) (Ok tt) (record h { registers = set h.registers d w })) (sym (value ∙ ap (λ p. field_in p i) start))
    (gets_here h s stands d r i line a is (omega (arith, less, length_is)))

pub gets_past : (h : HeapView) (s : State) (line d r i a : ℕ) (o : Option Start) (len : ℕ) → IsFielded h r a → o ≡ starts_of h a → IfSome o (λ x. len ≡ x.length) → len ≤ i → Stands h s
    → Obeys s (step s line (Get d r i)) (Err (HeapError.Fault Fault.BadIndex)) h
gets_past h s line d r i a o len is here same past stands =
    let length_is : len ≡ is.start.length = subst (λ p. IfSome p (λ x. len ≡ x.length)) (here ∙ is.here) same in
    gets_beyond h s stands d r i line a is (omega (arith, past, length_is))

-- the state that a read leaves
pub got_valid : (h : HeapView) (valid : IsValid h) (d r i a : ℕ) (v : Value) (o : Option Start) (len : ℕ) → IsFielded h r a → o ≡ starts_of h a → IfSome o (λ x. len ≡ x.length) → i < len → v ≡ field_in o i
    → IsValid (record h { registers = set h.registers d v })
got_valid h valid d r i a v o len is here same less value =
    let start : o ≡ Some is.start = here ∙ is.here in
    let length_is : len ≡ is.start.length = subst (λ p. IfSome p (λ x. len ≡ x.length)) start same in
    let laid = valid.stands.closed.laid_out a is.start is.here in
    let f : Starts = starts_of h in
    subst (λ w. IsValid (record h { registers = set h.registers d w })) (sym (value ∙ ap (λ p. field_in p i) start)) (record {
      state = with_register valid.state d (read f (field_in (Some is.start) i));
      stands = register_changed h valid.state valid.stands d (field_in (Some is.start) i) (field_there f is.start i is.no_cell is.no_guardian laid (omega (arith, less, length_is)));
      cards = valid.cards;
      plain = plain_kept h (record h { registers = set h.registers d (field_in (Some is.start) i) }) refl refl refl refl valid.plain;
    })

-- for a heap that is seen so
pub gets_seen : (h seen : HeapView) → h ≡ seen → (n d r i a : ℕ) (v : Value) (o : Option Start) (len : ℕ) → n ≡ d → IsFielded seen r a → o ≡ starts_of seen a → IfSome o (λ x. len ≡ x.length) → i < len → v ≡ field_in o i
    → (s : State) (line : ℕ) → Stands seen s → Obeys s (step s line (Get d r i)) (Ok tt) (record h { registers = set h.registers n v })
gets_seen h seen same n d r i a v o len number is here length less value s line stands =
    subst (λ m. Obeys s (step s line (Get d r i)) (Ok tt) (record h { registers = set h.registers m v })) (sym number)
    (subst (λ (w : HeapView). Obeys s (step s line (Get d r i)) (Ok tt) (record w { registers = set w.registers d v })) (sym same) (gets seen s line d r i a v o len is here length less value stands))

pub got_seen : (h seen : HeapView) → h ≡ seen → (h.failed ≡ false → IsValid h) → (n d r i a : ℕ) (v : Value) (o : Option Start) (len : ℕ) → n ≡ d → IsFielded seen r a → o ≡ starts_of seen a → IfSome o (λ x. len ≡ x.length) → i < len → v ≡ field_in o i
    → h.failed ≡ false → IsValid (record h { registers = set h.registers n v })
got_seen h seen same invariant n d r i a v o len number is here length less value alive =
    subst (λ m. IsValid (record h { registers = set h.registers m v })) (sym number)
    (subst (λ (w : HeapView). IsValid (record w { registers = set w.registers d v })) (sym same) (got_valid seen (subst IsValid same (invariant alive)) d r i a v o len is here length less value))

-- an index below the length is that of a word
pub field_room : (h : HeapView) (valid : IsValid h) (r a i len : ℕ) (o : Option Start) → IsFielded h r a → o ≡ starts_of h a → IfSome o (λ x. len ≡ x.length) → i < len → IfSome o (λ x. word_index x.kind i < length x.words)
field_room h valid r a i len o is here same less =
    subst (λ p. IfSome p (λ x. word_index x.kind i < length x.words)) (sym start) (room is.start.kind is.start.length is.start.words is.no_cell is.no_guardian laid.sized laid.words (omega (arith, less, length_is)))
  where
    start : o ≡ Some is.start
    start = here ∙ is.here

    length_is : len ≡ is.start.length
    length_is = subst (λ p. IfSome p (λ x. len ≡ x.length)) start same

    laid : IsLaidOut (starts_of h) is.start
    laid = valid.stands.closed.laid_out a is.start is.here

    room : (k : Kind) (n : ℕ) (ws : List ℕ) → is_cell k ≡ false → is_guardian k ≡ false → HasLength k n → length ws ≡ words_after k n → i < n → word_index k i < length ws
    room kind.Pair n ws lacks plain sized count below = omega (arith, sized, count, below)
    room kind.Weak n ws lacks plain sized count below = omega (arith, sized, count, below)
    room kind.Eph n ws lacks plain sized count below = omega (arith, sized, count, below)
    room kind.Boxed n ws lacks plain sized count below = omega (arith, sized, count, below)
    room kind.Vector n ws lacks plain sized count below = omega (arith, sized, count, below)
    room kind.ImmVector n ws lacks plain sized count below = omega (arith, sized, count, below)
    room kind.Bytes n ws lacks plain sized count below = omega (arith, sized, count, below)
    room kind.ImmBytes n ws lacks plain sized count below = omega (arith, sized, count, below)
    room kind.Guard n ws lacks plain sized count below = absurd (false≢true (sym plain))
    room kind.OrderedGuard n ws lacks plain sized count below = absurd (false≢true (sym plain))
    room kind.Cell n ws lacks plain sized count below = absurd (false≢true (sym lacks))
