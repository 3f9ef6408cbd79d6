-- `set`: what a field put makes of the state.
use Rattle.std.proofs.Common.{◌≡◌, ℕ, ◌/◌, ◌<◌, ◌≤◌, pos, negsuc, Bool, true, false, not, ◌&&◌, cond, nat_lt, List, [], length, set, slice_get, IsTrue, Option, Some, None, option_map, Ok, Err, refl, sym, ◌∙◌, ap, subst, arith}
use Rattle.std.specs.FinMap.{get}
use Rattle.std.proofs.lemmas.Bool.{false≢true, lt-ltb}
use Rattle.std.proofs.lemmas.Option.{same_Some}
use Rattle.gc_words.specs.declared.value.Value.{Value}
use Rattle.gc_words.specs.declared.value.Value.TheVariants as word
use Rattle.gc_words.specs.Word.{value_of}
use Rattle.gc_words.specs.Layout.{thread_of}
use Rattle.trace_types.specs.declared.kind.Kind.{Kind}
use Rattle.trace_types.specs.declared.kind.Kind.TheVariants as kind
use Rattle.trace_types.specs.declared.fault.Fault.{Fault}
use Rattle.trace_types.specs.declared.operand.Operand.{Operand}
use Rattle.trace_types.specs.declared.command.Command.TheVariants.{Set}
use Rattle.trace_types.specs.Faults.{◌>>=◌}
use Rattle.trace_types.specs.Values as values
use Rattle.trace_types.specs.Values.{fixnum, Object, is_byte, is_value, has_bytes, is_guardian}
use Rattle.trace_types.specs.States as states
use Rattle.trace_types.specs.States.{State, Answer, silently, register_value, with_field}
use Rattle.trace_types.specs.Steps.{within, step}
use Rattle.trace_types.specs.WellFormed.{operand_fits}
use Rattle.segment.specs.Segments.{Start}
use Rattle.territory.specs.Territories as territory
use Rattle.territory.specs.Territories.{TerritoryView, TellsLower, AreCardsSound}
use Rattle.heap_store.specs.declared.error.HeapError.{HeapError}
use Rattle.heap_store.specs.Starts.{Starts, is_cell, has_values, read, read_option, IsThere, IsThereOption, fields_of, object_of, IsLaidOut, Keeps, IsChanged}
use Rattle.heap_store.specs.HeapView.{HeapView, start_in, starts_in, starts_of}
use Rattle.heap_store.specs.Changes.{IsStartChanged, generation_at, HaveSoundCards}
use Rattle.heap_store.specs.Stands.{Stands}
use Rattle.heap_store.specs.Calls.{Obeys, IsValid, operand_value}
use Rattle.heap_store.specs.Fields.{IsFielded, word_index, is_byte_word, generation_or_255, refers_of, put_fault, IsPut}
use Rattle.heap_store.proofs.Changed.{keeps}
use Rattle.heap_store.proofs.Plain.{plain_changed}
use Rattle.heap_store.proofs.Territories.{is_changed}
use Rattle.heap_store.proofs.Putting.{put_changed}
use Rattle.heap_store.proofs.Cards.{rewritten_cards}
use Rattle.heap_store.proofs.Standing.{read_fits, read_there}
use Rattle.heap_store.proofs.Operands.{operand_there, operand_read}
use Rattle.heap_store.proofs.Setting.{value_set, byte_set, value_laid_out, byte_laid_out, field_changed}
use Rattle.heap_store.proofs.Getting.{fielded_is, count_of, field_room}

-- ---- the step

-- the rest of the step, once the object is found
abbrev pub set_from : State → ℕ → values.Value → ℕ × Object → Answer
set_from s i v o = cond (has_bytes o.1.kind && not (is_byte v)) (Err Fault.WrongKind) (within o.1 i (silently (with_field s o.0 o.1 i v)))

byte_read : (f : Starts) (v : Value) → is_byte (read f v) ≡ is_byte_word v
byte_read f (word.Fixnum (pos n)) = refl
byte_read f (word.Fixnum (negsuc n)) = refl
byte_read f word.Nil = refl
byte_read f word.True = refl
byte_read f word.False = refl
byte_read f word.Bwp = refl
byte_read f (word.Object a) = refl

bytes_refer : (k : Kind) → has_bytes k ≡ true → territory.has_values k ≡ true → ⊥
bytes_refer kind.Bytes b v = false≢true v
bytes_refer kind.ImmBytes b v = false≢true v
bytes_refer kind.Pair b v = false≢true b
bytes_refer kind.Weak b v = false≢true b
bytes_refer kind.Eph b v = false≢true b
bytes_refer kind.Boxed b v = false≢true b
bytes_refer kind.Vector b v = false≢true b
bytes_refer kind.ImmVector b v = false≢true b
bytes_refer kind.Guard b v = false≢true b
bytes_refer kind.OrderedGuard b v = false≢true b
bytes_refer kind.Cell b v = false≢true b

module _ (h : HeapView) (r a i : ℕ) (is : IsFielded h r a) (op : Operand) (v : Value) (v_is : v ≡ operand_value h.registers op) where
  abbrev x : Start
  x = is.start

  abbrev f : Starts
  f = starts_of h

  module _ (s : State) (stands : Stands h s) where
    value_is : states.operand_value s op ≡ read f v
    value_is = operand_read h s stands op ∙ ap (read f) (sym v_is)

    -- the step, by the two tests
    set_is : (line : ℕ) (b c : Bool) → (has_bytes x.kind && not (is_byte_word v)) ≡ b → nat_lt i x.length ≡ c
        → step s line (Set r i op) ≡ cond b (Err Fault.WrongKind) (cond c (silently (with_field s x.birth (object_of f a x []) i (states.operand_value s op))) (Err Fault.BadIndex))
    unfolding step
    set_is line b c eb ec =
        ap (λ o. o >>= set_from s i (states.operand_value s op)) (fielded_is h s stands r a is)
        ∙ ap (λ t. cond (has_bytes x.kind && not t) (Err Fault.WrongKind) (within (object_of f a x []) i (silently (with_field s x.birth (object_of f a x []) i (states.operand_value s op))))) (ap is_byte value_is ∙ byte_read f v)
        ∙ ap (λ t. cond t (Err Fault.WrongKind) (within (object_of f a x []) i (silently (with_field s x.birth (object_of f a x []) i (states.operand_value s op))))) eb
        ∙ ap (λ n. cond b (Err Fault.WrongKind) (cond (nat_lt i n) (silently (with_field s x.birth (object_of f a x []) i (states.operand_value s op))) (Err Fault.BadIndex))) (count_of h s stands 0 r i a is)
        ∙ ap (λ t. cond b (Err Fault.WrongKind) (cond t (silently (with_field s x.birth (object_of f a x []) i (states.operand_value s op))) (Err Fault.BadIndex))) ec

    -- the fault of the put is that of the step
    pub sets_fault : (line : ℕ) (fault : Fault) → put_fault x i v ≡ Some fault → Obeys s (step s line (Set r i op)) (Err (HeapError.Fault fault)) h
    sets_fault line fault e =
        by_tests (has_bytes x.kind && not (is_byte_word v)) (nat_lt i x.length) refl refl
      where
        by_tests : (b c : Bool) → (has_bytes x.kind && not (is_byte_word v)) ≡ b → nat_lt i x.length ≡ c → Obeys s (step s line (Set r i op)) (Err (HeapError.Fault fault)) h
        by_tests true c eb ec =
            subst (λ q. Obeys s q (Err (HeapError.Fault fault)) h) (sym (set_is line true c eb ec))
            (same_Some _ _ (sym (ap (λ t. cond t (Some Fault.WrongKind) (cond (nat_lt i x.length) None (Some Fault.BadIndex))) eb) ∙ e), stands)
        by_tests false true eb ec =
            absurd (let none : None ≡ Some fault = sym (ap (λ t. cond t (Some Fault.WrongKind) (cond (nat_lt i x.length) None (Some Fault.BadIndex))) eb ∙ ap (λ t. cond t None (Some Fault.BadIndex)) ec) ∙ e in cc)
        by_tests false false eb ec =
            subst (λ q. Obeys s q (Err (HeapError.Fault fault)) h) (sym (set_is line false false eb ec))
            (same_Some _ _ (sym (ap (λ t. cond t (Some Fault.WrongKind) (cond (nat_lt i x.length) None (Some Fault.BadIndex))) eb ∙ ap (λ t. cond t None (Some Fault.BadIndex)) ec) ∙ e), stands)

  -- ---- where the put is done

  module _ (valid : IsValid h) (fits : IsTrue (operand_fits op)) (old new : TerritoryView) (found : slice_get h.territories (thread_of a) ≡ Some old) (refers : ℕ) (refers_is : refers ≡ refers_of f v) (put : IsPut old new a x i v refers) where
    abbrev words : List ℕ
    words = set x.words (word_index x.kind i) put.put_word

    abbrev set_in : List TerritoryView
    set_in = set h.territories (thread_of a) new

    there : get old.starts a ≡ Some x
    there = sym (ap (λ o. start_in o a) found) ∙ is.here

    v_there : IsThere f v
    v_there = subst (IsThere f) (sym v_is) (operand_there h valid.state valid.stands op fits)

    changed : IsStartChanged old new a (record x { words = words })
    changed = put_changed old new a (word_index x.kind i) put.put_word put.mark x there (sym (valid.stands.territories.threads (thread_of a) old found)) put.put

    laid : IsLaidOut f x
    laid = valid.stands.closed.laid_out a x is.here

    both : (b : Bool) → has_bytes x.kind ≡ b → IsLaidOut f (record x { words = words }) × (fields_of f (record x { words = words }) ≡ set (fields_of f x) i (read f v)) × IsTrue (cond (has_bytes x.kind) (is_byte (read f v)) (is_value (read f v)))
    both true e =
        let byte = put.byte e in
        let at : word_index x.kind i ≡ i / 8 = ap (λ t. cond t (i / 8) i) e in
        let room = field_room h valid r a i x.length (Some x) is (sym is.here) refl put.within in
        let within_words : i / 8 < length x.words = subst (λ n. n < length x.words) at room in (
          subst (λ n. IsLaidOut f (record x { words = set x.words n put.put_word })) (sym at) (byte_laid_out f x i put.put_word byte.0 e within_words put.within byte.3 laid),
          ap (λ n. fields_of f (record x { words = set x.words n put.put_word })) at ∙ byte_set f x i put.put_word byte.0 e within_words byte.3 ∙ ap (λ w. set (fields_of f x) i (read f w)) (sym byte.2),
          ap (λ t. cond t (is_byte (read f v)) (is_value (read f v))) e ∙ ap (λ w. is_byte (read f w)) byte.2 ∙ lt-ltb byte.0 256 byte.1,
        )
    both false e =
        let value = put.value e in
        let at : word_index x.kind i ≡ i = ap (λ t. cond t (i / 8) i) e in
        let values : IsTrue (has_values x.kind) = ap (λ t. not t && not (is_guardian x.kind) && not (is_cell x.kind)) e ∙ ap (λ t. not t && not (is_cell x.kind)) is.no_guardian ∙ ap not is.no_cell in (
          subst (λ n. IsLaidOut f (record x { words = set x.words n put.put_word })) (sym at)
              (value_laid_out f x i put.put_word values (subst (IsThereOption f) (sym value.0) v_there) laid),
          ap (λ n. fields_of f (record x { words = set x.words n put.put_word })) at ∙ value_set f x i put.put_word values ∙ ap (λ o. set (fields_of f x) i (read_option f o)) value.0,
          ap (λ t. cond t (is_byte (read f v)) (is_value (read f v))) e ∙ read_fits f v v_there,
        )

    pub sets_stand : (s : State) → Stands h s → Stands (record h { territories = set_in }) (with_field s x.birth (object_of f a x []) i (states.operand_value s op))
    sets_stand s stands =
        let all = both (has_bytes x.kind) refl in
        subst (λ w. Stands (record h { territories = set_in }) (with_field s x.birth (object_of f a x []) i w)) (sym (value_is s stands))
        (field_changed h s stands old new a x words i (read f v) found changed there is.no_cell is.no_guardian all.0 all.1 all.2 (read_there h s stands v v_there))

    no_fault : (has_bytes x.kind && not (is_byte_word v)) ≡ false
    no_fault = by_kind (has_bytes x.kind) refl
      where
        by_kind : (b : Bool) → has_bytes x.kind ≡ b → (b && not (is_byte_word v)) ≡ false
        by_kind false e = refl
        by_kind true e = let byte = put.byte e in ap not (ap is_byte_word byte.2 ∙ lt-ltb byte.0 256 byte.1)

    pub sets_ok : (s : State) (line : ℕ) → Stands h s → Obeys s (step s line (Set r i op)) (Ok tt) (record h { territories = set_in })
    sets_ok s line stands =
        subst (λ q. Obeys s q (Ok tt) (record h { territories = set_in })) (sym (set_is s stands line false true no_fault (lt-ltb i x.length put.within))) (sets_stand s stands)

    in_heap : IsChanged f (starts_in set_in) a (record x { words = words })
    in_heap = is_changed h.territories (thread_of a) old new found valid.stands.territories a (record x { words = words }) changed is.no_cell valid.stands.closed x there

    pub sets_kept : Keeps f (starts_in set_in)
    sets_kept = keeps f (starts_in set_in) a (record x { words = words }) in_heap

    -- the mark tells the generation of what the word refers to
    tells : TellsLower (generation_at f) (get old.starts a) put.put_word put.mark
    tells = subst (λ o. TellsLower (generation_at f) o put.put_word put.mark) (sym there) (λ b g refers_to names told less. by_kind b g refers_to names told (has_bytes x.kind) refl)
      where
        generation_told : (o : Option Start) (g : ℕ) → option_map (λ (y : Start). y.generation) o ≡ Some g → generation_or_255 o ≡ g
        generation_told None g e = absurd (let n : None ≡ Some g = e in cc)
        generation_told (Some y) g e = same_Some _ _ e

        same_word : (u w : Value) → Some u ≡ Some w → u ≡ w
        same_word u w e = cc

        by_kind : (b g : ℕ) → territory.has_values x.kind ≡ true → value_of put.put_word ≡ Some (word.Object b) → generation_at f b ≡ Some g → (t : Bool) → has_bytes x.kind ≡ t → put.mark ≤ g
        by_kind b g refers_to names told true e = absurd (bytes_refer x.kind e refers_to)
        by_kind b g refers_to names told false e =
            let value = put.value e in
            let v_names : v ≡ word.Object b = same_word v (word.Object b) (sym value.0 ∙ names) in
            let same : put.mark ≡ g = value.1 ∙ refers_is ∙ ap (refers_of f) v_names ∙ generation_told (f b) g told in
            omega (arith, same)

    pub sets_cards : HaveSoundCards set_in
    sets_cards = rewritten_cards h valid.state valid.stands valid.cards (thread_of a) old new found a (record x { words = words }) changed x there (put.sound (generation_at f) tells)

    pub sets_valid : IsValid (record h { territories = set_in })
    sets_valid = record {
      state = with_field valid.state x.birth (object_of f a x []) i (states.operand_value valid.state op);
      stands = sets_stand valid.state valid.stands;
      cards = sets_cards;
      plain = plain_changed h (record h { territories = set_in }) a (record x { words = words }) in_heap (valid.plain.kinds a x is.here) refl refl refl valid.plain;
    }
