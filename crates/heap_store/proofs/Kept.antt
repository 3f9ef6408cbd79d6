-- What reads as before where each start keeps its place, kind, birth and generation.
use Rattle.std.proofs.Common.{◌≡◌, ℕ, zero, suc, get_or, Bool, true, false, not, List, [], ◌∷◌, map, min, flat_map, IsTrue, IsSome, Option, Some, None, refl, sym, ◌∙◌, ap, subst}
use Rattle.std.specs.List.{AllByRecursion}
use Rattle.std.proofs.lemmas.Bool.{false≢true}
use Rattle.gc_words.specs.declared.value.Value.{Value}
use Rattle.gc_words.specs.declared.value.Value.TheVariants as word
use Rattle.gc_words.specs.declared.registration.Registration.{Registration}
use Rattle.gc_words.specs.Word.{value_of}
use Rattle.gc_words.specs.Layout.{thread_of}
use Rattle.trace_types.specs.declared.kind.Kind.{Kind}
use Rattle.trace_types.specs.declared.kind.Kind.TheVariants as kind
use Rattle.trace_types.specs.Values as values
use Rattle.trace_types.specs.Values.{object, fixnum, has_bytes, is_guardian, Object}
use Rattle.trace_types.specs.States as states
use Rattle.trace_types.proofs.Least.{each_weaker}
use Rattle.trace_types.proofs.Meeting.{each_flat_map}
use Rattle.segment.specs.Segments.{Start}
use Rattle.heap_store.specs.declared.notes.Noted.{Noted}
use Rattle.heap_store.specs.declared.notes.Noted.TheVariants as note
use Rattle.heap_store.specs.Starts.{Starts, is_cell, is_object, birth_of, has_values, read, read_option, read_word, IsThere, IsThereOption, IsWordThere, fields_of, object_of, IsLaidOut, lasting, Keeps}
use Rattle.heap_store.specs.Queues.{Queue, first_word_of, IsCell, AreCells, HasQueue}
use Rattle.heap_store.specs.Roots.{RegistersStand, read_note, IsNoteThere, NotesStand, read_registration, IsRegistrationThere, by_line, generation_of, generation_of_value, level_of, RegistryStands}

-- ---- options

pub some_is : (o : Option Start) → IsSome o → (x : Start) × (o ≡ Some x)
some_is None h = absurd (false≢true h)
some_is (Some x) h = (x, refl)

pub is_some : (o : Option Start) (x : Start) → o ≡ Some x → IsSome o
is_some o x e = subst IsSome (sym e) refl

pub object_some : (o : Option Start) → IsTrue (is_object o) → IsSome o
object_some None h = absurd (false≢true h)
object_some (Some x) h = refl

-- ---- what lasts

abbrev object_in : Option (Kind × ℕ × ℕ) → Bool
object_in None = false
object_in (Some p) = not (is_cell p.0)

abbrev birth_in : Option (Kind × ℕ × ℕ) → ℕ
birth_in None = 0
birth_in (Some p) = p.1

abbrev generation_in : Option (Kind × ℕ × ℕ) → ℕ
generation_in None = 8
generation_in (Some p) = p.2

lasting_object : (o : Option Start) → is_object o ≡ object_in (lasting o)
lasting_object None = refl
lasting_object (Some x) = refl

lasting_birth : (o : Option Start) → birth_of o ≡ birth_in (lasting o)
lasting_birth None = refl
lasting_birth (Some x) = refl

lasting_generation : (o : Option Start) → generation_of o ≡ generation_in (lasting o)
lasting_generation None = refl
lasting_generation (Some x) = refl

pub same_object : (o p : Option Start) → lasting o ≡ lasting p → is_object o ≡ is_object p
same_object o p e = lasting_object o ∙ ap object_in e ∙ sym (lasting_object p)

pub same_birth : (o p : Option Start) → lasting o ≡ lasting p → birth_of o ≡ birth_of p
same_birth o p e = lasting_birth o ∙ ap birth_in e ∙ sym (lasting_birth p)

pub same_generation : (o p : Option Start) → lasting o ≡ lasting p → generation_of o ≡ generation_of p
same_generation o p e = lasting_generation o ∙ ap generation_in e ∙ sym (lasting_generation p)

-- ---- lists

pub map_same : {X Y : Type 0} (P : X → Type 0) (u v : X → Y) → ((x : X) → P x → u x ≡ v x) → (xs : List X) → AllByRecursion P xs → map u xs ≡ map v xs
map_same P u v h [] all = refl
map_same P u v h (x ∷ xs) all = λ i. h x all.0 i ∷ map_same P u v h xs all.1 i

pub at_index : {X : Type 0} (P : X → Type 0) (d : X) → P d → (xs : List X) → AllByRecursion P xs → (i : ℕ) → P (get_or xs i d)
at_index P d past [] all i = past
at_index P d past (x ∷ xs) all zero = all.0
at_index P d past (x ∷ xs) all (suc i) = at_index P d past xs all.1 i

-- ---- what reads as before

module _ (f g : Starts) (keeps : Keeps f g) where
  pub place_kept : (a : ℕ) → IsTrue (is_object (f a)) → is_object (g a) ≡ true
  place_kept a h = same_object (g a) (f a) (keeps a (object_some (f a) h)) ∙ h

  pub birth_kept : (a : ℕ) → IsTrue (is_object (f a)) → birth_of (g a) ≡ birth_of (f a)
  birth_kept a h = same_birth (g a) (f a) (keeps a (object_some (f a) h))

  pub generation_kept : (a : ℕ) → IsTrue (is_object (f a)) → generation_of (g a) ≡ generation_of (f a)
  generation_kept a h = same_generation (g a) (f a) (keeps a (object_some (f a) h))

  pub read_kept : (v : Value) → IsThere f v → read g v ≡ read f v
  read_kept (word.Fixnum n) h = refl
  read_kept word.Nil h = refl
  read_kept word.True h = refl
  read_kept word.False h = refl
  read_kept word.Bwp h = refl
  read_kept (word.Object a) h = ap object (birth_kept a h)

  pub there_kept : (v : Value) → IsThere f v → IsThere g v
  there_kept (word.Fixnum n) h = h
  there_kept word.Nil h = h
  there_kept word.True h = h
  there_kept word.False h = h
  there_kept word.Bwp h = h
  there_kept (word.Object a) h = place_kept a h

  level_part_kept : (v : Value) → IsThere f v → generation_of_value g v ≡ generation_of_value f v
  level_part_kept (word.Fixnum n) h = refl
  level_part_kept word.Nil h = refl
  level_part_kept word.True h = refl
  level_part_kept word.False h = refl
  level_part_kept word.Bwp h = refl
  level_part_kept (word.Object a) h = generation_kept a h

  read_option_kept : (o : Option Value) → IsThereOption f o → read_option g o ≡ read_option f o
  read_option_kept None h = absurd h
  read_option_kept (Some v) h = read_kept v h

  there_option_kept : (o : Option Value) → IsThereOption f o → IsThereOption g o
  there_option_kept None h = h
  there_option_kept (Some v) h = there_kept v h

  pub word_kept : (w : ℕ) → IsWordThere f w → read_word g w ≡ read_word f w
  word_kept w h = read_option_kept (value_of w) h

  pub word_there_kept : (w : ℕ) → IsWordThere f w → IsWordThere g w
  word_there_kept w h = there_option_kept (value_of w) h

  pub words_kept : (ws : List ℕ) → AllByRecursion (IsWordThere f) ws → map (read_word g) ws ≡ map (read_word f) ws
  words_kept ws h = map_same (IsWordThere f) (read_word g) (read_word f) word_kept ws h

  pub words_there_kept : (ws : List ℕ) → AllByRecursion (IsWordThere f) ws → AllByRecursion (IsWordThere g) ws
  words_there_kept ws h = each_weaker (IsWordThere f) (IsWordThere g) word_there_kept ws h

  -- ---- objects

  abbrev fields_by : Starts → Kind → ℕ → List ℕ → List values.Value
  fields_by s k n ws = fields_of s (record { kind = k; length = n; generation = 0; birth = 0; words = ws })

  by_kind : (k : Kind) (n : ℕ) (ws : List ℕ) → is_cell k ≡ false → (IsTrue (has_values k) → AllByRecursion (IsWordThere f) ws) → fields_by g k n ws ≡ fields_by f k n ws
  by_kind kind.Pair n ws lacks h = words_kept ws (h refl)
  by_kind kind.Weak n ws lacks h = words_kept ws (h refl)
  by_kind kind.Eph n ws lacks h = words_kept ws (h refl)
  by_kind kind.Boxed n ws lacks h = words_kept ws (h refl)
  by_kind kind.Vector n ws lacks h = words_kept ws (h refl)
  by_kind kind.ImmVector n ws lacks h = words_kept ws (h refl)
  by_kind kind.Bytes n ws lacks h = refl
  by_kind kind.ImmBytes n ws lacks h = refl
  by_kind kind.Guard n ws lacks h = refl
  by_kind kind.OrderedGuard n ws lacks h = refl
  by_kind kind.Cell n ws lacks h = absurd (false≢true (sym lacks))

  pub fields_kept : (x : Start) → is_cell x.kind ≡ false → IsLaidOut f x → fields_of g x ≡ fields_of f x
  fields_kept x lacks h = by_kind x.kind x.length x.words lacks h.values

  pub laid_out_kept : (x : Start) → IsLaidOut f x → IsLaidOut g x
  laid_out_kept x h = record {
    sized = h.sized;
    words = h.words;
    values = λ v. words_there_kept x.words (h.values v);
    padding = h.padding;
  }

  pub object_kept : (a : ℕ) (x : Start) (q : Queue) → is_cell x.kind ≡ false → IsLaidOut f x → object_of g a x q ≡ object_of f a x q
  object_kept a x q lacks h = ap (λ fields. let o : Object = record { kind = x.kind; creator = thread_of a; generation = x.generation; fields = fields; queue = q } in o) (fields_kept x lacks h)

  -- ---- registers, notes, registrations

  pub registers_kept : (vs : List Value) (held : List values.Value) → RegistersStand f vs held → RegistersStand g vs held
  registers_kept vs held h = record {
    there = each_weaker (IsThere f) (IsThere g) there_kept vs h.there;
    reads = h.reads ∙ sym (map_same (IsThere f) (read g) (read f) read_kept vs h.there);
  }

  note_there_kept : (n : Noted) → IsNoteThere f n → IsNoteThere g n
  note_there_kept note.Empty h = h
  note_there_kept (note.Set a) h = place_kept a h
  note_there_kept note.Gone h = h

  note_kept : (n : Noted) → IsNoteThere f n → read_note g n ≡ read_note f n
  note_kept note.Empty h = refl
  note_kept (note.Set a) h = ap states.set_to (birth_kept a h)
  note_kept note.Gone h = refl

  pub notes_kept : (ns : List Noted) (noted : List states.Note) → NotesStand f ns noted → NotesStand g ns noted
  notes_kept ns noted h = record {
    there = each_weaker (IsNoteThere f) (IsNoteThere g) note_there_kept ns h.there;
    reads = h.reads ∙ sym (map_same (IsNoteThere f) (read_note g) (read_note f) note_kept ns h.there);
  }

  registration_there_kept : (r : Registration) → IsRegistrationThere f r → IsRegistrationThere g r
  registration_there_kept r h = record {
    guardian = place_kept r.guardian h.guardian;
    object = there_kept r.object h.object;
    representative = there_kept r.representative h.representative;
  }

  registration_kept : (r : Registration) → IsRegistrationThere f r → read_registration g r ≡ read_registration f r
  registration_kept r h = λ i. let x : states.Registration = record {
    line = r.line;
    guardian = birth_kept r.guardian h.guardian i;
    object = read_kept r.object h.object i;
    representative = read_kept r.representative h.representative i;
  } in x

  level_kept : (r : Registration) → IsRegistrationThere f r → level_of g r ≡ level_of f r
  level_kept r h = λ i. min (generation_kept r.guardian h.guardian i) (min (level_part_kept r.object h.object i) (level_part_kept r.representative h.representative i))

  level_list_kept : (level : ℕ) (rs : List Registration) → AllByRecursion (IsRegistrationThere f) rs → AllByRecursion (λ r. level_of f r ≡ level) rs → AllByRecursion (λ r. level_of g r ≡ level) rs
  level_list_kept level [] there h = tt
  level_list_kept level (r ∷ rs) there h = (level_kept r there.0 ∙ h.0, level_list_kept level rs there.1 h.1)

  pub registry_kept : (registry : List (List Registration)) (registrations : List states.Registration) → RegistryStands f registry registrations → RegistryStands g registry registrations
  registry_kept registry registrations h = record {
    there = each_weaker (AllByRecursion (IsRegistrationThere f)) (AllByRecursion (IsRegistrationThere g))
        (λ rs each. each_weaker (IsRegistrationThere f) (IsRegistrationThere g) registration_there_kept rs each) registry h.there;
    levels = λ level below. level_list_kept level (get_or registry level []) (at_index (AllByRecursion (IsRegistrationThere f)) [] tt registry h.there level) (h.levels level below);
    reads = h.reads ∙ ap by_line (sym (map_same (IsRegistrationThere f) (read_registration g) (read_registration f) registration_kept (flat_map (λ rs. rs) registry) (each_flat_map (IsRegistrationThere f) (λ rs. rs) registry h.there)));
  }

  -- ---- queues

  cell_kept : (thread generation c next : ℕ) (entry : values.Value × ℕ) → ((b : ℕ) (y : Start) → f b ≡ Some y → is_cell y.kind ≡ true → g b ≡ Some y) → IsCell f thread generation c next entry → IsCell g thread generation c next entry
  cell_kept thread generation c next entry cells h = record {
    first = h.first;
    here = cells c (record { kind = kind.Cell; length = 2; generation = generation; birth = entry.1; words = h.first ∷ next ∷ [] }) h.here refl;
    thread_is = h.thread_is;
    there = word_there_kept h.first h.there;
    value = word_kept h.first h.there ∙ h.value;
  }

  cells_kept : (thread generation : ℕ) → ((b : ℕ) (y : Start) → f b ≡ Some y → is_cell y.kind ≡ true → g b ≡ Some y) → (cells : List ℕ) (q : Queue) → AreCells f thread generation cells q → AreCells g thread generation cells q
  cells_kept thread generation same [] [] h = h
  cells_kept thread generation same [] (e ∷ q) h = h
  cells_kept thread generation same (c ∷ cells) [] h = h
  cells_kept thread generation same (c ∷ cells) (e ∷ q) h = (cell_kept thread generation c (first_word_of cells) e same h.0, cells_kept thread generation same cells q h.1)

  -- where the cells are as they were, a guardian has the queue that it had
  pub queue_kept : ((b : ℕ) (y : Start) → f b ≡ Some y → is_cell y.kind ≡ true → g b ≡ Some y) → (a : ℕ) (x : Start) (cells : List ℕ) (q : Queue) → HasQueue f a x cells q → HasQueue g a x cells q
  queue_kept same a x cells q h = record {
    are_cells = cells_kept (thread_of a) x.generation same cells q h.are_cells;
    ends = h.ends;
    no_guardian = h.no_guardian;
  }

-- ---- what is no guardian has no queue

no_entries : (f : Starts) (thread generation : ℕ) (q : Queue) → AreCells f thread generation [] q → q ≡ []
no_entries f thread generation [] h = refl
no_entries f thread generation (e ∷ q) h = absurd h

pub no_queue : (f : Starts) (a : ℕ) (x : Start) (cells : List ℕ) (q : Queue) → is_guardian x.kind ≡ false → HasQueue f a x cells q → q ≡ []
no_queue f a x cells q lacks h = no_entries f (thread_of a) x.generation q (subst (λ cells. AreCells f (thread_of a) x.generation cells q) (h.no_guardian lacks) h.are_cells)

pub empty_queue : (f : Starts) (a : ℕ) (x : Start) → is_guardian x.kind ≡ false → HasQueue f a x [] []
empty_queue f a x lacks = record { are_cells = tt; ends = λ is. absurd (false≢true (sym lacks ∙ is)); no_guardian = λ _. refl }
