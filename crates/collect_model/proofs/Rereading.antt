-- A value that was there reads in the end, where it now refers to, as it read before.
use Rattle.std.proofs.Common.{◌≡◌, ℕ, suc, ◌<◌, Bool, true, false, not, cond, List, [], ◌∷◌, map, length, get_or, slice_get, Contains, IsTrue, Option, None, Some, refl, sym, ◌∙◌, ap, subst, arith}
use Rattle.std.specs.List.{AllByRecursion}
use Rattle.std.proofs.lemmas.Option.{none-some, slice_get-get_or}
use Rattle.gc_words.specs.declared.value.Value.{Value}
use Rattle.gc_words.specs.declared.value.Value.TheVariants as word
use Rattle.gc_words.specs.Word.{value_of}
use Rattle.trace_types.specs.Values.{object}
use Rattle.gc_mail.specs.Recipients.{owner}
use Rattle.sweep_model.specs.World.{World, IsWorld, if_collected, is_collected, object_in}
use Rattle.sweep_model.specs.Hands.{Hand}
use Rattle.sweep_model.proofs.Names.{collected_some}
use Rattle.heap_store.specs.Starts.{Starts, IsThere, IsThereOption, IsWordThere, birth_of, is_cell, is_object, read, read_option, read_word}
use Rattle.heap_store.proofs.Kept.{object_some, some_is}
use Rattle.collect_model.specs.Worlds.{HasEnded}
use Rattle.collect_model.proofs.Members.{each_at}
use Rattle.collect_model.proofs.References.{place_is}
use Rattle.collect_model.proofs.Landing.{Lands, copy_lands, older_lands}

-- o' is there in g, and reads as o does in f
pub record ReadsAs (f g : Starts) (o o' : Option Value) : Type 0 where
  pub there : IsThereOption g o'
  pub same : read_option g o' ≡ read_option f o

-- ---- lists

-- lists whose values read alike, each with its own
each_again : {X : Type 0} (value : X → Option Value) (f g : Starts) (xs ys : List X) (d : X)
    → length ys ≡ length xs
    → ((i : ℕ) → i < length xs → ReadsAs f g (value (get_or xs i d)) (value (get_or ys i d)))
    → AllByRecursion (λ y. IsThereOption g (value y)) ys
    × (map (λ y. read_option g (value y)) ys ≡ map (λ x. read_option f (value x)) xs)
each_again value f g [] [] d count each = (tt, refl)
each_again value f g [] (y ∷ ys) d count each = absurd (omega arith)
each_again value f g (x ∷ xs) [] d count each = absurd (omega arith)
each_again value f g (x ∷ xs) (y ∷ ys) d count each =
    let first = each 0 (omega arith) in
    let rest = each_again value f g xs ys d (omega arith) (λ i below. each (suc i) (omega arith)) in
    ((first.there, rest.0), λ i. first.same i ∷ rest.1 i)

-- words that read alike, each with its own
pub words_again : (f g : Starts) (ws ws' : List ℕ) → length ws' ≡ length ws
    → ((i : ℕ) → i < length ws → ReadsAs f g (value_of (get_or ws i 0)) (value_of (get_or ws' i 0)))
    → AllByRecursion (IsWordThere g) ws' × (map (read_word g) ws' ≡ map (read_word f) ws)
words_again f g ws ws' = each_again value_of f g ws ws' 0

-- and values
pub values_again : (f g : Starts) (vs vs' : List Value) → length vs' ≡ length vs
    → ((i : ℕ) → i < length vs → ReadsAs f g (slice_get vs i) (slice_get vs' i))
    → AllByRecursion (IsThere g) vs' × (map (read g) vs' ≡ map (read f) vs)
values_again f g vs vs' count each = each_again Some f g vs vs' word.Nil count (λ i below.
    subst (λ o. ReadsAs f g o (Some (get_or vs' i word.Nil))) (slice_get-get_or vs i word.Nil below)
    (subst (ReadsAs f g (slice_get vs i)) (slice_get-get_or vs' i word.Nil (omega (arith, count, below)))
    (each i below)))

-- a word of words that are there is there
pub word_there : (f : Starts) (ws : List ℕ) → AllByRecursion (IsWordThere f) ws → (i : ℕ) → i < length ws
    → IsWordThere f (get_or ws i 0)
word_there f ws all i below =
    each_at (IsWordThere f) ws i (get_or ws i 0) all (slice_get-get_or ws i 0 below)

-- and a value
pub value_there : (f : Starts) (vs : List Value) → AllByRecursion (IsThere f) vs → (i : ℕ) → i < length vs
    → IsThereOption f (slice_get vs i)
value_there f vs all i below =
    let is = slice_get-get_or vs i word.Nil below in
    subst (IsThereOption f) (sym is) (each_at (IsThere f) vs i (get_or vs i word.Nil) all is)

-- ---- values

none_collected : (b : Bool) (t : ℕ) → cond b (Some t) None ≡ None → b ≡ false
none_collected true t e = absurd (none-some t (sym e))
none_collected false t e = refl

module _ (world : World) (hands : ℕ → Hand) (g : Starts) where
  -- an object reads as before at its place
  object_again : (x p : ℕ) → Lands world hands g x p → IsTrue (is_object (world.image x))
      → ReadsAs world.image g (Some (word.Object x)) (Some (word.Object p))
  object_again x p l there = record {
    there =
        ap is_object l.here ∙ ap (λ k. not (is_cell k)) l.kept.kind ∙ sym (ap is_object l.kept.was) ∙ there;
    same = ap object (ap birth_of l.here ∙ l.kept.birth ∙ sym (ap birth_of l.kept.was));
  }

module _ (world : World) (hands : ℕ → Hand) (g : Starts) (registers : List Value) (good : IsWorld world)
    (ended : HasEnded world hands g registers) where
  -- a value that asks for nothing reads as before
  value_stays : (v : Value) → IsThere world.image v → if_collected world (object_in (Some v)) ≡ None
      → ReadsAs world.image g (Some v) (Some v)
  value_stays (word.Fixnum z) there none = record { there = there; same = refl }
  value_stays word.Nil there none = record { there = there; same = refl }
  value_stays word.True there none = record { there = there; same = refl }
  value_stays word.False there none = record { there = there; same = refl }
  value_stays word.Bwp there none = record { there = there; same = refl }
  value_stays (word.Object a) there none =
      let s = some_is (world.image a) (object_some (world.image a) there) in
      let older = none_collected (is_collected world a) a none in
      object_again world hands g a a (older_lands world hands g registers good ended a s.0 s.1 older) there

  stays : (o : Option Value) → IsThereOption world.image o → if_collected world (object_in o) ≡ None
      → ReadsAs world.image g o o
  stays None there none = absurd there
  stays (Some v) there none = value_stays v there none

  -- one that asks for an object reads as before where it has the place of its copy
  moves : (o : Option Value) (t q : ℕ) → IsThereOption world.image o → object_in o ≡ Some t
      → Contains (hands (owner world.sweepers t)).own (t, q) → ReadsAs world.image g o (Some (word.Object q))
  moves o t q there names copy =
      let is = place_is o t names in
      let at = object_again world hands g t q (copy_lands world hands g registers good ended t q copy)
      (subst (IsThereOption world.image) is there) in
      subst (λ z. ReadsAs world.image g z (Some (word.Object q))) (sym is) at

  -- so a value reads as before that is the same, or has the place of the object that is asked for
  pub reads_again : (o o' : Option Value) (asked : Option ℕ) → IsThereOption world.image o
      → if_collected world (object_in o) ≡ asked
      → (asked ≡ None → o' ≡ o)
      → ((t : ℕ) → asked ≡ Some t
      → (q : ℕ) × Contains (hands (owner world.sweepers t)).own (t, q) × (o' ≡ Some (word.Object q)))
      → ReadsAs world.image g o o'
  reads_again o o' None there asks same moved =
      subst (ReadsAs world.image g o) (sym (same refl)) (stays o there asks)
  reads_again o o' (Some t) there asks same moved =
      let m = moved t refl in
      let names = (collected_some world (object_in o) t asks).0 in
      subst (ReadsAs world.image g o) (sym m.2) (moves o t m.0 there names m.1)
