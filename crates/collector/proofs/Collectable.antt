-- The territories and registers of a valid heap can be collected with allowed arguments.
use Rattle.std.proofs.Common.{◌≡◌, ◌⊎◌, ℕ, ◌+◌, ◌<◌, ◌≤◌, ◌&&◌, ◌||◌, ◌==◌, nat_le, nat_lt, Bool, true, false, cond, get_or, length, slice_get, IsTrue, IsSome, Option, None, Some, refl, sym, ◌∙◌, ap, subst, arith, inl, inr}
use Rattle.std.proofs.lemmas.Bool.{and_parts, eqb-true, false≢true, leb-true, ltb-true, or_cases}
use Rattle.std.proofs.lemmas.List.{length-map}
use Rattle.std.proofs.lemmas.List.Elements.{All-contains}
use Rattle.std.proofs.lemmas.Option.{none-some, same_Some}
use Rattle.gc_words.specs.declared.value.Value.{Value}
use Rattle.gc_words.specs.declared.value.Value.TheVariants as word
use Rattle.gc_words.specs.Word.{value_of}
use Rattle.trace_types.specs.declared.kind.Kind.{Kind}
use Rattle.trace_types.specs.States.{static_generation}
use Rattle.trace_types.specs.Values.{Object}
use Rattle.trace_types.specs.WellFormed.{IsObject, is_generation}
use Rattle.trace_types.specs.Collections.{Arguments, are_allowed}
use Rattle.segment.specs.Segments.{Start}
use Rattle.territory.specs.declared.territory.Targets.{Targets}
use Rattle.territory.specs.Territories.{has_values as may_refer}
use Rattle.sweep_model.specs.World.{is_strong, object_in, strong_value}
use Rattle.sweep_model.proofs.Names.{strong_word, word_in}
use Rattle.heap_store.specs.Starts.{IsThere, IsThereOption, IsWordThere, Starts, has_values, object_of, read}
use Rattle.heap_store.specs.HeapView.{HeapView, starts_of}
use Rattle.heap_store.specs.Plain.{is_plain}
use Rattle.heap_store.specs.Calls.{IsValid}
use Rattle.heap_store.proofs.Kept.{object_some}
use Rattle.heap_store.proofs.Plain.{plain_no_cell}
use Rattle.collect_model.specs.Worlds.{arguments_of}
use Rattle.collect_model.proofs.Members.{each_at}
use Rattle.collect_model.proofs.PlainKinds.{by_kind}
use Rattle.collect_model.proofs.References.{place_is}
use Rattle.collect_model.proofs.Graph.{found_contains}
use Rattle.collect_model.proofs.Rereading.{word_there}
use Rattle.collector.specs.Begun.{AreCollectable}

-- ---- arguments

-- what allowed arguments say of generations
pub record AreOrdered (version oldest : ℕ) (a : Arguments) : Type 0 where
  pub least : a.cg ≤ a.least
  pub greatest : a.least ≤ a.greatest
  pub most : a.greatest ≤ 8
  pub above : (g : ℕ) → IsTrue (is_generation version oldest g) → a.cg < g → a.greatest ≤ g

-- a generation of a state is at most the oldest, or the static one
generation_is : (version oldest g : ℕ) → IsTrue (is_generation version oldest g) → (g ≤ oldest) ⊎ (g ≡ 8)
generation_is version oldest g is = elim (or_cases (nat_le g oldest) (version == 2 && (g == static_generation)) is) [
  | inl low ↦ inl (leb-true g oldest low)
  | inr static ↦ inr (eqb-true g 8 (and_parts (version == 2) (g == 8) static).1)
]

pub allowed_ordered : (version oldest : ℕ) (a : Arguments) → oldest ≤ 7 → IsTrue (are_allowed version oldest a)
    → AreOrdered version oldest a
allowed_ordered version oldest a few allowed =
    let below : Bool =
    nat_lt a.cg oldest && nat_le a.cg a.least && nat_le a.least a.greatest && nat_le a.greatest (a.cg + 1) in
    let at : Bool = (a.cg == oldest) && (a.least == oldest) && (a.greatest == oldest) in
    let static : Bool =
    (version == 2) && (a.cg == oldest) && (a.least == static_generation) && (a.greatest == static_generation) in
    elim (or_cases (below || at) static allowed) [
      | inl one ↦ elim (or_cases below at one) [
        | inl is ↦
            let p = and_parts (nat_lt a.cg oldest && nat_le a.cg a.least && nat_le a.least a.greatest) (nat_le a.greatest (a.cg + 1)) is in
            let q = and_parts (nat_lt a.cg oldest && nat_le a.cg a.least) (nat_le a.least a.greatest) p.0 in
            let r = and_parts (nat_lt a.cg oldest) (nat_le a.cg a.least) q.0 in
            let low : a.cg < oldest = ltb-true a.cg oldest r.0 in
            let least : a.cg ≤ a.least = leb-true a.cg a.least r.1 in
            let greatest : a.least ≤ a.greatest = leb-true a.least a.greatest q.1 in
            let next : a.greatest ≤ a.cg + 1 = leb-true a.greatest (a.cg + 1) p.1 in
            record {
              least = least;
              greatest = greatest;
              most = omega arith;
              above = λ g is more. omega arith;
            }
        | inr is ↦
            let p = and_parts ((a.cg == oldest) && (a.least == oldest)) (a.greatest == oldest) is in
            let q = and_parts (a.cg == oldest) (a.least == oldest) p.0 in
            let cg : a.cg ≡ oldest = eqb-true a.cg oldest q.0 in
            let least : a.least ≡ oldest = eqb-true a.least oldest q.1 in
            let greatest : a.greatest ≡ oldest = eqb-true a.greatest oldest p.1 in
            record {
              least = omega arith;
              greatest = omega arith;
              most = omega arith;
              above = λ g is more. omega arith;
            }
      ]
      | inr is ↦
          let p = and_parts ((version == 2) && (a.cg == oldest) && (a.least == 8)) (a.greatest == 8) is in
          let q = and_parts ((version == 2) && (a.cg == oldest)) (a.least == 8) p.0 in
          let cg : a.cg ≡ oldest = eqb-true a.cg oldest (and_parts (version == 2) (a.cg == oldest) q.0).1 in
          let least : a.least ≡ 8 = eqb-true a.least 8 q.1 in
          let greatest : a.greatest ≡ 8 = eqb-true a.greatest 8 p.1 in
          record {
            least = omega arith;
            greatest = omega arith;
            most = omega arith;
            above = λ g in_state more. elim (generation_is version oldest g in_state) [
              | inl low ↦ absurd (omega arith)
              | inr eight ↦ omega arith
            ];
          }
    ]

-- ---- references

-- a kind of strong fields has values
strong_values : (k : Kind) (i : ℕ) → is_plain k ≡ true → is_strong k i ≡ true → has_values k ≡ true
strong_values k i = by_kind (λ k. is_strong k i ≡ true → has_values k ≡ true) (λ _. refl) (λ _. refl) (λ _. refl)
    (λ strong. absurd (false≢true strong)) k

-- so has one whose words may refer to something
refers_values : (k : Kind) → is_plain k ≡ true → may_refer k ≡ true → has_values k ≡ true
refers_values = by_kind (λ k. may_refer k ≡ true → has_values k ≡ true) (λ _. refl) (λ _. refl) (λ _. refl)
    (λ may. absurd (false≢true may))

module _ (h : HeapView) (valid : IsValid h) where
  abbrev f : Starts
  f = starts_of h

  -- what a word of an object with values names starts somewhere
  word_refers : (a i b : ℕ) (x : Start) → f a ≡ Some x → IsTrue (has_values x.kind)
      → object_in (value_of (get_or x.words i 0)) ≡ Some b → IsSome (f b)
  word_refers a i b x here values e =
      let there : IsWordThere f (get_or x.words i 0) =
      word_there f x.words ((valid.stands.closed.laid_out a x here).values values) i (word_in x.words i b e) in
      object_some (f b) (subst (IsThereOption f) (place_is (value_of (get_or x.words i 0)) b e) there)

  -- a strong field has values
  is_strong_field : (x : Start) (i b : ℕ) → object_in (strong_value (Some x) i) ≡ Some b → is_strong x.kind i ≡ true
  is_strong_field x i b e = at (is_strong x.kind i) refl e
    where
      at : (v : Bool) → is_strong x.kind i ≡ v
          → object_in (cond v (value_of (get_or x.words i 0)) None) ≡ Some b → is_strong x.kind i ≡ true
      at true is e' = is
      at false is e' = absurd (none-some b e')

  strong_refers : (a i b : ℕ) (o : Option Start) → f a ≡ o → object_in (strong_value o i) ≡ Some b → IsSome (f b)
  strong_refers a i b None here e = absurd (none-some b e)
  strong_refers a i b (Some x) here e =
      word_refers a i b x here
      (strong_values x.kind i (valid.plain.kinds a x here) (is_strong_field x i b e)) (strong_word x i b e)

  -- what a register names starts somewhere
  held_refers : (v : Value) (b : ℕ) → IsThere f v → object_in (Some v) ≡ Some b → IsSome (f b)
  held_refers (word.Object a) b there e = subst (λ q. IsSome (f q)) (same_Some a b e) (object_some (f a) there)
  held_refers (word.Fixnum n) b there e = absurd (none-some b e)
  held_refers word.Nil b there e = absurd (none-some b e)
  held_refers word.True b there e = absurd (none-some b e)
  held_refers word.False b there e = absurd (none-some b e)
  held_refers word.Bwp b there e = absurd (none-some b e)

  register_refers : (r b : ℕ) (o : Option Value) → slice_get h.registers r ≡ o → object_in o ≡ Some b → IsSome (f b)
  register_refers r b None is e = absurd (none-some b e)
  register_refers r b (Some v) is e =
      held_refers v b (each_at (IsThere f) h.registers r v valid.stands.registers.there is) e

  -- the generation of what starts somewhere is one of the state
  in_state : (a : ℕ) (x : Start) → f a ≡ Some x → IsTrue (is_generation h.version h.oldest x.generation)
  in_state a x here =
      let there = valid.stands.graph.objects a x here (plain_no_cell h valid.plain a x here) in
      let o : Object = object_of f a x there.queue in
      let its : IsObject valid.state.version valid.state.oldest o =
      All-contains (λ (entry : ℕ × Object). IsObject valid.state.version valid.state.oldest entry.1) valid.state.graph
      (x.birth, o) valid.stands.well_formed.objects (found_contains valid.state.graph x.birth o there.found) in
      subst (λ v. IsTrue (is_generation v h.oldest x.generation)) valid.stands.version
      (subst (λ v. IsTrue (is_generation valid.state.version v x.generation)) valid.stands.oldest its.generation)

  pub collectable : (targets : Targets) → IsTrue (are_allowed h.version h.oldest (arguments_of targets))
      → AreCollectable h.territories h.registers targets
  collectable targets allowed =
      let few : h.oldest ≤ 7 = subst (λ n. n ≤ 7) valid.stands.oldest valid.stands.well_formed.oldest.1 in
      let ordered = allowed_ordered h.version h.oldest (arguments_of targets) few allowed in
      record {
        settled = valid.stands.territories;
        cards = valid.cards;
        fields = λ a i b e. strong_refers a i b (f a) refl e;
        refers = λ a i b x here refers.
            word_refers a i b x here (refers_values x.kind (valid.plain.kinds a x here) refers.values)
            (ap object_in refers.names);
        held = λ r b e. register_refers r b (slice_get h.registers r) refl e;
        count =
            sym (ap length valid.stands.registers.reads ∙ length-map h.registers (read f))
            ∙ valid.stands.well_formed.registers;
        least = ordered.least;
        greatest = ordered.greatest;
        generations = ordered.most;
        above = λ a x here more. ordered.above x.generation (in_state a x here) more;
      }
