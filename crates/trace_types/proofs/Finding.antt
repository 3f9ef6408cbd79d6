-- What is found in a graph, and what its census counts, after a change.
use Rattle.std.proofs.Common.{◌≡◌, ℕ, zero, suc, ◌+◌, ◌/◌, true, false, ◌==◌, List, [], ◌∷◌, ◌++◌, length, set, cond, IsTrue, Some, None, option_map, refl, sym, ap, ◌∙◌, arith, nat_cmp, nat_lt}
use Rattle.std.specs.FinMap.{is_sorted, put, nat_cmp-IsAntisymmetric}
use Rattle.std.specs.FinMap.Entries.{below_all, by_order}
use Rattle.std.specs.declared.cmp.Ordering.TheVariants.{Less, Equal, Greater}
use Rattle.std.proofs.lemmas.Bool.{ne_eqb, and_parts, eq-eqb, cond-true}
use Rattle.std.proofs.lemmas.List.{length-set}
use Rattle.trace_types.specs.declared.kind.Kind.{Kind}
use Rattle.trace_types.specs.declared.kind.Kind.TheVariants.{Pair, Weak, Eph, Boxed, Vector, Bytes, ImmVector, ImmBytes, Guard, OrderedGuard, Cell}
use Rattle.trace_types.specs.Values.{Value, Object, Graph, object_at, size_of, rounded_up}
use Rattle.trace_types.specs.States.{State, new_object, with_new, with_field}
use Rattle.trace_types.specs.Collections.{Arguments, collect, object_left}
use Rattle.trace_types.specs.Rules.{has}
use Rattle.trace_types.specs.Kept.{kept}
use Rattle.trace_types.specs.Printing.{census, of_generation, words_of}
use Rattle.trace_types.specs.WellFormed.{AllBefore, IsWellFormed}
use Rattle.trace_types.specs.Laws.{NewCounts}
use Rattle.trace_types.proofs.Least.{list_all_from_each}
use Rattle.trace_types.proofs.Graphs.{object_at-graph_left, put_last, find_first}
use Rattle.trace_types.proofs.Stepping.{births_before, found_below, found_later}
use Rattle.trace_types.proofs.Counting.{words-more, objects-more, words-of-generation}
use Rattle.trace_types.proofs.Differing.{one_if}

pub left_found : (s : State) (a : Arguments) (q : ℕ) → object_at (collect s a).graph q ≡ cond (has (kept s a.cg) q) (option_map (object_left s a q) (object_at s.graph q)) None
unfolding collect
left_found s a q = object_at-graph_left s a q

-- ---- a new object

module _ (s : State) (line d : ℕ) (kind : Kind) (fields : List Value) (before : AllBefore s line) where
  abbrev grown : Graph
  grown = s.graph ++ (line, new_object s kind fields) ∷ []

  new_last : (with_new s line d kind fields).graph ≡ grown
  new_last = put_last s.graph line (new_object s kind fields) (list_all_from_each (λ e. nat_lt e.0 line) s.graph (births_before s line before))

  more_objects : (g : ℕ) (graph : Graph) → length (of_generation g (graph ++ (line, new_object s kind fields) ∷ [])) ≡ length (of_generation g graph) + cond (g == 0) 1 0
  more_objects zero [] = refl
  more_objects (suc g) [] = rw (ne_eqb 0 (suc g) (λ e. omega arith), ne_eqb (suc g) 0 (λ e. omega arith)) refl
  more_objects g (e ∷ graph) =
      let rest = more_objects g graph in
      elim (e.1.generation == g) as (λ b. length (cond b (e ∷ of_generation g (graph ++ (line, new_object s kind fields) ∷ [])) (of_generation g (graph ++ (line, new_object s kind fields) ∷ []))) ≡ length (cond b (e ∷ of_generation g graph) (of_generation g graph)) + cond (g == 0) 1 0) [
        | true ↦ omega (arith, rest)
        | false ↦ rest
      ]

  more_words : (g : ℕ) (graph : Graph) → words_of (of_generation g (graph ++ (line, new_object s kind fields) ∷ [])) ≡ words_of (of_generation g graph) + cond (g == 0) (size_of kind fields) 0
  more_words zero [] = refl
  more_words (suc g) [] = rw (ne_eqb 0 (suc g) (λ e. omega arith), ne_eqb (suc g) 0 (λ e. omega arith)) refl
  more_words g (e ∷ graph) =
      let rest = more_words g graph in
      elim (e.1.generation == g) as (λ b. words_of (cond b (e ∷ of_generation g (graph ++ (line, new_object s kind fields) ∷ [])) (of_generation g (graph ++ (line, new_object s kind fields) ∷ []))) ≡ words_of (cond b (e ∷ of_generation g graph) (of_generation g graph)) + cond (g == 0) (size_of kind fields) 0) [
        | true ↦
            let one = words-more e (of_generation g (graph ++ (line, new_object s kind fields) ∷ [])) in
            let two = words-more e (of_generation g graph) in
            omega (arith, rest, one, two)
        | false ↦ rest
      ]

  pub new_counts : NewCounts s line d kind fields
  new_counts = record {
    last = new_last;
    objects = λ g. ap (λ (graph : Graph). length (of_generation g graph)) new_last ∙ more_objects g s.graph;
    words = λ g. ap (λ (graph : Graph). words_of (of_generation g graph)) new_last ∙ more_words g s.graph;
  }

-- ---- a changed object of the same generation and size

same_size : (kind : Kind) (fields others : List Value) → length others ≡ length fields → size_of kind others ≡ size_of kind fields
same_size Pair fields others e = refl
same_size Weak fields others e = refl
same_size Eph fields others e = refl
same_size Boxed fields others e = refl
same_size Vector fields others e = ap (λ n. rounded_up (1 + n)) e
same_size ImmVector fields others e = ap (λ n. rounded_up (1 + n)) e
same_size Bytes fields others e = ap (λ n. rounded_up (1 + (n + 7) / 8)) e
same_size ImmBytes fields others e = ap (λ n. rounded_up (1 + (n + 7) / 8)) e
same_size Guard fields others e = refl
same_size OrderedGuard fields others e = refl
same_size Cell fields others e = refl

module _ (x : ℕ) (o o' : Object) (same_generation : o'.generation ≡ o.generation) (same_words : size_of o'.kind o'.fields ≡ size_of o.kind o.fields) (k : ℕ) where
  found_first : (e : ℕ × Object) (g : Graph) → object_at (e ∷ g) x ≡ Some o → nat_cmp x e.0 ≡ Equal → e.1 ≡ o
  found_first e g found is = same_Some (sym (cond-true (x == e.0) (Some e.1) (object_at g x) (eq-eqb x e.0 (nat_cmp-IsAntisymmetric x e.0 is))) ∙ sym (find_first x e g) ∙ found)
    where
      same_Some : {a b : Object} → Some a ≡ Some b → a ≡ b
      same_Some h = cc

  not_found : None ≡ Some o → ⊥
  not_found h = cc

  objects_put : (g : Graph) → IsTrue (is_sorted nat_cmp g) → object_at g x ≡ Some o → length (of_generation k (put nat_cmp x o' g)) ≡ length (of_generation k g)
  objects_put [] ordered found = absurd (not_found found)
  objects_put (e ∷ g) ordered found =
      let parts = and_parts (below_all nat_cmp e.0 g) (is_sorted nat_cmp g) ordered in
      elim (nat_cmp x e.0) as (λ r. nat_cmp x e.0 ≡ r → length (of_generation k (by_order r ((x, o') ∷ e ∷ g) ((e.0, o') ∷ g) (e ∷ put nat_cmp x o' g))) ≡ length (of_generation k (e ∷ g))) [
        | Less ↦ λ less. absurd (found_below x o' e g o ordered found less)
        | Equal ↦ λ is.
            let same : o'.generation ≡ e.1.generation = same_generation ∙ ap (λ (q : Object). q.generation) (sym (found_first e g found is)) in
            objects-more k (e.0, o') g ∙ ap (λ n. one_if (n == k) + length (of_generation k g)) same ∙ sym (objects-more k e g)
        | Greater ↦ λ greater.
            objects-more k e (put nat_cmp x o' g) ∙ ap (λ n. one_if (e.1.generation == k) + n) (objects_put g parts.1 (found_later x o' e g o found greater)) ∙ sym (objects-more k e g)
      ] refl

  words_put : (g : Graph) → IsTrue (is_sorted nat_cmp g) → object_at g x ≡ Some o → words_of (of_generation k (put nat_cmp x o' g)) ≡ words_of (of_generation k g)
  words_put [] ordered found = absurd (not_found found)
  words_put (e ∷ g) ordered found =
      let parts = and_parts (below_all nat_cmp e.0 g) (is_sorted nat_cmp g) ordered in
      elim (nat_cmp x e.0) as (λ r. nat_cmp x e.0 ≡ r → words_of (of_generation k (by_order r ((x, o') ∷ e ∷ g) ((e.0, o') ∷ g) (e ∷ put nat_cmp x o' g))) ≡ words_of (of_generation k (e ∷ g))) [
        | Less ↦ λ less. absurd (found_below x o' e g o ordered found less)
        | Equal ↦ λ is.
            let there = sym (found_first e g found is) in
            words-of-generation k (e.0, o') g
            ∙ (λ i. cond (same_generation i == k) (same_words i) 0 + words_of (of_generation k g))
            ∙ ap (λ (q : Object). cond (q.generation == k) (size_of q.kind q.fields) 0 + words_of (of_generation k g)) there
            ∙ sym (words-of-generation k e g)
        | Greater ↦ λ greater.
            words-of-generation k e (put nat_cmp x o' g) ∙ ap (λ n. cond (e.1.generation == k) (size_of e.1.kind e.1.fields) 0 + n) (words_put g parts.1 (found_later x o' e g o found greater)) ∙ sym (words-of-generation k e g)
      ] refl

pub census-with_field : (s : State) (x index : ℕ) (o : Object) (v : Value) → IsWellFormed s → object_at s.graph x ≡ Some o → census (with_field s x o index v).graph ≡ census s.graph
census-with_field s x index o v well found = λ i. (counts 0 i) ∷ (counts 1 i) ∷ (counts 2 i) ∷ (counts 3 i) ∷ (counts 4 i) ∷ (counts 5 i) ∷ (counts 6 i) ∷ (counts 7 i) ∷ (counts 8 i) ∷ []
  where
    o' : Object
    o' = record o { fields = set o.fields index v }

    size : size_of o'.kind o'.fields ≡ size_of o.kind o.fields
    size = same_size o.kind o.fields (set o.fields index v) (length-set o.fields index v)

    counts : (k : ℕ) → ◌≡◌ {A = ℕ × ℕ} (length (of_generation k (put nat_cmp x o' s.graph)), words_of (of_generation k (put nat_cmp x o' s.graph))) (length (of_generation k s.graph), words_of (of_generation k s.graph))
    counts k = λ i. (objects_put x o o' refl size k s.graph well.ordered found i, words_put x o o' refl size k s.graph well.ordered found i)
