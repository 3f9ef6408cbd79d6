-- The path that is defined is a walk of least length, and the first of these.
use Rattle.std.proofs.Common.{◌≡◌, ℕ, zero, suc, ◌+◌, ◌≤◌, ◌<◌, ◌⊎◌, true, false, not, ◌||◌, ◌==◌, List, [], ◌∷◌, ◌++◌, length, map, filter, flat_map, cond, IsTrue, Option, Some, None, refl, sym, ap, subst, ◌∙◌, arith, nat_lt, inl, inr}
use Rattle.std.specs.List.{AllByRecursion}
use Rattle.std.proofs.lemmas.Bool.{or_cases, or_left, or_right, cases_Bool, eqb-true, eq-eqb, ne_eqb, eqb-false, false≢true, cond-true, cond-false, ltb-true, ltb-false, both_ways, not_from_false}
use Rattle.std.proofs.lemmas.List.{length-map}
use Rattle.trace_types.specs.Values.{Value, fixnum, nil, true_value, false_value, bwp, object, Object, Graph, object_at, strong_values}
use Rattle.trace_types.specs.Rules.{has, ◌⊆◌}
use Rattle.trace_types.specs.Finder.{first_index, indexed, steps_at, walks, first_or, shortest, path, step_at, next_of, led, IsBefore, IsPath}
use Rattle.trace_types.specs.Laws.{FindsPath}
use Rattle.trace_types.proofs.Least.{each_weaker}
use Rattle.trace_types.proofs.Meeting.{each_flat_map, each_found}
use Rattle.trace_types.proofs.Preserving.{each_map}
use Rattle.trace_types.proofs.Answering.{each_born}

-- ---- steps, in ascending order of index

abbrev Above : ℕ → List (ℕ × ℕ) → Type 0
Above n ss = AllByRecursion (λ t. n < t.0) ss

abbrev Ascends : List (ℕ × ℕ) → Type 0
Ascends [] = Unit {0}
Ascends (s ∷ ss) = Above s.0 ss × Ascends ss

indexed_from : (n : ℕ) (vs : List Value) → AllByRecursion (λ t. n ≤ t.0) (indexed n vs)
indexed_from n [] = tt
indexed_from n (v ∷ vs) = by_value v (each_weaker (λ t. suc n ≤ t.0) (λ t. n ≤ t.0) (λ t h. omega arith) (indexed (suc n) vs) (indexed_from (suc n) vs))
  where
    by_value : (v : Value) → AllByRecursion (λ t. n ≤ t.0) (indexed (suc n) vs) → AllByRecursion (λ t. n ≤ t.0) (indexed n (v ∷ vs))
    by_value (object x) later = (omega arith, later)
    by_value (fixnum m) later = later
    by_value nil later = later
    by_value true_value later = later
    by_value false_value later = later
    by_value bwp later = later

indexed_ascends : (n : ℕ) (vs : List Value) → Ascends (indexed n vs)
indexed_ascends n [] = tt
indexed_ascends n (v ∷ vs) = by_value v (indexed_ascends (suc n) vs)
  where
    by_value : (v : Value) → Ascends (indexed (suc n) vs) → Ascends (indexed n (v ∷ vs))
    by_value (object x) later = (each_weaker (λ t. suc n ≤ t.0) (λ t. n < t.0) (λ t h. omega arith) (indexed (suc n) vs) (indexed_from (suc n) vs), later)
    by_value (fixnum m) later = later
    by_value nil later = later
    by_value true_value later = later
    by_value false_value later = later
    by_value bwp later = later

steps_ascend : (o : Option Object) → Ascends (steps_at o)
steps_ascend None = tt
steps_ascend (Some o) = indexed_ascends (first_index o.kind) (strong_values o)

-- each step is the one with its index
each_step : (ss : List (ℕ × ℕ)) → Ascends ss → AllByRecursion (λ s. step_at ss s.0 ≡ Some s.1) ss
each_step [] h = tt
each_step (s ∷ ss) h = (
  cond-true (s.0 == s.0) (Some s.1) (step_at ss s.0) (eq-eqb s.0 s.0 refl),
  later ss h.0 (each_step ss h.1),
)
  where
    later : (ts : List (ℕ × ℕ)) → Above s.0 ts → AllByRecursion (λ t. step_at ss t.0 ≡ Some t.1) ts → AllByRecursion (λ t. step_at (s ∷ ss) t.0 ≡ Some t.1) ts
    later [] above at = tt
    later (t ∷ ts) above at = (cond-false (s.0 == t.0) (Some s.1) (step_at ss t.0) (ne_eqb s.0 t.0 (λ e. let l = above.0 in omega arith)) ∙ at.0, later ts above.1 at.1)

not_some : {y : ℕ} → None ≡ Some y → ⊥
not_some e = cc

same_some : {x y : ℕ} → ◌≡◌ {A = Option ℕ} (Some x) (Some y) → x ≡ y
same_some e = cc

-- the index of a step that is found is above what all indexes are above
found_above : (n i y : ℕ) (ss : List (ℕ × ℕ)) → Above n ss → step_at ss i ≡ Some y → n < i
found_above n i y [] above e = absurd (not_some e)
found_above n i y (s ∷ ss) above e =
    elim (cases_Bool (s.0 == i)) [
      | inl same ↦ let l = above.0 in let is = eqb-true s.0 i same in omega arith
      | inr other ↦ found_above n i y ss above.1 (sym (cond-false (s.0 == i) (Some s.1) (step_at ss i) other) ∙ e)
    ]

module _ (graph : Graph) (b : ℕ) where
  led_nowhere : (walk : List ℕ) → led graph None walk ≡ Some b → ⊥
  led_nowhere [] e = not_some e
  led_nowhere (i ∷ walk) e = led_nowhere walk e

  -- ---- the walks of a length

  abbrev Sound : ℕ → ℕ → List ℕ → Type 0
  Sound n a walk = (led graph (Some a) walk ≡ Some b) × (length walk ≡ n)

  each_walk : (n a : ℕ) → AllByRecursion (Sound n a) (walks graph n a b)
  each_walk zero a = elim (a == b) as (λ t. (a == b) ≡ t → AllByRecursion (Sound 0 a) (cond t ([] ∷ []) [])) [
    | true ↦ λ e. ((ap (λ x. Some x) (eqb-true a b e), refl), tt)
    | false ↦ λ e. tt
  ] refl
  each_walk (suc n) a =
      each_flat_map (Sound (suc n) a) (λ s. map (λ walk. s.0 ∷ walk) (walks graph n s.1 b)) (steps_at (object_at graph a))
      (each_weaker (λ s. next_of graph (Some a) s.0 ≡ Some s.1) (λ s. AllByRecursion (Sound (suc n) a) (map (λ walk. s.0 ∷ walk) (walks graph n s.1 b)))
      (λ s at. each_map (Sound (suc n) a) (λ walk. s.0 ∷ walk) (walks graph n s.1 b)
      (each_weaker (Sound n s.1) (λ walk. Sound (suc n) a (s.0 ∷ walk)) (λ walk h. (ap (λ o. led graph o walk) at ∙ h.0, ap suc h.1)) (walks graph n s.1 b) (each_walk n s.1)))
      (steps_at (object_at graph a)) (each_step (steps_at (object_at graph a)) (steps_ascend (object_at graph a))))

  -- where there is a walk of this length there is a first one, and the walk doesn't come before it
  abbrev HasFirst : List (List ℕ) → List ℕ → Type 0
  HasFirst list walk = (u : List ℕ) × (us : List (List ℕ)) × (list ≡ u ∷ us) × (IsBefore walk u → ⊥)

  module _ (n i y : ℕ) (walk : List ℕ) (rest : HasFirst (walks graph n y b) walk) where
    abbrev onward : List (ℕ × ℕ) → List (List ℕ)
    onward ss = flat_map (λ s. map (λ w. s.0 ∷ w) (walks graph n s.1 b)) ss

    first_of_steps : (ss : List (ℕ × ℕ)) → Ascends ss → step_at ss i ≡ Some y → HasFirst (onward ss) (i ∷ walk)
    first_of_steps [] h e = absurd (not_some e)
    first_of_steps (s ∷ ss) h e = by_walks (λ at. first_of_steps ss h.1 at) (walks graph n s.1 b) refl
      where
        found_later : (s.0 == i) ≡ false → step_at ss i ≡ Some y
        found_later other = sym (cond-false (s.0 == i) (Some s.1) (step_at ss i) other) ∙ e

        found_here : (s.0 == i) ≡ true → s.1 ≡ y
        found_here same = same_some (sym (cond-true (s.0 == i) (Some s.1) (step_at ss i) same) ∙ e)

        no_walks : [] ≡ rest.0 ∷ rest.1 → ⊥
        no_walks e = cc

        same_first : (x : List ℕ) (xs : List (List ℕ)) → ◌≡◌ {A = List (List ℕ)} (x ∷ xs) (rest.0 ∷ rest.1) → rest.0 ≡ x
        same_first x xs e = cc

        by_walks : (step_at ss i ≡ Some y → HasFirst (onward ss) (i ∷ walk)) → (ws : List (List ℕ)) → walks graph n s.1 b ≡ ws → HasFirst (map (λ w. s.0 ∷ w) ws ++ onward ss) (i ∷ walk)
        by_walks onto [] is = elim (cases_Bool (s.0 == i)) [
          | inl same ↦ absurd (no_walks (sym is ∙ ap (λ x. walks graph n x b) (found_here same) ∙ rest.2))
          | inr other ↦ onto (found_later other)
        ]
        by_walks onto (x ∷ xs) is = (
          s.0 ∷ x,
          map (λ w. s.0 ∷ w) xs ++ onward ss,
          refl,
          λ before. elim before [
            | inl less ↦ elim (cases_Bool (s.0 == i)) [
              | inl same ↦ let e = eqb-true s.0 i same in absurd (omega arith)
              | inr other ↦ let l = found_above s.0 i y ss h.0 (found_later other) in absurd (omega arith)
            ]
            | inr equal ↦ elim (cases_Bool (s.0 == i)) [
              | inl same ↦ rest.3 (subst (λ u. IsBefore walk u) (sym (same_first x xs (sym is ∙ ap (λ z. walks graph n z b) (found_here same) ∙ rest.2))) equal.1)
              | inr other ↦ let l = found_above s.0 i y ss h.0 (found_later other) in let e = equal.0 in absurd (omega arith)
            ]
          ],
        )

  first_walk : (n a : ℕ) (walk : List ℕ) → led graph (Some a) walk ≡ Some b → length walk ≡ n → HasFirst (walks graph n a b) walk
  first_walk zero a [] e long = ([], [], cond-true (a == b) ([] ∷ []) [] (eq-eqb a b (same_some e)), λ before. before)
  first_walk zero a (i ∷ walk) e long = absurd (omega (arith, long))
  first_walk (suc n) a [] e long = absurd (omega (arith, long))
  first_walk (suc n) a (i ∷ walk) e long = by_next (λ y at. first_walk n y walk at (omega (arith, long))) (step_at (steps_at (object_at graph a)) i) refl e
    where
      by_next : ((y : ℕ) → led graph (Some y) walk ≡ Some b → HasFirst (walks graph n y b) walk) → (o : Option ℕ) → step_at (steps_at (object_at graph a)) i ≡ o → led graph o walk ≡ Some b → HasFirst (walks graph (suc n) a b) (i ∷ walk)
      by_next onto None is e = absurd (led_nowhere walk e)
      by_next onto (Some y) is e = first_of_steps n i y walk (onto y e) (steps_at (object_at graph a)) (steps_ascend (object_at graph a)) is

  -- ---- the first length that has walks

  module _ (a : ℕ) where
    abbrev EmptyFrom : ℕ → ℕ → Type 0
    EmptyFrom n k = (m : ℕ) → n ≤ m → m < k → walks graph m a b ≡ []

    -- what was tried and what comes after it
    empty_more : (n k : ℕ) → walks graph n a b ≡ [] → EmptyFrom (suc n) k → EmptyFrom n k
    empty_more n k here later m least most =
        elim (cases_Bool (n == m)) [
          | inl same ↦ subst (λ x. walks graph x a b ≡ []) (eqb-true n m same) here
          | inr other ↦ let e = eqb-false n m other in later m (omega (arith, e)) most
        ]

    some_walk : {walk : List ℕ} → ◌≡◌ {A = Option (List ℕ)} None (Some walk) → ⊥
    some_walk e = cc

    same_walk : {u walk : List ℕ} → ◌≡◌ {A = Option (List ℕ)} (Some u) (Some walk) → u ≡ walk
    same_walk e = cc

    abbrev Found : ℕ → List ℕ → Type 0
    Found n walk = (k : ℕ) × (us : List (List ℕ)) × (n ≤ k) × (walks graph k a b ≡ walk ∷ us) × EmptyFrom n k

    shortest_some : (more n : ℕ) (walk : List ℕ) → shortest graph more n a b ≡ Some walk → Found n walk
    shortest_some zero n walk e = absurd (some_walk e)
    shortest_some (suc more) n walk e = by_walks (λ at. shortest_some more (suc n) walk at) (walks graph n a b) refl e
      where
        by_walks : (shortest graph more (suc n) a b ≡ Some walk → Found (suc n) walk) → (ws : List (List ℕ)) → walks graph n a b ≡ ws → first_or ws (λ _. shortest graph more (suc n) a b) ≡ Some walk → Found n walk
        by_walks onto [] is e = let more_found = onto e in (more_found.0, more_found.1, (let l = more_found.2 in omega arith), more_found.3, empty_more n more_found.0 is more_found.4)
        by_walks onto (u ∷ us) is e = (n, us, omega arith, is ∙ ap (λ x. x ∷ us) (same_walk e), λ m least most. absurd (omega arith))

    some_first : {u : List ℕ} → ◌≡◌ {A = Option (List ℕ)} (Some u) None → ⊥
    some_first e = cc

    shortest_none : (more n : ℕ) → ◌≡◌ {A = Option (List ℕ)} (shortest graph more n a b) None → EmptyFrom n (n + more)
    shortest_none zero n e = λ m least most. absurd (omega arith)
    shortest_none (suc more) n e = by_walks (λ at. shortest_none more (suc n) at) (walks graph n a b) refl e
      where
        by_walks : (◌≡◌ {A = Option (List ℕ)} (shortest graph more (suc n) a b) None → EmptyFrom (suc n) (suc n + more)) → (ws : List (List ℕ)) → walks graph n a b ≡ ws → ◌≡◌ {A = Option (List ℕ)} (first_or ws (λ _. shortest graph more (suc n) a b)) None → EmptyFrom n (n + suc more)
        by_walks onto [] is e = empty_more n (n + suc more) is (λ m least most. onto e m least (omega arith))
        by_walks onto (u ∷ us) is e = absurd (some_first e)

    no_walk_there : (m : ℕ) (walk : List ℕ) → walks graph m a b ≡ [] → led graph (Some a) walk ≡ Some b → length walk ≡ m → ⊥
    no_walk_there m walk none e long = let first = first_walk m a walk e long in empty (sym none ∙ first.2)
      where
        empty : {u : List ℕ} {us : List (List ℕ)} → ◌≡◌ {A = List (List ℕ)} [] (u ∷ us) → ⊥
        empty e = cc

    path_found : (walk : List ℕ) → path graph a b ≡ Some walk → IsPath graph a b walk
    unfolding path
    path_found walk e =
        let found = shortest_some (length graph) 0 walk e in
        let sound : Sound found.0 a walk = (subst (AllByRecursion (Sound found.0 a)) found.3 (each_walk found.0 a)).0 in
        record {
          leads = sound.0;
          shortest = λ other leads. elim (cases_Bool (nat_lt (length other) (length walk))) [
            | inl less ↦
                let l = ltb-true (length other) (length walk) less in
                let long = sound.1 in
                absurd (no_walk_there (length other) other (found.4 (length other) (omega arith) (omega (arith, l, long))) leads refl)
            | inr more ↦ ltb-false (length other) (length walk) more
          ];
          first = λ other leads long before.
              let first = first_walk found.0 a other leads (long ∙ sound.1) in
              first.3 (subst (λ u. IsBefore other u) (same_head (sym found.3 ∙ first.2)) before);
        }
      where
        same_head : {u v : List ℕ} {us vs : List (List ℕ)} → ◌≡◌ {A = List (List ℕ)} (u ∷ us) (v ∷ vs) → u ≡ v
        same_head e = cc

    -- ---- where no walk is shorter than there are objects, there is none

    abbrev here : Option ℕ → List ℕ
    here None = []
    here (Some x) = x ∷ []

    -- the objects that a walk comes to
    abbrev trail : Option ℕ → List ℕ → List ℕ
    trail from [] = here from
    trail from (i ∷ walk) = here from ++ trail (next_of graph from i) walk

    trail_long : (from : Option ℕ) (walk : List ℕ) → led graph from walk ≡ Some b → length (trail from walk) ≡ length walk + 1
    trail_long None walk e = absurd (led_nowhere walk e)
    trail_long (Some x) [] e = refl
    trail_long (Some x) (i ∷ walk) e = let rest = trail_long (next_of graph (Some x) i) walk e in omega (arith, rest)

    -- from each object on its trail a walk goes on to b
    suffix_from : (x : ℕ) (from : Option ℕ) (walk : List ℕ) → led graph from walk ≡ Some b → IsTrue (has (trail from walk) x) → (v : List ℕ) × (led graph (Some x) v ≡ Some b) × (length v ≤ length walk)
    suffix_from x None walk e there = absurd (led_nowhere walk e)
    suffix_from x (Some y) [] e there = elim (or_cases (y == x) false there) [
      | inl same ↦ ([], subst (λ z. ◌≡◌ {A = Option ℕ} (Some z) (Some b)) (eqb-true y x same) e, omega arith)
      | inr none ↦ absurd (false≢true none)
    ]
    suffix_from x (Some y) (i ∷ walk) e there = elim (or_cases (y == x) (has (trail (next_of graph (Some y) i) walk) x) there) [
      | inl same ↦ (i ∷ walk, subst (λ z. led graph (Some z) (i ∷ walk) ≡ Some b) (eqb-true y x same) e, omega arith)
      | inr later ↦ let rest = suffix_from x (next_of graph (Some y) i) walk e later in (rest.0, rest.1, (let l = rest.2 in omega arith))
    ]

    abbrev Repeats : List ℕ → Type 0
    Repeats [] = ⊥
    Repeats (x ∷ xs) = IsTrue (has xs x) ⊎ Repeats xs

    abbrev Shorter : Option ℕ → List ℕ → Type 0
    Shorter from walk = (v : List ℕ) × (led graph from v ≡ Some b) × (length v < length walk)

    -- a walk that comes to an object twice can be cut
    shorten : (from : Option ℕ) (walk : List ℕ) → led graph from walk ≡ Some b → Repeats (trail from walk) → Shorter from walk
    shorten None walk e twice = absurd (led_nowhere walk e)
    shorten (Some x) [] e (inl again) = absurd (false≢true again)
    shorten (Some x) [] e (inr twice) = absurd twice
    shorten (Some x) (i ∷ walk) e (inl again) =
        let rest = suffix_from x (next_of graph (Some x) i) walk e again in (rest.0, rest.1, (let l = rest.2 in omega arith))
    shorten (Some x) (i ∷ walk) e (inr twice) =
        let rest = shorten (next_of graph (Some x) i) walk e twice in (i ∷ rest.0, rest.1, (let l = rest.2 in omega arith))

    abbrev without : ℕ → List ℕ → List ℕ
    without x set = filter (λ y. not (y == x)) set

    at_most_all : (x : ℕ) (set : List ℕ) → length (without x set) ≤ length set
    at_most_all x [] = omega arith
    at_most_all x (y ∷ set) =
        let rest = at_most_all x set in
        elim (not (y == x)) as (λ t. length (cond t (y ∷ without x set) (without x set)) ≤ suc (length set)) [ true ↦ omega arith | false ↦ omega arith ]

    one_less : (x : ℕ) (set : List ℕ) → IsTrue (has set x) → length (without x set) < length set
    one_less x [] there = absurd (false≢true there)
    one_less x (y ∷ set) there =
        elim (y == x) as (λ t. (t || has set x) ≡ true → length (cond (not t) (y ∷ without x set) (without x set)) < suc (length set)) [
          | true ↦ λ h. let rest = at_most_all x set in omega arith
          | false ↦ λ h. let rest = one_less x set h in omega arith
        ] there

    still_there : (x y : ℕ) (set : List ℕ) → (y == x) ≡ false → IsTrue (has set y) → IsTrue (has (without x set) y)
    still_there x y [] other there = there
    still_there x y (z ∷ set) other there =
        elim (or_cases (z == y) (has set y) there) [
          | inl same ↦
              let apart : not (z == x) ≡ true = not_from_false (z == x) (ap (λ w. w == x) (eqb-true z y same) ∙ other) in
              subst (λ t. IsTrue (has (cond t (z ∷ without x set) (without x set)) y)) (sym apart) (or_left (z == y) (has (without x set) y) same)
          | inr later ↦
              let rest = still_there x y set other later in
              elim (not (z == x)) as (λ t. IsTrue (has (cond t (z ∷ without x set) (without x set)) y)) [ true ↦ or_right (z == y) (has (without x set) y) rest | false ↦ rest ]
        ]

    -- a list that is longer than the set of its members has one twice
    pigeons : (xs set : List ℕ) → xs ⊆ set → length set < length xs → Repeats xs
    pigeons [] set sub long = absurd (omega arith)
    pigeons (x ∷ xs) set sub long =
        let there = sub x (or_left (x == x) (has xs x) (eq-eqb x x refl)) in
        let less = one_less x set there in
        elim (cases_Bool (has xs x)) [
          | inl again ↦ inl again
          | inr other ↦ inr (pigeons xs (without x set)
              (λ y in_rest. still_there x y set (ne_eqb y x (λ same. both_ways (has xs x) other (subst (λ z. IsTrue (has xs z)) same in_rest))) (sub y (or_right (x == y) (has xs y) in_rest)))
              (omega (arith, less)))
        ]

    abbrev born : List ℕ
    born = map (λ (e : ℕ × Object). e.0) graph

    -- what has a step is in the graph
    step_born : (x : ℕ) (i y : ℕ) → step_at (steps_at (object_at graph x)) i ≡ Some y → IsTrue (has born x)
    step_born x i y e = by_found (object_at graph x) refl e
      where
        by_found : (o : Option Object) → object_at graph x ≡ o → step_at (steps_at o) i ≡ Some y → IsTrue (has born x)
        by_found None found e = absurd (not_some e)
        by_found (Some o) found e = each_found (λ z q. IsTrue (has born z)) graph (each_born graph) x o found

    trail_born : (from : Option ℕ) (walk : List ℕ) → IsTrue (has born b) → led graph from walk ≡ Some b → trail from walk ⊆ born
    trail_born None walk end e y there = absurd (led_nowhere walk e)
    trail_born (Some x) [] end e y there = elim (or_cases (x == y) false there) [
      | inl same ↦ subst (λ z. IsTrue (has born z)) (sym (same_some e) ∙ eqb-true x y same) end
      | inr none ↦ absurd (false≢true none)
    ]
    trail_born (Some x) (i ∷ walk) end e y there = elim (or_cases (x == y) (has (trail (next_of graph (Some x) i) walk) y) there) [
      | inl same ↦ subst (λ z. IsTrue (has born z)) (eqb-true x y same) (by_next (next_of graph (Some x) i) refl e)
      | inr later ↦ trail_born (next_of graph (Some x) i) walk end e y later
    ]
      where
        by_next : (o : Option ℕ) → next_of graph (Some x) i ≡ o → led graph o walk ≡ Some b → IsTrue (has born x)
        by_next None is e = absurd (led_nowhere walk e)
        by_next (Some z) is e = step_born x i z is

    -- where no walk is shorter than there are objects, each can be cut
    cut : IsTrue (has born b) → EmptyFrom 0 (length graph) → (walk : List ℕ) → led graph (Some a) walk ≡ Some b → Shorter (Some a) walk
    cut end none walk e =
        elim (cases_Bool (nat_lt (length walk) (length graph))) [
          | inl less ↦ absurd (no_walk_there (length walk) walk (none (length walk) (omega arith) (ltb-true (length walk) (length graph) less)) e refl)
          | inr more ↦
              let many = ltb-false (length walk) (length graph) more in
              let long = trail_long (Some a) walk e in
              let all = length-map graph (λ (d : ℕ × Object). d.0) in
              shorten (Some a) walk e (pigeons (trail (Some a) walk) born (trail_born (Some a) walk end e) (omega (arith, many, long, all)))
        ]

    -- so there is none at all
    no_walk : IsTrue (has born b) → EmptyFrom 0 (length graph) → (bound : ℕ) (walk : List ℕ) → length walk ≤ bound → led graph (Some a) walk ≡ Some b → ⊥
    no_walk end none zero walk most e = let l = (cut end none walk e).2 in omega arith
    no_walk end none (suc bound) walk most e = let shorter = cut end none walk e in no_walk end none bound shorter.0 (let l = shorter.2 in omega arith) shorter.1

    path_none : IsTrue (has born b) → ◌≡◌ {A = Option (List ℕ)} (path graph a b) None → (walk : List ℕ) → led graph (Some a) walk ≡ Some b → ⊥
    unfolding path
    path_none end e walk leads = no_walk end (λ m least most. shortest_none (length graph) 0 e m least (omega arith)) (length walk) walk (omega arith) leads

-- the path is the first of the shortest walks, and there is none only where no walk leads there
pub path_is_first : (graph : Graph) (a b : ℕ) (o : Object) → object_at graph b ≡ Some o → FindsPath graph a b
path_is_first graph a b o found = record {
  found = path_found graph b a;
  none = path_none graph b a (each_found (λ z q. IsTrue (has (map (λ (e : ℕ × Object). e.0) graph) z)) graph (each_born graph) b o found);
}
