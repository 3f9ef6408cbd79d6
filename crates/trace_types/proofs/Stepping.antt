-- Commands keep a state well formed.
use Rattle.std.proofs.Common.{◌≡◌, ℕ, zero, suc, ◌+◌, ◌<◌, ◌≤◌, true, false, ◌==◌, ◌&&◌, List, [], ◌∷◌, ◌++◌, append-nil, map, flat_map, set, cond, IsTrue, Option, Some, None, refl, sym, ap, subst, ◌∙◌, arith, nat_cmp, nat_lt, nat_le, is_lt, is_eq, inl, inr}
use Rattle.std.specs.List.{AllByRecursion, list_all}
use Rattle.std.specs.Bool.{passes}
use Rattle.std.specs.FinMap.{is_sorted, put, nat_cmp-IsAntisymmetric}
use Rattle.std.specs.declared.cmp.Ordering.TheVariants.{Less, Equal, Greater}
use Rattle.std.specs.FinMap.Entries.{is_sorted-put, below_all, by_order}
use Rattle.std.specs.Cmp.{nat_cmp_total, nat_cmp_is}
use Rattle.std.proofs.lemmas.Bool.{and_parts, or_left, or_right, cases_Bool, eqb-true, eq-eqb, false≢true, cond-true, cond-false, ltb-true, ltb-false, lt-ltb, le-leb, ne_eqb}
use Rattle.std.proofs.lemmas.List.{length-set, map-append}
use Rattle.std.proofs.lemmas.List.Elements.{All-from_recursion, recursion_from_All}
use Rattle.trace_types.specs.declared.kind.Kind.{Kind}
use Rattle.trace_types.specs.Values.{Value, is_value, objects_in, Object, object_at, is_guardian}
use Rattle.trace_types.specs.States.{State, Registration, with_register, with_object, locked}
use Rattle.trace_types.specs.Rules.{has, ◌⊆◌}
use Rattle.trace_types.specs.Kept.{is_of_kind}
use Rattle.trace_types.specs.WellFormed.{AllBefore, fields_fit, registration_lines, IsObject, IsWellFormedTo, IsNext, has_its_fields, occurrences, numbers, births, named, noted, named_by_object, named_by_registration}
use Rattle.trace_types.proofs.Least.{each_weaker, list_all_from_each}
use Rattle.trace_types.proofs.Meeting.{each_found, each_append}
use Rattle.trace_types.proofs.Graphs.{put_last, object_at-put, find_first}
use Rattle.trace_types.proofs.Named.{append_left_sub, append_right_sub, objects_left, objects_right, objects_both, names_parts, names_whole}
use Rattle.trace_types.proofs.Collecting.{is_true}
use Rattle.trace_types.proofs.Ranges.{all_set}
use Rattle.trace_types.proofs.Differing.{occurrences-append, one_if}

pub objects_in_set : (vs : List Value) (i : ℕ) (v : Value) (xs : List ℕ) → objects_in vs ⊆ xs → objects_in (v ∷ []) ⊆ xs → objects_in (set vs i v) ⊆ xs
objects_in_set [] i v xs h k = h
objects_in_set (w ∷ vs) zero v xs h k = objects_both (v ∷ []) vs xs k (objects_right (w ∷ []) vs xs h)
objects_in_set (w ∷ vs) (suc i) v xs h k = objects_both (w ∷ []) (set vs i v) xs (objects_left (w ∷ []) vs xs h) (objects_in_set vs i v xs (objects_right (w ∷ []) vs xs h) k)

-- a register may get any value whose object is in the graph
pub register_well_formed : (last : ℕ) (s : State) (r : ℕ) (v : Value) → IsWellFormedTo last s → IsTrue (is_value v) → objects_in (v ∷ []) ⊆ births s → IsWellFormedTo last (with_register s r v)
register_well_formed last s r v well fits there =
    let names = names_parts s (births s) well.in_graph in
    record {
      ordered = well.ordered;
      objects = well.objects;
      in_graph = names_whole (with_register s r v) (births s) (record {
        objects = names.objects;
        registers = objects_in_set s.registers r v (births s) names.registers there;
        locks = names.locks;
        notes = names.notes;
        registrations = names.registrations;
      });
      guardians = well.guardians;
      differ = well.differ;
      in_range = well.in_range;
      lines_ordered = well.lines_ordered;
      registration_values = well.registration_values;
      locks_ordered = well.locks_ordered;
      locks = well.locks;
      registers = length-set s.registers r v ∙ well.registers;
      register_values = all_set is_value s.registers r v well.register_values fits;
      notes = well.notes;
      thread = well.thread;
      oldest = well.oldest;
      version = well.version;
    }

abbrev pub first : ℕ × Object → ℕ
first e = e.0

abbrev pub queue_lines : ℕ × Object → List ℕ
queue_lines e = map (λ (entry : Value × ℕ). entry.1) e.1.queue

-- ---- a new object

born_once : (g : List (ℕ × Object)) → AllByRecursion (λ e. 1 ≤ occurrences e.0 (map first g)) g
born_once [] = tt
born_once (e ∷ g) = (
  let here : cond (e.0 == e.0) 1 0 ≡ 1 = ap one_if (eq-eqb e.0 e.0 refl) in omega (arith, here),
  each_weaker (λ d. 1 ≤ occurrences d.0 (map first g)) (λ d. 1 ≤ occurrences d.0 (map first (e ∷ g))) (λ d h. omega arith) g (born_once g),
)

-- no number of the state is the next line or above it
pub none_above : (s : State) (line : ℕ) → IsNext s line → (n : ℕ) → line ≤ n → occurrences n (numbers s) ≡ 0
none_above s line next n h =
    elim (cases_Bool (nat_lt 0 (occurrences n (numbers s)))) [
      | inl some ↦ let more = ltb-true 0 (occurrences n (numbers s)) some in let less = next.above n (omega (arith, more)) in absurd (omega arith)
      | inr none ↦ let no_more = ltb-false 0 (occurrences n (numbers s)) none in omega (arith, no_more)
    ]

pub births_before : (s : State) (line : ℕ) → AllBefore s line → AllByRecursion (λ e. IsTrue (nat_lt e.0 line)) s.graph
births_before s line before =
    each_weaker (λ e. 1 ≤ occurrences e.0 (map first s.graph)) (λ e. IsTrue (nat_lt e.0 line))
    (λ e once.
    let parts = occurrences-append e.0 (births s ++ registration_lines s) (flat_map queue_lines s.graph) in
    let births_part = occurrences-append e.0 (births s) (registration_lines s) in
    lt-ltb e.0 line (before e.0 (omega (arith, once, parts, births_part)))) s.graph (born_once s.graph)

module _ (last : ℕ) (s : State) (line : ℕ) (kind : Kind) (fields : List Value) (well : IsWellFormedTo last s) (next : IsNext s line) (within : line ≤ last) (shape : IsTrue (has_its_fields kind fields)) (fits : IsTrue (fields_fit kind fields)) (there : objects_in fields ⊆ births s) where
  abbrev pub made : Object
  made = record { kind = kind; creator = s.thread; generation = 0; fields = fields; queue = [] }

  abbrev grown : List (ℕ × Object)
  grown = s.graph ++ (line, made) ∷ []

  above : IsTrue (list_all (λ e. nat_lt e.0 line) s.graph)
  above = list_all_from_each (λ e. nat_lt e.0 line) s.graph (births_before s line next.above)

  put_is_last : put nat_cmp line made s.graph ≡ grown
  put_is_last = put_last s.graph line made above

  pub more_births : births s ⊆ births (with_object s line made)
  more_births = subst (λ g. births s ⊆ map first g) (sym put_is_last) (subst (λ xs. births s ⊆ xs) (sym (map-append first s.graph ((line, made) ∷ []))) (append_left_sub (births s) (line ∷ []) (births s ++ line ∷ []) (λ x h. h)))

  pub new_birth : (line ∷ []) ⊆ births (with_object s line made)
  new_birth = subst (λ g. (line ∷ []) ⊆ map first g) (sym put_is_last) (subst (λ xs. (line ∷ []) ⊆ xs) (sym (map-append first s.graph ((line, made) ∷ []))) (append_right_sub (births s) (line ∷ []) (births s ++ line ∷ []) (λ x h. h)))

  each_grown : (P : ℕ × Object → Type 0) → AllByRecursion P s.graph → P (line, made) → AllByRecursion P (put nat_cmp line made s.graph)
  each_grown P h k = subst (λ g. AllByRecursion P g) (sym put_is_last) (each_append P s.graph ((line, made) ∷ []) h (k, tt))

  new_numbers : (n : ℕ) → occurrences n (numbers (with_object s line made)) ≡ occurrences n (numbers s) + one_if (line == n)
  new_numbers n =
      subst (λ g. occurrences n (map first g ++ lines ++ flat_map queue_lines g) ≡ occurrences n (numbers s) + one_if (line == n)) (sym put_is_last)
      (let whole = occurrences-append n (map first grown ++ lines) (flat_map queue_lines grown) in
      let front = occurrences-append n (map first grown) lines in
      let born : occurrences n (map first grown) ≡ occurrences n (births s) + (one_if (line == n) + 0) = ap (occurrences n) (map-append first s.graph ((line, made) ∷ [])) ∙ occurrences-append n (births s) (line ∷ []) in
      let old = occurrences-append n (births s ++ lines) (flat_map queue_lines s.graph) in
      let old_front = occurrences-append n (births s) lines in
      let queues = no_new_queue s.graph in
      omega (arith, whole, front, born, old, old_front, queues))
    where
      lines : List ℕ
      lines = map (λ (r : Registration). r.line) s.registrations

      no_new_queue : (g : List (ℕ × Object)) → occurrences n (flat_map queue_lines (g ++ (line, made) ∷ [])) ≡ occurrences n (flat_map queue_lines g)
      no_new_queue [] = refl
      no_new_queue (e ∷ g) =
          let rest = no_new_queue g in
          let one = occurrences-append n (queue_lines e) (flat_map queue_lines (g ++ (line, made) ∷ [])) in
          let two = occurrences-append n (queue_lines e) (flat_map queue_lines g) in
          omega (arith, rest, one, two)

  guardian_found : (r : Registration) → IsTrue (is_of_kind is_guardian (object_at s.graph r.guardian)) → IsTrue (is_of_kind is_guardian (object_at (put nat_cmp line made s.graph) r.guardian))
  guardian_found r guard = by_found (object_at s.graph r.guardian) refl guard
    where
      by_found : (o : Option Object) → object_at s.graph r.guardian ≡ o → IsTrue (is_of_kind is_guardian o) → IsTrue (is_of_kind is_guardian (object_at (put nat_cmp line made s.graph) r.guardian))
      by_found None found is = absurd (false≢true is)
      by_found (Some o) found is =
          let less = ltb-true r.guardian line (each_found (λ x q. IsTrue (nat_lt x line)) s.graph (births_before s line next.above) r.guardian o found) in
          let apart : (r.guardian == line) ≡ false = ne_eqb r.guardian line (λ same. omega arith) in
          subst (λ q. IsTrue (is_of_kind is_guardian q)) (sym (object_at-put s.graph line made r.guardian ∙ cond-false (r.guardian == line) (Some made) (object_at s.graph r.guardian) apart ∙ found)) is

  new_differ : (n : ℕ) → occurrences n (numbers (with_object s line made)) ≤ 1
  new_differ n =
      let now = new_numbers n in
      let before = well.differ n in
      elim (cases_Bool (line == n)) [
        | inl same ↦
            let e = eqb-true line n same in
            let none : occurrences n (numbers s) ≡ 0 = none_above s line next n (omega arith) in
            let one : one_if (line == n) ≡ 1 = ap one_if same in
            omega (arith, now, none, one)
        | inr other ↦ let no_more : one_if (line == n) ≡ 0 = ap one_if other in omega (arith, now, before, no_more)
      ]

  new_in_range : (n : ℕ) → 1 ≤ occurrences n (numbers (with_object s line made)) → (1 ≤ n) × (n ≤ last)
  new_in_range n h =
      let now = new_numbers n in
      elim (cases_Bool (line == n)) [
        | inl same ↦ subst (λ m. (1 ≤ m) × (m ≤ last)) (eqb-true line n same) (next.counted, within)
        | inr other ↦ let no_more : one_if (line == n) ≡ 0 = ap one_if other in well.in_range n (omega (arith, now, no_more, h))
      ]

  pub new_well_formed : IsWellFormedTo last (with_object s line made)
  new_well_formed =
      let names = names_parts s (births s) well.in_graph in
      let wider = λ (xs : List ℕ) (h : xs ⊆ births s) (x : ℕ) (i : IsTrue (has xs x)). more_births x (h x i) in
      record {
        ordered = is_true _ (is_sorted-put nat_cmp nat_cmp_total line made s.graph (passes _ well.ordered));
        objects = All-from_recursion _ _ (each_grown (λ e. IsObject s.version s.oldest e.1) (recursion_from_All (λ e. IsObject s.version s.oldest e.1) s.graph well.objects) (record {
          fields = shape;
          fitting = fits;
          queue = or_right (is_guardian kind) (0 == 0) refl;
          queue_fitting = refl;
          creator = well.thread;
          generation = or_left (nat_le 0 s.oldest) (s.version == 2 && 0 == 8) (le-leb 0 s.oldest (omega arith));
        }));
        in_graph = names_whole (with_object s line made) (births (with_object s line made)) (record {
          objects = each_grown (λ e. named_by_object e ⊆ births (with_object s line made)) (each_weaker _ _ (λ e h. wider (named_by_object e) h) s.graph names.objects) (rw append-nil (wider (objects_in fields) there));
          registers = wider (objects_in s.registers) names.registers;
          locks = wider (locked s) names.locks;
          notes = wider (flat_map noted s.notes) names.notes;
          registrations = each_weaker _ _ (λ r h. wider (named_by_registration r) h) s.registrations names.registrations;
        });
        guardians = All-from_recursion _ s.registrations (each_weaker _ _ guardian_found s.registrations (recursion_from_All _ s.registrations well.guardians));
        differ = new_differ;
        in_range = new_in_range;
        lines_ordered = well.lines_ordered;
        registration_values = well.registration_values;
        locks_ordered = well.locks_ordered;
        locks = well.locks;
        registers = well.registers;
        register_values = well.register_values;
        notes = well.notes;
        thread = well.thread;
        oldest = well.oldest;
        version = well.version;
      }

-- ---- a changed object

pub each_put_any : {X : Type 0} (x : ℕ) (v : X) (P : ℕ × X → Type 0) → P (x, v) → (g : List (ℕ × X)) → AllByRecursion P g → AllByRecursion P (put nat_cmp x v g)
each_put_any x v P here [] h = (here, tt)
each_put_any x v P here (e ∷ g) h =
    elim (nat_cmp x e.0) as (λ r. nat_cmp x e.0 ≡ r → AllByRecursion P (by_order r ((x, v) ∷ e ∷ g) ((e.0, v) ∷ g) (e ∷ put nat_cmp x v g))) [
      | Less ↦ λ _. (here, h)
      | Equal ↦ λ tied. (subst (λ y. P (y, v)) (nat_cmp-IsAntisymmetric x e.0 tied) here, h.1)
      | Greater ↦ λ _. (h.0, each_put_any x v P here g h.1)
    ] refl

module _ (x : ℕ) (o' : Object) where
  pub each_put : (P : ℕ × Object → Type 0) → P (x, o') → (g : List (ℕ × Object)) → AllByRecursion P g → AllByRecursion P (put nat_cmp x o' g)
  each_put P here [] h = (here, tt)
  each_put P here (e ∷ g) h =
      elim (nat_cmp x e.0) as (λ r. nat_cmp x e.0 ≡ r → AllByRecursion P (by_order r ((x, o') ∷ e ∷ g) ((e.0, o') ∷ g) (e ∷ put nat_cmp x o' g))) [
        | Less ↦ λ _. (here, h)
        | Equal ↦ λ tied. (subst (λ y. P (y, o')) (nat_cmp-IsAntisymmetric x e.0 tied) here, h.1)
        | Greater ↦ λ _. (h.0, each_put P here g h.1)
      ] refl

  less_from : (a b : ℕ) → IsTrue (is_lt (nat_cmp a b)) → a < b
  less_from a b h =
      elim (cases_Bool (nat_lt a b)) [
        | inl less ↦ ltb-true a b less
        | inr more ↦ absurd (elim (a == b) as (λ r. is_lt (cond r Equal Greater) ≡ true → ⊥) [ true ↦ false≢true | false ↦ false≢true ] (ap is_lt (sym (cond-false (nat_lt a b) Less (cond (a == b) Equal Greater) more)) ∙ h))
      ]

  each_below : (a : ℕ) (g : List (ℕ × Object)) → IsTrue (below_all nat_cmp a g) → AllByRecursion (λ d. a < d.0) g
  each_below a [] h = tt
  each_below a (e ∷ g) h = let parts = and_parts (is_lt (nat_cmp a e.0)) (below_all nat_cmp a g) h in (less_from a e.0 parts.0, each_below a g parts.1)

  -- not below the first of the objects among which it is found
  pub found_below : (e : ℕ × Object) (g : List (ℕ × Object)) (o : Object) → IsTrue (is_sorted nat_cmp (e ∷ g)) → object_at (e ∷ g) x ≡ Some o → nat_cmp x e.0 ≡ Less → ⊥
  found_below e g o ordered found less =
      let lt : x < e.0 = less_from x e.0 (ap is_lt less) in
      let parts = and_parts (below_all nat_cmp e.0 g) (is_sorted nat_cmp g) ordered in
      let apart : (x == e.0) ≡ false = ne_eqb x e.0 (λ same. omega arith) in
      let later = sym (cond-false (x == e.0) (Some e.1) (object_at g x) apart) ∙ sym (find_first x e g) ∙ found in
      let above_x : e.0 < x = each_found (λ y q. e.0 < y) g (each_below e.0 g parts.0) x o later in
      omega arith

  -- found behind the first, where it is above the first
  pub found_later : (e : ℕ × Object) (g : List (ℕ × Object)) (o : Object) → object_at (e ∷ g) x ≡ Some o → nat_cmp x e.0 ≡ Greater → object_at g x ≡ Some o
  found_later e g o found greater =
      let apart : (x == e.0) ≡ false = ne_eqb x e.0 (λ same. not_tied (sym (ap is_eq (ap (λ y. nat_cmp y e.0) same ∙ tied e.0)) ∙ ap is_eq greater)) in
      sym (cond-false (x == e.0) (Some e.1) (object_at g x) apart) ∙ sym (find_first x e g) ∙ found
    where
      not_tied : true ≡ false → ⊥
      not_tied h = cc

      tied : (y : ℕ) → nat_cmp y y ≡ Equal
      tied y = sym (nat_cmp_is y y Equal refl)

  pub births_put : (g : List (ℕ × Object)) (o : Object) → IsTrue (is_sorted nat_cmp g) → object_at g x ≡ Some o → map first (put nat_cmp x o' g) ≡ map first g
  births_put [] o ordered found = absurd (not_found o found)
    where
      not_found : (o : Object) → None ≡ Some o → ⊥
      not_found o e = cc
  births_put (e ∷ g) o ordered found =
      let parts = and_parts (below_all nat_cmp e.0 g) (is_sorted nat_cmp g) ordered in
      elim (nat_cmp x e.0) as (λ r. nat_cmp x e.0 ≡ r → map first (by_order r ((x, o') ∷ e ∷ g) ((e.0, o') ∷ g) (e ∷ put nat_cmp x o' g)) ≡ map first (e ∷ g)) [
        | Less ↦ λ less. absurd (found_below e g o ordered found less)
        | Equal ↦ λ _. refl
        | Greater ↦ λ greater. ap (λ xs. e.0 ∷ xs) (births_put g o parts.1 (found_later e g o found greater))
      ] refl

  lines_put : (n : ℕ) (g : List (ℕ × Object)) (o : Object) → IsTrue (is_sorted nat_cmp g) → object_at g x ≡ Some o → occurrences n (queue_lines (x, o')) ≤ occurrences n (queue_lines (x, o)) → occurrences n (flat_map queue_lines (put nat_cmp x o' g)) ≤ occurrences n (flat_map queue_lines g)
  lines_put n [] o ordered found fewer = absurd (not_found o found)
    where
      not_found : (o : Object) → None ≡ Some o → ⊥
      not_found o e = cc
  lines_put n (e ∷ g) o ordered found fewer =
      let parts = and_parts (below_all nat_cmp e.0 g) (is_sorted nat_cmp g) ordered in
      let old = occurrences-append n (queue_lines e) (flat_map queue_lines g) in
      elim (nat_cmp x e.0) as (λ r. nat_cmp x e.0 ≡ r → occurrences n (flat_map queue_lines (by_order r ((x, o') ∷ e ∷ g) ((e.0, o') ∷ g) (e ∷ put nat_cmp x o' g))) ≤ occurrences n (flat_map queue_lines (e ∷ g))) [
        | Less ↦ λ less. absurd (found_below e g o ordered found less)
        | Equal ↦ λ is.
            let new = occurrences-append n (queue_lines (e.0, o')) (flat_map queue_lines g) in
            let same : e.1 ≡ o = same_Some (sym (cond-true (x == e.0) (Some e.1) (object_at g x) (eq-eqb x e.0 (nat_cmp-IsAntisymmetric x e.0 is))) ∙ sym (find_first x e g) ∙ found) in
            let was : occurrences n (queue_lines e) ≡ occurrences n (queue_lines (x, o)) = ap (λ (q : Object). occurrences n (map (λ (entry : Value × ℕ). entry.1) q.queue)) same in
            omega (arith, old, new, was, fewer)
        | Greater ↦ λ greater.
            let rest = lines_put n g o parts.1 (found_later e g o found greater) fewer in
            let new = occurrences-append n (queue_lines e) (flat_map queue_lines (put nat_cmp x o' g)) in
            omega (arith, old, new, rest)
      ] refl
    where
      same_Some : {a b : Object} → Some a ≡ Some b → a ≡ b
      same_Some h = cc

-- an object may be changed where it stays an object of its kind and names only objects of the graph
pub changed_well_formed : (last : ℕ) (s : State) (x : ℕ) (o o' : Object) → IsWellFormedTo last s → object_at s.graph x ≡ Some o → IsObject s.version s.oldest o' → is_guardian o'.kind ≡ is_guardian o.kind → named_by_object (x, o') ⊆ births s → ((n : ℕ) → occurrences n (queue_lines (x, o')) ≤ occurrences n (queue_lines (x, o))) → IsWellFormedTo last (with_object s x o')
changed_well_formed last s x o o' well found is same_guard there fewer =
    let names = names_parts s (births s) well.in_graph in
    let same : births (with_object s x o') ≡ births s = births_put x o' s.graph o well.ordered found in
    record {
      ordered = is_true _ (is_sorted-put nat_cmp nat_cmp_total x o' s.graph (passes _ well.ordered));
      objects = All-from_recursion _ _ (each_put x o' (λ e. IsObject s.version s.oldest e.1) is s.graph (recursion_from_All (λ e. IsObject s.version s.oldest e.1) s.graph well.objects));
      in_graph = subst (λ xs. named (with_object s x o') ⊆ xs) (sym same) (names_whole (with_object s x o') (births s) (record {
        objects = each_put x o' (λ e. named_by_object e ⊆ births s) there s.graph names.objects;
        registers = names.registers;
        locks = names.locks;
        notes = names.notes;
        registrations = names.registrations;
      }));
      guardians = All-from_recursion _ s.registrations (each_weaker _ _ (λ r guard. guardian_kept r guard) s.registrations (recursion_from_All _ s.registrations well.guardians));
      differ = λ n. let now = numbers_put n in let before = well.differ n in omega (arith, now, before);
      in_range = λ n h. let now = numbers_put n in well.in_range n (omega (arith, now, h));
      lines_ordered = well.lines_ordered;
      registration_values = well.registration_values;
      locks_ordered = well.locks_ordered;
      locks = well.locks;
      registers = well.registers;
      register_values = well.register_values;
      notes = well.notes;
      thread = well.thread;
      oldest = well.oldest;
      version = well.version;
    }
  where
    lines : List ℕ
    lines = map (λ (r : Registration). r.line) s.registrations

    numbers_put : (n : ℕ) → occurrences n (numbers (with_object s x o')) ≤ occurrences n (numbers s)
    numbers_put n =
        let new = occurrences-append n (births (with_object s x o') ++ lines) (flat_map queue_lines (put nat_cmp x o' s.graph)) in
        let new_front = occurrences-append n (births (with_object s x o')) lines in
        let old = occurrences-append n (births s ++ lines) (flat_map queue_lines s.graph) in
        let old_front = occurrences-append n (births s) lines in
        let same = ap (occurrences n) (births_put x o' s.graph o well.ordered found) in
        let queues = lines_put x o' n s.graph o well.ordered found (fewer n) in
        omega (arith, new, new_front, old, old_front, same, queues)

    guardian_kept : (r : Registration) → IsTrue (is_of_kind is_guardian (object_at s.graph r.guardian)) → IsTrue (is_of_kind is_guardian (object_at (put nat_cmp x o' s.graph) r.guardian))
    guardian_kept r guard =
        subst (λ q. IsTrue (is_of_kind is_guardian q)) (sym (object_at-put s.graph x o' r.guardian))
        (elim (r.guardian == x) as (λ b. (r.guardian == x) ≡ b → IsTrue (is_of_kind is_guardian (cond b (Some o') (object_at s.graph r.guardian)))) [
          | true ↦ λ e. same_guard ∙ sym (ap (is_of_kind is_guardian) found) ∙ sym (ap (λ y. is_of_kind is_guardian (object_at s.graph y)) (eqb-true r.guardian x e)) ∙ guard
          | false ↦ λ e. guard
        ] refl)
