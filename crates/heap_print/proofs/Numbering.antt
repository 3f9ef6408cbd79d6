-- How many objects a print shows: each of them once, and no other than those of the graph.
use Rattle.std.proofs.Common.{◌≡◌, ◌≤◌, inl, inr, ℕ, zero, suc, ◌+◌, ◌-◌, eqb, cond, true, false, List, [], ◌∷◌, ◌++◌, fold, length, Option, Some, None, slice_get, IsTrue, refl, sym, ap, subst, ◌∙◌, arith}
use Rattle.std.specs.List.{AllByRecursion, IsDistinct}
use Rattle.std.specs.Set.{is_member}
use Rattle.std.proofs.lemmas.Cmp.{nat_eq_equiv}
use Rattle.std.proofs.lemmas.Option.{slice_get_past}
use Rattle.std.proofs.lemmas.List.{length-map}
use Rattle.std.proofs.lemmas.Map.Made.{length-le_from_is_member}
use Rattle.std.proofs.lemmas.Map.Keys.{IsDistinct-push}
use Rattle.trace_types.specs.Values.{Value, fixnum, nil, true_value, false_value, bwp, object, objects_in, Object, Graph, object_at, is_guardian, queue_values}
use Rattle.trace_types.specs.States.{State}
use Rattle.trace_types.specs.Rules.{has, ◌⊆◌}
use Rattle.trace_types.specs.Printing.{contents, contents_at, with_number, numbered, numbered_at, numbering}
use Rattle.trace_types.specs.WellFormed.{births, named_by_object, IsWellFormedTo}
use Rattle.trace_types.proofs.Named.{append_left_sub, append_right_sub, append_sub, objects_left, objects_right, names_parts}
use Rattle.trace_types.proofs.Graphs.{find_first}
use Rattle.std.proofs.lemmas.Bool.{or_cases, or_left, eqb-true, false≢true}

-- where nothing is left to go through, going on gives no further number
pub steady : (graph : Graph) (v : Value) (n m : ℕ) → length (numbered graph v n) ≤ n → numbered graph v (m + n) ≡ numbered graph v n
steady graph v n zero few = let same : 0 + n ≡ n = omega arith in ap (numbered graph v) same
steady graph v n (suc m) few =
    let before = numbered graph v (m + n) in
    let same : before ≡ numbered graph v n = steady graph v n m few in
    let past : slice_get before (m + n) ≡ None = slice_get_past before (m + n) (subst (λ (bs : List ℕ). length bs ≤ m + n) (sym same) (omega (arith, few))) in
    let next : suc m + n ≡ suc (m + n) = omega arith in
    ap (numbered graph v) next ∙ ap (λ (o : Option ℕ). numbered_at graph o before) past ∙ same

-- ---- each object once

pub flipped : (xs : List ℕ) (q : ℕ) → has xs q ≡ is_member eqb xs q
flipped [] q = refl
flipped (x ∷ xs) q = rw (nat_eq_equiv.symm x q, flipped xs q) refl

numbers_distinct : (xs births : List ℕ) → IsDistinct eqb births → IsDistinct eqb (fold with_number births xs)
numbers_distinct [] births h = h
numbers_distinct (x ∷ xs) births h = numbers_distinct xs (with_number births x) (elim (has births x) as (λ b. has births x ≡ b → IsDistinct eqb (cond b births (births ++ x ∷ []))) [
  | true ↦ λ e. h
  | false ↦ λ e. IsDistinct-push nat_eq_equiv births x h (sym (flipped births x) ∙ e)
] refl)

at_distinct : (graph : Graph) (at : Option ℕ) (births : List ℕ) → IsDistinct eqb births → IsDistinct eqb (numbered_at graph at births)
at_distinct graph None births h = h
at_distinct graph (Some x) births h = numbers_distinct (objects_in (contents_at (object_at graph x))) births h

object_distinct : (v : Value) → IsDistinct eqb (objects_in (v ∷ []))
unfolding IsDistinct
object_distinct (object x) = (tt, tt)
object_distinct (fixnum n) = tt
object_distinct nil = tt
object_distinct true_value = tt
object_distinct false_value = tt
object_distinct bwp = tt

pub distinct : (graph : Graph) (v : Value) (n : ℕ) → IsDistinct eqb (numbered graph v n)
distinct graph v zero = object_distinct v
distinct graph v (suc n) = at_distinct graph (slice_get (numbered graph v n) n) (numbered graph v n) (distinct graph v n)

-- ---- objects of the graph alone

with_number_in : (known set : List ℕ) (x : ℕ) → known ⊆ set → IsTrue (has set x) → with_number known x ⊆ set
with_number_in known set x h there = elim (has known x) as (λ b. cond b known (known ++ x ∷ []) ⊆ set) [
  | true ↦ h
  | false ↦ append_sub known (x ∷ []) set h (λ q is. elim (or_cases (eqb x q) false is) [
    | inl e ↦ subst (λ y. IsTrue (has set y)) (eqb-true x q e) there
    | inr e ↦ absurd (false≢true e)
  ])
]

numbers_in : (xs births set : List ℕ) → births ⊆ set → xs ⊆ set → fold with_number births xs ⊆ set
numbers_in [] births set h k = h
numbers_in (x ∷ xs) births set h k =
    numbers_in xs (with_number births x) set (with_number_in births set x h (append_left_sub (x ∷ []) xs set k x (or_left (eqb x x) false (nat_eq_equiv.refl x)))) (append_right_sub (x ∷ []) xs set k)

contents_in : (o : Object) (birth : ℕ) (set : List ℕ) → named_by_object (birth, o) ⊆ set → objects_in (contents o) ⊆ set
contents_in o birth set h = elim (is_guardian o.kind) as (λ b. objects_in (cond b (queue_values o) o.fields) ⊆ set) [
  | true ↦ objects_right o.fields (queue_values o) set h
  | false ↦ objects_left o.fields (queue_values o) set h
]

-- what an object of the graph refers to
found_in : (graph : Graph) (set : List ℕ) → AllByRecursion (λ entry. named_by_object entry ⊆ set) graph → (birth : ℕ) → objects_in (contents_at (object_at graph birth)) ⊆ set
found_in [] set h birth = λ x there. absurd (false≢true there)
found_in (e ∷ graph) set h birth = subst (λ (o : Option Object). objects_in (contents_at o) ⊆ set) (sym (find_first birth e graph))
    (elim (eqb birth e.0) as (λ b. objects_in (contents_at (cond b (Some e.1) (object_at graph birth))) ⊆ set) [
      | true ↦ contents_in e.1 e.0 set h.0
      | false ↦ found_in graph set h.1 birth
    ])

at_in : (graph : Graph) (set : List ℕ) → AllByRecursion (λ entry. named_by_object entry ⊆ set) graph → (at : Option ℕ) (births : List ℕ) → births ⊆ set → numbered_at graph at births ⊆ set
at_in graph set h None births k = k
at_in graph set h (Some x) births k = numbers_in (objects_in (contents_at (object_at graph x))) births set k (found_in graph set h x)

numbered_in : (graph : Graph) (v : Value) (set : List ℕ) → AllByRecursion (λ entry. named_by_object entry ⊆ set) graph → objects_in (v ∷ []) ⊆ set → (n : ℕ) → numbered graph v n ⊆ set
numbered_in graph v set h start zero = start
numbered_in graph v set h start (suc n) = at_in graph set h (slice_get (numbered graph v n) n) (numbered graph v n) (numbered_in graph v set h start n)

-- as many as the graph has, at most
few_numbers : (last : ℕ) (s : State) (v : Value) → IsWellFormedTo last s → objects_in (v ∷ []) ⊆ births s → (n : ℕ) → length (numbered s.graph v n) ≤ length s.graph
few_numbers last s v well start n =
    let inside = numbered_in s.graph v (births s) (names_parts s (births s) well.in_graph).objects start n in
    let count : length (births s) ≡ length s.graph = length-map s.graph (λ (entry : ℕ × Object). entry.0) in
    subst (λ k. length (numbered s.graph v n) ≤ k) count
    (length-le_from_is_member nat_eq_equiv (numbered s.graph v n) (births s) (distinct s.graph v n)
    (λ q there. sym (flipped (births s) q) ∙ inside q (flipped (numbered s.graph v n) q ∙ there)))

-- A walk over the objects by number, each of which gives numbers to what it refers to, ends with all numbers of a print.
pub walked_all : (last : ℕ) (s : State) (v : Value) → IsWellFormedTo last s → objects_in (v ∷ []) ⊆ births s → (n : ℕ) →
    length (numbered s.graph v n) ≡ n → numbering s.graph v ≡ numbered s.graph v n
walked_all last s v well start n done =
    let few : length (numbered s.graph v n) ≤ length s.graph = few_numbers last s v well start n in
    let whole : length s.graph ≡ length s.graph - n + n = omega (arith, few, done) in
    ap (numbered s.graph v) whole ∙ steady s.graph v n (length s.graph - n) (omega (arith, done))
