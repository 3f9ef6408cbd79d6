-- Lists of the same births, none of them twice, have one length.
use Rattle.std.proofs.Common.{◌≡◌, ℕ, false, List, [], ◌∷◌, map, length, nat_cmp, nat_eq, sum_by, Contains, IsTrue, refl, sym, arith}
use Rattle.std.specs.FinMap.{is_sorted}
use Rattle.std.specs.FinMap.Entries.{below_all}
use Rattle.std.specs.List.{IsDistinct, list_any}
use Rattle.std.proofs.lemmas.Bool.{and_parts, eqb-false, eqb-true, ne_eqb}
use Rattle.std.proofs.lemmas.Cmp.{nat_eq_equiv}
use Rattle.std.proofs.lemmas.List.Sums.{sum_by-cons}
use Rattle.std.proofs.lemmas.Map.Made.{length-from_same_keys}
use Rattle.std.proofs.lemmas.Map.Views.{Contains-from_any, list_any-from_Contains}
use Rattle.trace_types.specs.Values.{Graph, Object}
use Rattle.trace_types.proofs.Least.{each_weaker}
use Rattle.trace_types.proofs.Meeting.{each_above}
use Rattle.trace_types.proofs.Preserving.{each_map}
use Rattle.owned_core.proofs.Lists.{contains_here, contains_there}
use Rattle.owned_core.proofs.Resting.{same_tests}

-- no birth stands twice in an ordered graph
pub births_distinct : (graph : Graph) → IsTrue (is_sorted nat_cmp graph)
    → IsDistinct nat_eq (map (λ e. e.0) graph)
unfolding IsDistinct
births_distinct [] ordered = tt
births_distinct (e ∷ graph) ordered =
    let parts = and_parts (below_all nat_cmp e.0 graph) (is_sorted nat_cmp graph) ordered in (
      each_map (λ b. nat_eq e.0 b ≡ false) (λ (d : ℕ × Object). d.0) graph
          (each_weaker _ _ (λ d apart. ne_eqb e.0 d.0 (λ same. eqb-false d.0 e.0 apart (sym same))) graph
          (each_above e.0 graph parts.0)),
      births_distinct graph parts.1,
    )

-- where each has the other's births, both are as long
pub length-same : (xs ys : List ℕ) → IsDistinct nat_eq xs → IsDistinct nat_eq ys
    → ((q : ℕ) → Contains xs q → Contains ys q) → ((q : ℕ) → Contains ys q → Contains xs q)
    → length xs ≡ length ys
length-same xs ys first second to from = length-from_same_keys nat_eq_equiv xs ys first second (λ q.
    same_tests (list_any (nat_eq q) xs) (list_any (nat_eq q) ys)
    (λ h. list_any-from_Contains nat_eq_equiv q ys (to q (Contains-from_any eqb-true q xs h)))
    (λ h. list_any-from_Contains nat_eq_equiv q xs (from q (Contains-from_any eqb-true q ys h))))

-- a sum of ones
pub sum_by-one : {X : Type 0} (f : X → ℕ) (xs : List X) → ((x : X) → Contains xs x → f x ≡ 1)
    → sum_by f xs ≡ length xs
sum_by-one f [] each = refl
sum_by-one f (x ∷ xs) each =
    let rest = sum_by-one f xs (λ y c. each y (contains_there x xs y c)) in
    omega (arith, sum_by-cons f x xs, each x (contains_here x xs), rest)
