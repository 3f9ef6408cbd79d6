-- Laws of graphs as lists in ascending order of births.
use Rattle.std.proofs.Common.{◌≡◌, ℕ, ◌+◌, Bool, true, false, ◌&&◌, cond, ◌==◌, [], ◌∷◌, ◌++◌, map, filter, IsTrue, T, Some, None, option_map, refl, sym, ap, subst, ◌∙◌, nat_cmp, is_lt, sum_by, nat_lt, zero-add}
use Rattle.std.specs.List.{list_all}
use Rattle.std.specs.FinMap.{find, put, is_sorted, nat_cmp-IsAntisymmetric}
use Rattle.std.specs.declared.cmp.Ordering.TheVariants.{Greater}
use Rattle.std.specs.FinMap.Entries.{find-put, find-where_key, is_sorted-where_key, below_all, by_order}
use Rattle.std.specs.Cmp.{nat_cmp_total, unsigned_tied, nat_cmp_is}
use Rattle.std.proofs.lemmas.Bool.{eqb-true, and_parts, ltb-true}
use Rattle.std.proofs.lemmas.List.Sums.{sum_by-append}
use Rattle.trace_types.specs.Values.{Object, Graph, object_at}
use Rattle.trace_types.specs.Rules.{has}
use Rattle.trace_types.specs.States.{State}
use Rattle.trace_types.specs.Collections.{Arguments, graph_left, object_left}
use Rattle.trace_types.specs.Kept.{kept}

-- what is found after an object was put
pub object_at-put : (g : Graph) (birth : ℕ) (o : Object) (q : ℕ) → object_at (put nat_cmp birth o g) q ≡ cond (q == birth) (Some o) (object_at g q)
object_at-put g birth o q = find-put nat_cmp nat_cmp_total q birth o g ∙ ap (λ b. cond b (Some o) (object_at g q)) (unsigned_tied q birth)

pub find_first : (q : ℕ) (e : ℕ × Object) (g : Graph) → find nat_cmp q (e ∷ g) ≡ cond (q == e.0) (Some e.1) (find nat_cmp q g)
find_first q e g = ap (λ b. cond b (Some e.1) (find nat_cmp q g)) (unsigned_tied q e.0)

-- what is found where each object is changed
pub object_at-map : (change : ℕ → Object → Object) (g : Graph) (q : ℕ) → object_at (map (λ e. (e.0, change e.0 e.1)) g) q ≡ option_map (change q) (object_at g q)
object_at-map change [] q = refl
object_at-map change (e ∷ g) q =
    find_first q (e.0, change e.0 e.1) (map (λ d. (d.0, change d.0 d.1)) g)
    ∙ elim (q == e.0) as (λ b. (q == e.0) ≡ b → cond b (Some (change e.0 e.1)) (object_at (map (λ d. (d.0, change d.0 d.1)) g) q) ≡ option_map (change q) (cond b (Some e.1) (object_at g q))) [
      | true ↦ λ same. ap (λ x. Some (change x e.1)) (sym (eqb-true q e.0 same))
      | false ↦ λ other. object_at-map change g q
    ] refl
    ∙ ap (option_map (change q)) (sym (find_first q e g))

-- what is found where objects are left out
pub object_at-filter : (keep : ℕ → Bool) (g : Graph) (q : ℕ) → object_at (filter (λ e. keep e.0) g) q ≡ cond (keep q) (object_at g q) None
object_at-filter keep g q = find-where_key nat_cmp keep q (λ x tied. ap keep (sym (nat_cmp-IsAntisymmetric q x tied))) g

-- what is found of the objects that are left
pub object_at-graph_left : (s : State) (a : Arguments) (q : ℕ) → object_at (graph_left s a) q ≡ cond (has (kept s a.cg) q) (option_map (object_left s a q) (object_at s.graph q)) None
object_at-graph_left s a q =
    object_at-map (object_left s a) (filter (λ e. has (kept s a.cg) e.0) s.graph) q
    ∙ ap (option_map (object_left s a q)) (object_at-filter (has (kept s a.cg)) s.graph q)
    ∙ elim (has (kept s a.cg) q) as (λ b. option_map (object_left s a q) (cond b (object_at s.graph q) None) ≡ cond b (option_map (object_left s a q) (object_at s.graph q)) None) [ true ↦ refl | false ↦ refl ]

-- births stay in ascending order
pub graph_left_sorted : (s : State) (a : Arguments) → T (is_sorted nat_cmp s.graph) → T (is_sorted nat_cmp (graph_left s a))
graph_left_sorted s a h = subst T (sym (is_sorted-map (object_left s a) (filter (λ e. has (kept s a.cg) e.0) s.graph))) (is_sorted-where_key nat_cmp (has (kept s a.cg)) s.graph h)
  where
    below_all-map : (change : ℕ → Object → Object) (x : ℕ) (g : Graph) → below_all nat_cmp x (map (λ e. (e.0, change e.0 e.1)) g) ≡ below_all nat_cmp x g
    below_all-map change x [] = refl
    below_all-map change x (e ∷ g) = ap (λ b. is_lt (nat_cmp x e.0) && b) (below_all-map change x g)

    is_sorted-map : (change : ℕ → Object → Object) (g : Graph) → is_sorted nat_cmp (map (λ e. (e.0, change e.0 e.1)) g) ≡ is_sorted nat_cmp g
    is_sorted-map change [] = refl
    is_sorted-map change (e ∷ g) = λ i. below_all-map change e.0 g i && is_sorted-map change g i

-- a new object, of a birth above all, goes last
pub put_last : (g : Graph) (birth : ℕ) (o : Object) → IsTrue (list_all (λ e. nat_lt e.0 birth) g) → put nat_cmp birth o g ≡ g ++ (birth, o) ∷ []
put_last [] birth o h = refl
put_last (e ∷ g) birth o h =
    let parts = and_parts (nat_lt e.0 birth) (list_all (λ d. nat_lt d.0 birth) g) h in
    let above : nat_cmp birth e.0 ≡ Greater = sym (nat_cmp_is birth e.0 Greater (ltb-true e.0 birth parts.0)) in
    ap (λ r. by_order r ((birth, o) ∷ e ∷ g) ((e.0, o) ∷ g) (e ∷ put nat_cmp birth o g)) above
    ∙ ap (λ rest. e ∷ rest) (put_last g birth o parts.1)

-- a sum over the objects, as the census has, after a new object was put
pub sum-put_last : (f : ℕ × Object → ℕ) (g : Graph) (birth : ℕ) (o : Object) → IsTrue (list_all (λ e. nat_lt e.0 birth) g) → sum_by f (put nat_cmp birth o g) ≡ sum_by f g + f (birth, o)
sum-put_last f g birth o h = ap (sum_by f) (put_last g birth o h) ∙ sum_by-append f g ((birth, o) ∷ []) ∙ ap (λ n. sum_by f g + n) (zero-add (f (birth, o)))
