-- The first walks of each length, from each object.
use Rattle.std.proofs.Common.{◌≡◌, ℕ, suc, ◌+◌, ◌-◌, ◌<◌, ◌≤◌, add-one, arith, true, false, ◌==◌, cond, List, [], ◌∷◌, ◌++◌, map, filter, flat_map, length, nat_cmp, Option, Some, None, refl, sym, ap, ◌∙◌}
use Rattle.std.specs.Prelude.{option_map}
use Rattle.std.specs.FinMap.{find}
use Rattle.std.proofs.lemmas.Bool.{eqb-true}
use Rattle.trace_types.specs.Values.{Value, fixnum, nil, true_value, false_value, bwp, object, Object, Graph, object_at}
use Rattle.trace_types.specs.Finder.{indexed, steps_at, walks, first_or, shortest}
use Rattle.trace_types.specs.Rules.{has}
use Rattle.plain_model.specs.Plain.{Alike}
use Rattle.plain_model.specs.Walks.{head_of, or_first, through, listed, longer_walk}
use Rattle.plain_model.proofs.Placing.{find_first}

-- ---- steps

through-append : (found : ℕ → Option (List ℕ)) (ss ts : List (ℕ × ℕ)) → through found (ss ++ ts) ≡ or_first (through found ss) (through found ts)
through-append found [] ts = refl
through-append found (s ∷ ss) ts =
    ap (or_first (option_map (λ walk. s.0 ∷ walk) (found s.1))) (through-append found ss ts)
    ∙ joined (option_map (λ walk. s.0 ∷ walk) (found s.1)) (through found ss) (through found ts)
  where
    joined : (a b c : Option (List ℕ)) → or_first a (or_first b c) ≡ or_first (or_first a b) c
    joined None b c = refl
    joined (Some w) b c = refl

indexed-first : (n : ℕ) (v : Value) (vs : List Value) → indexed n (v ∷ vs) ≡ indexed n (v ∷ []) ++ indexed (suc n) vs
indexed-first n (fixnum m) vs = refl
indexed-first n nil vs = refl
indexed-first n true_value vs = refl
indexed-first n false_value vs = refl
indexed-first n bwp vs = refl
indexed-first n (object x) vs = refl

-- the first value, and the others
pub through_first : (found : ℕ → Option (List ℕ)) (n : ℕ) (v : Value) (vs : List Value)
    → through found (indexed n (v ∷ vs)) ≡ or_first (through found (indexed n (v ∷ []))) (through found (indexed (suc n) vs))
through_first found n v vs =
    ap (through found) (indexed-first n v vs) ∙ through-append found (indexed n (v ∷ [])) (indexed (suc n) vs)

-- ---- one step more

head-append : (ws vs : List (List ℕ)) → head_of (ws ++ vs) ≡ or_first (head_of ws) (head_of vs)
head-append [] vs = refl
head-append (w ∷ ws) vs = refl

head-map : (i : ℕ) (ws : List (List ℕ)) → head_of (map (λ walk. i ∷ walk) ws) ≡ option_map (λ walk. i ∷ walk) (head_of ws)
head-map i [] = refl
head-map i (w ∷ ws) = refl

-- the first walk goes on from the first step from which there is one
pub head_through : (found : ℕ → Option (List ℕ)) (next : ℕ → List (List ℕ)) → ((y : ℕ) → found y ≡ head_of (next y)) → (ss : List (ℕ × ℕ))
    → through found ss ≡ head_of (flat_map (λ s. map (λ walk. s.0 ∷ walk) (next s.1)) ss)
head_through found next same [] = refl
head_through found next same (s ∷ ss) =
    ap (λ o. or_first (option_map (λ walk. s.0 ∷ walk) o) (through found ss)) (same s.1)
    ∙ ap (or_first (option_map (λ walk. s.0 ∷ walk) (head_of (next s.1)))) (head_through found next same ss)
    ∙ sym (head-append (map (λ walk. s.0 ∷ walk) (next s.1)) (flat_map (λ t. map (λ walk. t.0 ∷ walk) (next t.1)) ss)
    ∙ ap (λ o. or_first o (head_of (flat_map (λ t. map (λ walk. t.0 ∷ walk) (next t.1)) ss))) (head-map s.0 (next s.1)))

-- ---- lists of walks by object

module _ (walk_of : ℕ → Option (List ℕ)) where
  abbrev entries : Graph → List (ℕ × List ℕ)
  entries graph = flat_map (λ entry. listed entry.0 (walk_of entry.0)) graph

  -- past another object
  past : (x y : ℕ) (o : Option (List ℕ)) (rest : List (ℕ × List ℕ)) → (x == y) ≡ false → find nat_cmp x (listed y o ++ rest) ≡ find nat_cmp x rest
  past x y None rest other = refl
  past x y (Some walk) rest other =
      find_first x (y, walk) rest ∙ ap (λ b. cond b (Some walk) (find nat_cmp x rest)) other

  none_listed : (x : ℕ) (graph : Graph) → walk_of x ≡ None → find nat_cmp x (entries graph) ≡ None
  none_listed x [] none = refl
  none_listed x (e ∷ graph) none = elim (x == e.0) as (λ b. (x == e.0) ≡ b → find nat_cmp x (entries (e ∷ graph)) ≡ None) [
    | true ↦ λ same. ap (λ o. find nat_cmp x (listed e.0 o ++ entries graph)) (ap walk_of (sym (eqb-true x e.0 same)) ∙ none)
        ∙ none_listed x graph none
    | false ↦ λ other. past x e.0 (walk_of e.0) (entries graph) other ∙ none_listed x graph none
  ] refl

  one_listed : (x : ℕ) (walk : List ℕ) (o : Object) (graph : Graph) → walk_of x ≡ Some walk → object_at graph x ≡ Some o
      → find nat_cmp x (entries graph) ≡ Some walk
  one_listed x walk o [] some there = cc
  one_listed x walk o (e ∷ graph) some there = elim (x == e.0) as (λ b. (x == e.0) ≡ b → find nat_cmp x (entries (e ∷ graph)) ≡ Some walk) [
    | true ↦ λ same. ap (λ o. find nat_cmp x (listed e.0 o ++ entries graph)) (ap walk_of (sym (eqb-true x e.0 same)) ∙ some)
        ∙ find_first x (e.0, walk) (entries graph) ∙ ap (λ b. cond b (Some walk) (find nat_cmp x (entries graph))) same
    | false ↦ λ other. past x e.0 (walk_of e.0) (entries graph) other
        ∙ one_listed x walk o graph some
        (sym (find_first x e graph ∙ ap (λ b. cond b (Some e.1) (object_at graph x)) other) ∙ there)
  ] refl

  -- what is found from an object of the graph is its walk
  pub listed_found : (graph : Graph) → ((x : ℕ) → object_at graph x ≡ None → walk_of x ≡ None) → (x : ℕ)
      → find nat_cmp x (entries graph) ≡ walk_of x
  listed_found graph others x = by_walk (walk_of x) refl
    where
      by_object : (walk : List ℕ) → walk_of x ≡ Some walk → (o : Option Object) → object_at graph x ≡ o → find nat_cmp x (entries graph) ≡ Some walk
      by_object walk some None there = absurd (not_some (sym (others x there) ∙ some))
        where
          not_some : {w : List ℕ} → None ≡ Some w → ⊥
          not_some e = cc
      by_object walk some (Some o) there = one_listed x walk o graph some there

      by_walk : (w : Option (List ℕ)) → walk_of x ≡ w → find nat_cmp x (entries graph) ≡ walk_of x
      by_walk None none = none_listed x graph none ∙ sym none
      by_walk (Some walk) some = by_object walk some (object_at graph x) refl ∙ sym some

-- ---- lengths

-- without a step
pub standing_found : (graph : Graph) (b x : ℕ) → find nat_cmp x ((b, []) ∷ []) ≡ head_of (walks graph 0 x b)
standing_found graph b x =
    find_first x (b, []) [] ∙ elim (x == b) as (λ c. cond c (Some []) None ≡ head_of (cond c ([] ∷ []) [])) [ true ↦ refl | false ↦ refl ]

-- with a step more
pub longer_found : (graph : Graph) (n b : ℕ) (known : List (ℕ × List ℕ)) → ((x : ℕ) → find nat_cmp x known ≡ head_of (walks graph n x b)) → (x : ℕ)
    → find nat_cmp x (flat_map (λ entry. longer_walk graph known entry.0) graph) ≡ head_of (walks graph (n + 1) x b)
unfolding longer_walk
longer_found graph n b known all x = rw add-one (
    listed_found (λ z. through (λ y. find nat_cmp y known) (steps_at (object_at graph z))) graph
    (λ z none. ap (λ o. through (λ y. find nat_cmp y known) (steps_at o)) none) x
    ∙ head_through (λ y. find nat_cmp y known) (λ y. walks graph n y b) all (steps_at (object_at graph x)))

-- the first walk of this length
shortest_here : (graph : Graph) (more n a b : ℕ) (walk : List ℕ) → head_of (walks graph n a b) ≡ Some walk
    → shortest graph (suc more) n a b ≡ Some walk
shortest_here graph more n a b walk e = by_walks (walks graph n a b) e
  where
    by_walks : (ws : List (List ℕ)) → head_of ws ≡ Some walk → first_or ws (λ _. shortest graph more (suc n) a b) ≡ Some walk
    by_walks [] e = cc
    by_walks (w ∷ ws) e = e

-- there is none of this length
shortest_later : (graph : Graph) (more n a b : ℕ) → head_of (walks graph n a b) ≡ None
    → shortest graph (suc more) n a b ≡ shortest graph more (suc n) a b
shortest_later graph more n a b e = by_walks (walks graph n a b) e
  where
    by_walks : (ws : List (List ℕ)) → head_of ws ≡ None → first_or ws (λ _. shortest graph more (suc n) a b) ≡ shortest graph more (suc n) a b
    by_walks [] e = refl
    by_walks (w ∷ ws) e = absurd (not_none w e)
      where
        not_none : (w : List ℕ) → Some w ≡ None → ⊥
        not_none w e = cc

-- the loop over lengths ends here
pub path_here : (graph : Graph) (n a b : ℕ) (walk : List ℕ) (whole : Option (List ℕ)) → n < length graph
    → head_of (walks graph n a b) ≡ Some walk → shortest graph (length graph - n) n a b ≡ whole → Some walk ≡ whole
path_here graph n a b walk whole less here so_far =
    let left : length graph - n ≡ suc (length graph - n - 1) = omega arith in
    sym (shortest_here graph (length graph - n - 1) n a b walk here) ∙ ap (λ k. shortest graph k n a b) (sym left) ∙ so_far

-- the loop over lengths goes on
pub path_later : (graph : Graph) (n a b : ℕ) (whole : Option (List ℕ)) → n < length graph
    → head_of (walks graph n a b) ≡ None → shortest graph (length graph - n) n a b ≡ whole
    → shortest graph (length graph - (n + 1)) (n + 1) a b ≡ whole
path_later graph n a b whole less none so_far =
    let left : length graph - n ≡ suc (length graph - (n + 1)) = omega arith in
    rw add-one (sym (shortest_later graph (length graph - suc n) n a b none)
    ∙ ap (λ k. shortest graph k n a b) (sym (rw add-one at left)) ∙ so_far)

-- no length is left
pub path_nowhere : (graph : Graph) (n a b : ℕ) (whole : Option (List ℕ)) → length graph ≤ n
    → shortest graph (length graph - n) n a b ≡ whole → None ≡ whole
path_nowhere graph n a b whole most so_far =
    let left : length graph - n ≡ 0 = omega arith in
    ap (λ k. shortest graph k n a b) (sym left) ∙ so_far

-- ---- sets

-- two sets with the same members pass the same entries
pub filter_alike : (s t : List ℕ) → Alike s t → (graph : Graph) → filter (λ entry. has s entry.0) graph ≡ filter (λ entry. has t entry.0) graph
filter_alike s t same [] = refl
filter_alike s t same (e ∷ graph) =
    ap (λ b. cond b (e ∷ filter (λ entry. has s entry.0) graph) (filter (λ entry. has s entry.0) graph)) (same e.0)
    ∙ ap (λ rest. cond (has t e.0) (e ∷ rest) rest) (filter_alike s t same graph)
