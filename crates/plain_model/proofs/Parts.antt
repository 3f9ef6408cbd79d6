-- Changes of a part of a state, and slots of a table.
use Rattle.std.proofs.Common.{◌≡◌, ℕ, List, [], ◌∷◌, ◌+◌, zero, suc, ◌<◌, true, false, ◌==◌, cond, not, map, get_or, position, replicate, nat_lt, set, nat_cmp, IsTrue, Bool, Option, Some, None, refl, sym, ap, subst, ◌∙◌, arith}
use Rattle.std.specs.FinMap.{is_sorted, put}
use Rattle.std.specs.FinMap.{find}
use Rattle.std.specs.List.{position_or_len, AllByRecursion, list_all}
use Rattle.std.proofs.lemmas.List.{length-map}
use Rattle.std.proofs.lemmas.List.Elements.{recursion_from_All, All-from_recursion}
use Rattle.trace_types.specs.Values as values
use Rattle.trace_types.specs.States as states
use Rattle.trace_types.specs.WellFormed.{IsWellFormed, IsNext, IsObject, fields_fit}
use Rattle.trace_types.proofs.Graphs.{object_at-put}
use Rattle.trace_types.proofs.Least.{each_weaker}
use Rattle.trace_types.proofs.Meeting.{each_found}
use Rattle.trace_types.proofs.Stepping.{births_before}
use Rattle.std.proofs.lemmas.Bool.{eqb-true, ltb-true}
use Rattle.plain_model.specs.Plain.{meaning, HasEntry}
use Rattle.plain_model.specs.Bytes.{are_bytes, HasBytes}
use Rattle.plain_model.specs.Stepping.{CountsBelow}
use Rattle.plain_model.specs.declared.value.Value.{Value}
use Rattle.plain_model.specs.declared.state.State.TheInside.{Inside}
use Rattle.plain_model.specs.contracts.state.State.{the_view}
use Rattle.plain_model.proofs.Placing.{put_again, find_first}

-- another object in the place of one
pub object_written : (change : values.Object → values.Object) (s : Inside) (i birth : ℕ) (old : ℕ × values.Object) (new o : values.Object)
    → IsTrue (is_sorted nat_cmp s.graph.items) → HasEntry s.graph.items i birth → old ≡ get_or s.graph.items i old
    → new ≡ change old.1 → values.object_at (the_view s).graph birth ≡ Some o
    → record (the_view s) { graph = set s.graph.items i (old.0, new) } ≡ states.with_object (the_view s) birth (change o)
object_written change s i birth old new o sorted has is changed found =
    let same : old.1 ≡ o = cc (has.2 old) in
    ap (λ (g : values.Graph). record (the_view s) { graph = g }) (put_again s.graph.items i birth new old sorted has is)
    ∙ ap (λ (x : values.Object). states.with_object (the_view s) birth x) (changed ∙ ap change same)

module _ {X Y : Type 0} (p : Y → Bool) (f : X → Y) where
  first_passing : (xs : List X) → position_or_len p (map f xs) ≡ position_or_len (λ x. p (f x)) xs
  first_passing [] = refl
  first_passing (x ∷ xs) = ap (λ n. cond (not (p (f x))) (1 + n) 0) (first_passing xs)

  pub position-map : (xs : List X) → position p (map f xs) ≡ position (λ x. p (f x)) xs
  position-map xs = rw (first_passing xs, length-map) refl

-- so many of a value mean so many of what it means
pub copies_mean : (n : ℕ) (v : Value) → map meaning (replicate n v) ≡ replicate n (meaning v)
copies_mean zero v = refl
copies_mean (suc n) v = ap (λ (rest : List values.Value). meaning v ∷ rest) (copies_mean n v)

found_below : (n : ℕ) → 0 < n → (es : List (ℕ × ℕ)) → AllByRecursion (λ e. e.1 < n) es → (x : ℕ) → states.or_zero (find nat_cmp x es) < n
found_below n some [] all x = some
found_below n some (e ∷ es) all x =
    subst (λ (o : Option ℕ). states.or_zero o < n) (sym (find_first x e es))
    (elim (x == e.0) as (λ b. states.or_zero (cond b (Some e.1) (find nat_cmp x es)) < n) [
      | true ↦ all.0
      | false ↦ found_below n some es all.1 x
    ])

-- so is each lock count
pub count_below : (n : ℕ) (s : states.State) (x : ℕ) → CountsBelow n s → states.lock_count s x < n
count_below n s x counts =
    let collects = counts.collects in
    found_below n (omega arith) s.locks (recursion_from_All (λ e. e.1 < n) s.locks counts.locks) x

-- an object that was there is there beside a new one
pub still_there : (graph : values.Graph) (line x : ℕ) (new o : values.Object) → ◌≡◌ {A = Option values.Object} (values.object_at graph line) None
    → values.object_at graph x ≡ Some o → values.object_at (put nat_cmp line new graph) x ≡ Some o
still_there graph line x new o none there =
    object_at-put graph line new x
    ∙ elim (x == line) as (λ b. (x == line) ≡ b → cond b (Some new) (values.object_at graph x) ≡ Some o) [
      | true ↦ λ same. absurd (not_both (values.object_at graph x) there (ap (values.object_at graph) (eqb-true x line same) ∙ none))
      | false ↦ λ _. there
    ] refl
  where
    not_both : (found : Option values.Object) → found ≡ Some o → found ≡ None → ⊥
    not_both found some none = cc

-- a well-formed state has bytes in its byte objects
pub bytes_of_well_formed : (s : states.State) → IsWellFormed s → HasBytes s.graph
bytes_of_well_formed s well =
    All-from_recursion _ s.graph (each_weaker (λ e. IsObject s.version s.oldest e.1) (λ e. IsTrue (are_bytes e.1)) (λ e is. fit e.1 is.fitting)
    s.graph (recursion_from_All (λ e. IsObject s.version s.oldest e.1) s.graph well.objects))
  where
    fit : (o : values.Object) → IsTrue (fields_fit o.kind o.fields) → IsTrue (are_bytes o)
    fit o h =
        elim (values.has_bytes o.kind) as (λ b. IsTrue (cond b (list_all values.is_byte o.fields) (list_all values.is_value o.fields))
        → IsTrue (cond b (list_all values.is_byte o.fields) true)) [ true ↦ λ k. k | false ↦ λ _. refl ] h

-- no object has the next line as its birth
pub line_is_new : (s : states.State) (line : ℕ) → IsNext s line → ◌≡◌ {A = Option values.Object} (values.object_at s.graph line) None
line_is_new s line next = by_found (values.object_at s.graph line) refl
  where
    by_found : (found : Option values.Object) → values.object_at s.graph line ≡ found → ◌≡◌ {A = Option values.Object} found None
    by_found None e = refl
    by_found (Some o) e =
        let below = ltb-true line line (each_found (λ x _. IsTrue (nat_lt x line)) s.graph (births_before s line next.above) line o e) in
        absurd (omega arith)
