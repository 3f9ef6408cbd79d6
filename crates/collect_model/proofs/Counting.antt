-- How many objects each sweeper copied.
use Rattle.std.proofs.Common.{◌≡◌, ℕ, ◌+◌, ◌%◌, ◌<◌, ◌==◌, ◌&&◌, Bool, true, List, [], map, filter, length, nat_eq, nat_le, get_or, Contains, IsTrue, sym, ◌∙◌, ap, subst, arith}
use Rattle.std.specs.List.{IsDistinct}
use Rattle.std.proofs.lemmas.Bool.{and_from, and_parts, eq-eqb, eqb-true, ne_eqb}
use Rattle.std.proofs.lemmas.List.{get_or-map, length-map}
use Rattle.std.proofs.lemmas.List.Elements.{Contains-get_or}
use Rattle.std.proofs.lemmas.Map.Keys.{IsDistinct-from_apart}
use Rattle.std.proofs.lemmas.Map.Made.{IsDistinct-keys_filter}
use Rattle.gc_words.specs.declared.value.Value.{Value}
use Rattle.gc_words.specs.Layout.{thread_of}
use Rattle.trace_types.specs.Values.{Object}
use Rattle.trace_types.specs.States.{State}
use Rattle.trace_types.specs.Rules.{has}
use Rattle.trace_types.specs.Kept.{kept}
use Rattle.territory.specs.declared.territory.Targets.{Targets}
use Rattle.owned_core.proofs.Lists.{filter_some, map_some, some_filter, some_map}
use Rattle.sweep_model.specs.World.{World, is_collected, is_young}
use Rattle.sweep_model.specs.Hands.{Hand, Tied, forwarded_at}
use Rattle.sweep_model.proofs.Ages.{collected_start}
use Rattle.heap_store.specs.Starts.{Starts, birth_of, object_of}
use Rattle.heap_store.specs.HeapView.{HeapView, starts_of}
use Rattle.heap_store.specs.Plain.{IsPlain}
use Rattle.heap_store.specs.Stands.{Stands}
use Rattle.collect_model.specs.Worlds.{HasEnded, world_of}
use Rattle.collect_model.specs.Counts.{copied_by, is_copied_by}
use Rattle.collect_model.proofs.Ending.{IsReached}
use Rattle.collect_model.proofs.Graph.{contained_placed, one_place, start_contained}
use Rattle.collect_model.proofs.Lengths.{births_distinct, length-same, sum_by-one}

module _ (h : HeapView) (s : State) (targets : Targets) (n : ℕ) (hands : ℕ → Hand) (g : Starts)
    (registers : List Value) (stands : Stands h s) (plain : IsPlain h)
    (ended : HasEnded (world_of h targets n) hands g registers)
    (reached : IsReached h targets n ended.setting (kept s targets.cg)) (k : ℕ) (less : k < n) where
  abbrev f : Starts
  f = starts_of h

  abbrev world : World
  world = world_of h targets n

  abbrev own : List (ℕ × ℕ)
  own = (hands k).own

  -- the births of what the sweeper copied
  abbrev birth_in : ℕ × ℕ → ℕ
  birth_in e = birth_of (f e.0)

  abbrev copies : List ℕ
  copies = map birth_in own

  -- and of the objects that count
  abbrev counts : ℕ × Object → Bool
  counts = is_copied_by (kept s targets.cg) targets.cg n k

  abbrev counted : List (ℕ × Object)
  counted = filter counts s.graph

  abbrev births : List ℕ
  births = map (λ (e : ℕ × Object). e.0) counted

  tied : Tied world (hands k)
  tied = ended.tied k less

  -- ---- what the sweeper copied counts, and what counts it copied

  copied_counts : (x p : ℕ) → Contains own (x, p) → Contains births (birth_of (f x))
  copied_counts x p c =
      let mine = tied.mine x p c in
      let y = collected_start world x mine.1 in
      let o : Object = object_of f x y.0 [] in
      let there = start_contained h s stands plain x y.0 y.1 in
      let is_kept : IsTrue (has (kept s targets.cg) y.0.birth) =
      reached x y.0 y.1 ∙ (ended.done.alone k x p less c).1 in
      let young : IsTrue (nat_le y.0.generation targets.cg) = sym (ap (is_young targets.cg) y.1) ∙ mine.1 in
      let its_own : IsTrue (thread_of x % n == k) = eq-eqb _ k (mine.0 ∙ ended.numbers k less) in
      let passes : IsTrue (counts (y.0.birth, o)) = and_from _ _ (and_from _ _ is_kept young) its_own in
      let among = some_filter counts s.graph (y.0.birth, o) there passes in
      subst (Contains births) (sym (ap birth_of y.1))
      (some_map (λ (e : ℕ × Object). e.0) counted (y.0.birth, o) among)

  counted_copied : (b : ℕ) (o : Object) → Contains s.graph (b, o) → IsTrue (counts (b, o)) → Contains copies b
  counted_copied b o there passes =
      let p = contained_placed h s stands plain b o there in
      let x = p.place in
      let is_counted : IsTrue (counts (p.start.birth, object_of f x p.start [])) =
      subst (λ c. IsTrue (counts (c, object_of f x p.start []))) (sym p.same_birth)
      (subst (λ q. IsTrue (counts (b, q))) p.is passes) in
      let parts = and_parts (has (kept s targets.cg) p.start.birth && nat_le p.start.generation targets.cg)
      (thread_of x % n == k) is_counted in
      let first = and_parts (has (kept s targets.cg) p.start.birth) _ parts.0 in
      let collected : is_collected world x ≡ true = ap (is_young targets.cg) p.here ∙ first.1 in
      let copy = ended.done.kept x collected (sym (reached x p.start p.here) ∙ first.0) in
      let mine : Contains own (x, copy.0) =
      subst (λ m. Contains (hands m).own (x, copy.0)) (eqb-true (thread_of x % n) k parts.1) copy.1 in
      subst (Contains copies) (ap birth_of p.here ∙ p.same_birth) (some_map birth_in own (x, copy.0) mine)

  -- ---- none of them twice

  copied_once : (i j : ℕ) → i < length own → j < length own
      → birth_in (forwarded_at own i) ≡ birth_in (forwarded_at own j) → i ≡ j
  copied_once i j first second same =
      let x = forwarded_at own i in
      let start = collected_start world x.0 (tied.mine x.0 x.1 (Contains-get_or own i (0, 0) first)).1 in
      let birth : birth_in (forwarded_at own j) ≡ start.0.birth = sym same ∙ ap birth_of start.1 in
      tied.objects_once i j first second
      (sym (one_place h s stands plain x.0 (forwarded_at own j).0 start.0 start.1 birth))

  copies_distinct : IsDistinct nat_eq copies
  copies_distinct = IsDistinct-from_apart nat_eq copies (λ i j d before within.
      let second : j < length own = omega (arith, within, length-map own birth_in) in
      let first : i < length own = omega (arith, before, second) in
      ne_eqb (get_or copies i d) (get_or copies j d) (λ same.
      let one : i ≡ j = copied_once i j first second
      (sym (get_or-map birth_in own i (0, 0) d first) ∙ same ∙ get_or-map birth_in own j (0, 0) d second) in
      omega (arith, before, one)))

  births_apart : IsDistinct nat_eq births
  births_apart =
      IsDistinct-keys_filter nat_eq counts s.graph (births_distinct s.graph stands.well_formed.ordered)

  -- ---- so they are as many

  as_many : length own ≡ length counted
  as_many =
      sym (length-map own birth_in)
      ∙ length-same copies births copies_distinct births_apart
      (λ b c. let m = map_some birth_in own b c in
      subst (Contains births) m.2 (copied_counts m.0.0 m.0.1 m.1))
      (λ b c. let m = map_some (λ (e : ℕ × Object). e.0) counted b c in
      let both = filter_some counts s.graph m.0 m.1 in
      subst (Contains copies) m.2 (counted_copied m.0.0 m.0.1 both.0 both.1))
      ∙ length-map counted (λ e. e.0)

  abbrev cells : ℕ × Object → ℕ
  cells e = 1 + length e.1.queue

  -- nothing has a queue
  no_cells : (e : ℕ × Object) → Contains counted e → cells e ≡ 1
  no_cells e c =
      let p = contained_placed h s stands plain e.0 e.1 (filter_some counts s.graph e c).0 in
      ap (λ (o : Object). 1 + length o.queue) p.is

  pub copies_counted : length own ≡ copied_by s targets.cg n k
  copies_counted = as_many ∙ sym (sum_by-one cells counted no_cells)
