-- Each object of a plain heap that is kept by births is reached over addresses.
use Rattle.std.proofs.Common.{◌≡◌, ℕ, true, List, [], ◌++◌, map, filter, nat_lt, All, IsTrue, Some, refl, sym, ◌∙◌, ap, subst}
use Rattle.std.proofs.lemmas.Bool.{and_from, both_ways}
use Rattle.std.proofs.lemmas.List.Elements.{All-from_recursion}
use Rattle.trace_types.specs.Values.{Object, object_at, objects_in, is_ephemeron, strong_references}
use Rattle.trace_types.specs.States.{State, locked}
use Rattle.trace_types.specs.Rules.{has, least, ◌⊆◌}
use Rattle.trace_types.specs.Closed.{IsClosed, IsIn}
use Rattle.trace_types.specs.Kept.{accessible, kept, older, rules, roots}
use Rattle.trace_types.proofs.Least.{facts_met, least_below, MeetsAll-append}
use Rattle.trace_types.proofs.Meeting.{closed_met}
use Rattle.trace_types.proofs.Named.{append_sub}
use Rattle.segment.specs.Segments.{Start}
use Rattle.territory.specs.declared.territory.Targets.{Targets}
use Rattle.gc_mail.specs.declared.message.Slot.TheVariants as back
use Rattle.owned_core.specs.Settings.{Setting, rules_of}
use Rattle.owned_core.proofs.Lists.{filter_some}
use Rattle.sweep_model.specs.Settings.{IsSettingOf}
use Rattle.sweep_model.specs.World.{World, asks, if_collected, is_old, is_older, object_in, strong_value}
use Rattle.heap_store.specs.Starts.{Starts, birth_of, fields_of, read, IsThere}
use Rattle.heap_store.specs.HeapView.{HeapView, starts_of}
use Rattle.heap_store.specs.Plain.{IsPlain}
use Rattle.heap_store.specs.Stands.{Stands}
use Rattle.collect_model.specs.Worlds.{objects_only, world_of}
use Rattle.collect_model.proofs.Accessible.{kept_accessible}
use Rattle.collect_model.proofs.RulesReach.{older_reached, slot_reached}
use Rattle.collect_model.proofs.PlainKinds.{all_strong, no_ephemeron}
use Rattle.collect_model.proofs.References.{field_from, place_there, read_from}
use Rattle.collect_model.proofs.Graph.{contained_placed, nothing_locked, nothing_registered, object_placed, old_above, one_place}
use Rattle.collect_model.proofs.Members.{contains_has, each_at, has_contains, has_mapped, mapped_from, object_from}

module _ (h : HeapView) (s : State) (targets : Targets) (n : ℕ) (w : Setting) (stands : Stands h s)
    (plain : IsPlain h) (setting : IsSettingOf (world_of h targets n) w) where
  abbrev f : Starts
  f = starts_of h

  abbrev world : World
  world = world_of h targets n

  -- what the rules reach, and its births
  abbrev R : List ℕ
  R = least (rules_of w)

  abbrev B : List ℕ
  B = map (λ p. birth_of (f p)) R

  -- ---- births and places

  birth_reached : (q y : ℕ) → IsTrue (has R q) → birth_of (f q) ≡ y → IsTrue (has B y)
  birth_reached q y there e =
      subst (λ z. IsTrue (has B z)) e (has_mapped (λ p. birth_of (f p)) R q (has_contains R q there))

  -- what starts at a place, with a birth that is reached, is reached
  place_reached : (p : ℕ) (x : Start) → f p ≡ Some x → IsTrue (has B x.birth) → IsTrue (has R p)
  place_reached p x here there =
      let r = mapped_from (λ q. birth_of (f q)) R x.birth there in
      subst (λ q. IsTrue (has R q)) (one_place h s stands plain p r.0 x here r.2) (contains_has R r.0 r.1)

  -- ---- so its births are closed

  references_reached : (b : ℕ) (o : Object) → object_at s.graph b ≡ Some o → IsTrue (has B b)
      → strong_references o ⊆ B
  references_reached b o found there y refers =
      let p = object_placed h s stands plain b o found in
      let x = p.start in
      let kind = plain.kinds p.place x p.here in
      let among : IsTrue (has (objects_in (fields_of f x)) y) =
      subst (λ vs. IsTrue (has (objects_in vs) y)) (all_strong x.kind (fields_of f x) kind)
      (subst (λ q. IsTrue (has (strong_references q) y)) p.is refers) in
      let r = field_from f x kind (stands.closed.laid_out p.place x p.here).values y among in
      let asked : asks world (back.Field r.0 p.place) ≡ if_collected world (Some r.1) =
      ap (λ z. if_collected world (object_in (strong_value z r.0))) p.here ∙ ap (if_collected world) r.2 in
      let member = place_reached p.place x p.here (subst (λ c. IsTrue (has B c)) (sym p.same_birth) there) in
      birth_reached r.1 y
      (slot_reached world w setting (back.Field r.0 p.place) r.1 r.4 asked
      (and_from (has R p.place) true member refl)) r.3

  not_ephemeron : (b : ℕ) (o : Object) → object_at s.graph b ≡ Some o → IsTrue (is_ephemeron o.kind) → ⊥
  not_ephemeron b o found is =
      let p = object_placed h s stands plain b o found in
      let none = no_ephemeron p.start.kind (plain.kinds p.place p.start p.here) in
      both_ways (is_ephemeron o.kind) (ap (λ (q : Object). is_ephemeron q.kind) p.is ∙ none) is

  births_closed : IsClosed s B
  births_closed = record {
    strong = references_reached;
    ephemerons = λ b o found is there key. absurd (not_ephemeron b o found is);
    registrations = subst (All (λ r. IsTrue (has B r.guardian) → IsIn B r.object → IsIn B r.representative))
        (sym (nothing_registered h s stands plain)) (All-from_recursion _ [] tt);
  }

  -- ---- and it has the roots

  registers_reached : objects_in s.registers ⊆ B
  registers_reached y there =
      let r = object_from (read f) h.registers y
      (subst (λ vs. IsTrue (has (objects_in vs) y)) stands.registers.reads there) in
      let v = read_from f r.1 y r.3 in
      let held = each_at (IsThere f) h.registers r.0 r.1 stands.registers.there r.2 in
      let asked : asks world (back.Register r.0) ≡ if_collected world (Some v.0) =
      ap (λ z. if_collected world (object_in (objects_only z))) (r.2 ∙ ap Some v.1) in
      let there = place_there f (Some r.1) v.0 held (ap Some v.1) in
      birth_reached v.0 y (slot_reached world w setting (back.Register r.0) v.0 there asked refl) v.2

  olders_reached : older s targets.cg ⊆ B
  olders_reached y there =
      let test = λ (e : ℕ × Object). nat_lt targets.cg e.1.generation in
      let r = mapped_from (λ (e : ℕ × Object). e.0) (filter test s.graph) y there in
      let both = filter_some test s.graph r.0 r.1 in
      let p = contained_placed h s stands plain r.0.0 r.0.1 both.0 in
      let above : IsTrue (nat_lt targets.cg p.start.generation) =
      subst (λ (q : Object). IsTrue (nat_lt targets.cg q.generation)) p.is both.1 in
      let old : is_older world p.place ≡ true =
      ap (is_old targets.cg) p.here ∙ old_above targets.cg p.start ∙ above in
      birth_reached p.place y (older_reached world w setting p.place old)
      (ap birth_of p.here ∙ p.same_birth ∙ r.2)

  roots_reached : (objects_in s.registers ++ locked s ++ older s targets.cg) ⊆ B
  roots_reached =
      append_sub (objects_in s.registers ++ locked s) (older s targets.cg) B
      (append_sub (objects_in s.registers) (locked s) B registers_reached
      (λ y there. absurd (nothing_locked h s stands plain y there)))
      olders_reached

  accessible_reached : accessible s targets.cg ⊆ B
  unfolding accessible
  accessible_reached =
      least_below (rules s ++ roots s targets.cg) B
      ((MeetsAll-append (rules s) (roots s targets.cg) B).1 (
        closed_met s B stands.well_formed.ordered births_closed,
        facts_met (objects_in s.registers ++ locked s ++ older s targets.cg) B roots_reached,
      ))

  pub kept_reached : (p : ℕ) (x : Start) → f p ≡ Some x → IsTrue (has (kept s targets.cg) x.birth)
      → IsTrue (has R p)
  kept_reached p x here is =
      place_reached p x here (accessible_reached x.birth
      (kept_accessible s targets.cg (nothing_registered h s stands plain) x.birth is))
