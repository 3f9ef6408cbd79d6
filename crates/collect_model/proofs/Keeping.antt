-- Each object of a plain heap that is reached over addresses is kept by births.
use Rattle.std.proofs.Common.{◌≡◌, ℕ, true, List, [], ◌++◌, map, filter, nat_lt, Contains, slice_get, IsTrue, Option, None, Some, refl, sym, ◌∙◌, ap, subst, inl, inr}
use Rattle.std.proofs.lemmas.List.Elements.{All-contains_itself, All-weaker, Contains-append_cases}
use Rattle.std.proofs.lemmas.Option.{none-some}
use Rattle.gc_words.specs.declared.value.Value.TheVariants as word
use Rattle.trace_types.specs.Values.{Object, objects_in}
use Rattle.trace_types.specs.States.{State, locked}
use Rattle.trace_types.specs.Rules.{Rule, has, facts, least, ◌⊆◌}
use Rattle.trace_types.specs.Closed.{IsClosed}
use Rattle.trace_types.specs.Kept.{kept, older}
use Rattle.trace_types.proofs.Least.{least_induct}
use Rattle.trace_types.proofs.Meeting.{met_closed}
use Rattle.trace_types.proofs.Named.{append_left_sub, append_right_sub}
use Rattle.trace_types.proofs.Phases.{accessible_kept, kept_meets, roots_accessible}
use Rattle.segment.specs.Segments.{Start}
use Rattle.territory.specs.declared.territory.Targets.{Targets}
use Rattle.gc_mail.specs.declared.message.Slot.{Slot as Back}
use Rattle.gc_mail.specs.declared.message.Slot.TheVariants as back
use Rattle.owned_core.specs.Settings.{Setting, rule_of, rules_of}
use Rattle.owned_core.specs.Slots.{keeps}
use Rattle.owned_core.proofs.Lists.{contains_none, filter_some, map_some, some_filter}
use Rattle.sweep_model.specs.Settings.{IsSettingOf, due_of}
use Rattle.sweep_model.specs.World.{World, asks, is_old, is_older, object_in, strong_value}
use Rattle.sweep_model.proofs.Ages.{older_start}
use Rattle.sweep_model.proofs.Names.{collected_some}
use Rattle.heap_store.specs.Starts.{Starts, birth_of, fields_of, object_of, read}
use Rattle.heap_store.specs.HeapView.{HeapView, starts_of}
use Rattle.heap_store.specs.Plain.{IsPlain}
use Rattle.heap_store.specs.Stands.{Stands}
use Rattle.collect_model.specs.Worlds.{world_of}
use Rattle.collect_model.proofs.PlainKinds.{all_strong}
use Rattle.collect_model.proofs.References.{field_there, object_only, place_is}
use Rattle.collect_model.proofs.Graph.{old_above, start_contained, start_found}
use Rattle.collect_model.proofs.Members.{contains_has, has_mapped, has_one, object_there}

module _ (h : HeapView) (s : State) (targets : Targets) (n : ℕ) (w : Setting) (stands : Stands h s)
    (plain : IsPlain h) (setting : IsSettingOf (world_of h targets n) w) where
  abbrev f : Starts
  f = starts_of h

  abbrev world : World
  world = world_of h targets n

  abbrev K : List ℕ
  K = kept s targets.cg

  -- ---- what is kept

  roots_kept : (objects_in s.registers ++ locked s ++ older s targets.cg) ⊆ K
  roots_kept y there = accessible_kept s targets.cg y (roots_accessible s targets.cg y there)

  registers_kept : objects_in s.registers ⊆ K
  registers_kept =
      append_left_sub (objects_in s.registers) (locked s) K
      (append_left_sub (objects_in s.registers ++ locked s) (older s targets.cg) K roots_kept)

  olders_kept : older s targets.cg ⊆ K
  olders_kept = append_right_sub (objects_in s.registers ++ locked s) (older s targets.cg) K roots_kept

  kept_closed : IsClosed s K
  kept_closed = met_closed s K (kept_meets s targets.cg).closed

  -- ---- by places

  abbrev IsKept : ℕ → Type 0
  IsKept p = IsTrue (has K (birth_of (f p)))

  older_kept : (p : ℕ) → is_older world p ≡ true → IsKept p
  older_kept p old =
      let x = older_start world p old in
      let o : Object = object_of f p x.0 [] in
      let there = start_contained h s stands plain p x.0 x.1 in
      let test = λ (e : ℕ × Object). nat_lt targets.cg e.1.generation in
      let passes : IsTrue (test (x.0.birth, o)) =
      sym (old_above targets.cg x.0) ∙ sym (ap (is_old targets.cg) x.1) ∙ old in
      subst (λ b. IsTrue (has K b)) (sym (ap birth_of x.1))
      (olders_kept x.0.birth
      (has_mapped (λ (e : ℕ × Object). e.0) (filter test s.graph) (x.0.birth, o)
      (some_filter test s.graph (x.0.birth, o) there passes)))

  register_kept : (r t : ℕ) → asks world (back.Register r) ≡ Some t → IsKept t
  register_kept r t e =
      let names = (collected_some world (object_in (world.registers r)) t e).0 in
      let held = place_is (slice_get h.registers r) t (sym (object_only (slice_get h.registers r)) ∙ names) in
      registers_kept (birth_of (f t))
      (subst (λ vs. IsTrue (has (objects_in vs) (birth_of (f t)))) (sym stands.registers.reads)
      (object_there (read f) h.registers r (word.Object t) (birth_of (f t)) held (has_one (birth_of (f t)))))

  field_kept : (x i t : ℕ) → asks world (back.Field i x) ≡ Some t → IsKept x → IsKept t
  field_kept x i t e member = by_start (f x) refl
    where
      named : object_in (strong_value (f x) i) ≡ Some t
      named = (collected_some world (object_in (strong_value (f x) i)) t e).0

      by_start : (o : Option Start) → f x ≡ o → IsKept t
      by_start None is = absurd (none-some t (sym (ap (λ o. object_in (strong_value o i)) is) ∙ named))
      by_start (Some y) is =
          let kind = plain.kinds x y is in
          let among = field_there f y kind i t (sym (ap (λ o. object_in (strong_value o i)) is) ∙ named) in
          kept_closed.strong y.birth (object_of f x y []) (start_found h s stands plain x y is)
          (subst (λ b. IsTrue (has K b)) (ap birth_of is) member) (birth_of (f t))
          (subst (λ vs. IsTrue (has (objects_in vs) (birth_of (f t))))
          (sym (all_strong y.kind (fields_of f y) kind)) among)

  slot_kept : (b : Back) (t : ℕ) → asks world b ≡ Some t
      → ((x : ℕ) → IsTrue (has (rule_of (due_of world b t)).premises x) → IsKept x) → IsKept t
  slot_kept (back.Register r) t e premises = register_kept r t e
  slot_kept (back.Field i x) t e premises = field_kept x i t e (premises x (has_one x))
  slot_kept (back.Entry line part) t e premises = absurd (none-some t e)
  slot_kept (back.Wait x) t e premises = absurd (none-some t e)
  slot_kept back.Nothing t e premises = absurd (none-some t e)

  -- ---- so all that the rules reach

  abbrev HandsOn : Rule → Type 0
  HandsOn r = ((x : ℕ) → IsTrue (has r.premises x) → IsKept x) → IsKept r.conclusion

  facts_hand_on : (xs : List ℕ) (r : Rule) → ((x : ℕ) → Contains xs x → IsKept x) → Contains (facts xs) r
      → HandsOn r
  facts_hand_on xs r each there =
      let m = map_some (λ x. record { premises = []; conclusion = x }) xs r there in
      subst HandsOn m.2 (λ _. each m.0 m.1)

  due_hands_on : (r : Rule) → Contains (map rule_of (filter keeps w.dues)) r → HandsOn r
  due_hands_on r there =
      let m = map_some rule_of (filter keeps w.dues) r there in
      let d = setting.from m.0 (filter_some keeps w.dues m.0 m.1).0 in
      subst HandsOn (ap rule_of (sym d.3) ∙ m.2) (slot_kept d.0 d.1 d.2)

  rule_hands_on : (r : Rule) → Contains (rules_of w) r → HandsOn r
  rule_hands_on r there =
      let dues = map rule_of (filter keeps w.dues) in
      elim (Contains-append_cases (facts w.older) (facts w.given ++ dues) r there) [
        | inl old ↦ facts_hand_on w.older r
            (λ x c. older_kept x (sym (setting.older x) ∙ contains_has w.older x c)) old
        | inr other ↦ elim (Contains-append_cases (facts w.given) dues r other) [
          | inl given ↦ facts_hand_on w.given r
              (λ x c. absurd (contains_none x (subst (λ xs. Contains xs x) setting.given c))) given
          | inr due ↦ due_hands_on r due
        ]
      ]

  pub reached_kept : (p : ℕ) → IsTrue (has (least (rules_of w)) p) → IsTrue (has K (birth_of (f p)))
  reached_kept =
      least_induct IsKept (rules_of w)
      (All-weaker (Contains (rules_of w)) HandsOn rule_hands_on (rules_of w)
      (All-contains_itself (rules_of w)))
