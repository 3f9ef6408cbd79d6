-- The four phases of a collection, over every schedule.
use Rattle.std.proofs.Common.{◌≡◌, ℕ, Bool, ◌&&◌, List, [], ◌++◌, IsTrue, refl, sym, ap, subst, ◌∙◌}
use Rattle.std.proofs.lemmas.Bool.{and_parts}
use Rattle.trace_types.specs.States.{State as TraceState}
use Rattle.trace_types.specs.Rules.{has, least}
use Rattle.trace_types.specs.Kept.{accessible, accessible_or_served, waited_for, kept}
use Rattle.owned_core.specs.Changes.{begins, drops_none}
use Rattle.owned_core.specs.Dues.{as_though_dues, base_dues, ready_dues, served_dues, unready_dues}
use Rattle.owned_core.specs.Invariants.{HasWatches, Invariant}
use Rattle.owned_core.specs.Owned.{State, begun, in_list, nothing_yet, with_slots}
use Rattle.owned_core.specs.Serving.{AllForwarded, Course, Ends, HasForwarded, first_phase, fourth_phase, second_phase, third_phase}
use Rattle.owned_core.specs.Settings.{HasPlaces, Setting, is_collected, rules_of}
use Rattle.owned_core.proofs.Holding.{steps_hold}
use Rattle.owned_core.proofs.PhaseSets.{third_in_fourth, first_is, fourth_is, second_is, third_is}
use Rattle.owned_core.proofs.PhaseShapes.{first_has_watches, fourth_has_watches, second_has_watches, third_has_watches}
use Rattle.owned_core.proofs.Resting.{idle_exact, more_rules, phase_holds, start_holds}

-- a phase that ends idle has exactly the set that its rules give
ended : (w : Setting) → HasPlaces w → HasWatches w → (begun after : State) → Invariant w begun → Ends w begun after → (set : List ℕ) → ((x : ℕ) → has (least (rules_of w)) x ≡ has set x)
    → Invariant w after × ((x : ℕ) → in_list after x ≡ (is_collected w x && has set x))
ended w places watches begun after inv e set same =
    let now = steps_hold w places begun e.events after inv e.reached in
    (now, λ x. idle_exact w after now watches e.known e.idle x ∙ ap (λ b. is_collected w x && b) (same x))

third_in_kept : (s : TraceState) (cg n x : ℕ) → IsTrue (has (waited_for s cg) x) → IsTrue (has (kept s cg) x)
unfolding kept
third_in_kept s cg n x h = third_in_fourth s cg n x h

pub phases_forward : (places : Setting) → HasPlaces places → (s : TraceState) (cg n : ℕ) (c : Course) (a l t k : State)
    → Ends (first_phase places s cg n c) (with_slots (first_phase places s cg n c) nothing_yet) a
    → Ends (second_phase places s cg n c) (begins (second_phase places s cg n c) drops_none a) l
    → Ends (third_phase places s cg n c) (begins (third_phase places s cg n c) drops_none l) t
    → Ends (fourth_phase places s cg n c) (begins (fourth_phase places s cg n c) c.dropped t) k
    → AllForwarded s cg a l t k
phases_forward places has_places s cg n c a l t k one two three four = record {
  first = first.1;
  second = second.1;
  third = third.1;
  fourth = fourth.1;
}
  where
    there : (w : Setting) → ((x : ℕ) → w.stays x ≡ places.stays x) → ((x : ℕ) → w.old_place x ≡ places.old_place x) → ((p : ℕ) → w.was_place p ≡ places.was_place p) → HasPlaces w
    there w f g h = record {
      was = λ x is. subst IsTrue (sym (h (w.old_place x))) (subst (λ z. IsTrue (places.was_place z)) (sym (g x)) (has_places.was x (subst IsTrue (f x) is)));
      apart = λ x y ix iy same. has_places.apart x y (subst IsTrue (f x) ix) (subst IsTrue (f y) iy) (sym (g x) ∙ same ∙ g y);
    }

    w1 : Setting
    w1 = first_phase places s cg n c

    w2 : Setting
    w2 = second_phase places s cg n c

    w3 : Setting
    w3 = third_phase places s cg n c

    w4 : Setting
    w4 = fourth_phase places s cg n c

    first : Invariant w1 a × HasForwarded s cg a (accessible s cg)
    first = ended w1 (there w1 (λ x. refl) (λ x. refl) (λ x. refl)) (first_has_watches places s cg n []) (with_slots w1 nothing_yet) a (start_holds w1 refl) one (accessible s cg) (first_is s cg n places)

    second : Invariant w2 l × HasForwarded s cg l (accessible_or_served s cg)
    second = ended w2 (there w2 (λ x. refl) (λ x. refl) (λ x. refl)) (second_has_watches places s cg n []) (begins w2 drops_none a) l
        (more_rules w1 a (served_dues s cg n) c.second first.0 (first_has_watches places s cg n []) one.known one.idle) two (accessible_or_served s cg) (second_is s cg n places)

    third : Invariant w3 t × HasForwarded s cg t (waited_for s cg)
    third = ended w3 (there w3 (λ x. refl) (λ x. refl) (λ x. refl)) (third_has_watches places s cg n []) (begins w3 drops_none l) t
        (more_rules w2 l (as_though_dues s cg n) c.third second.0 (second_has_watches places s cg n []) two.known two.idle) three (waited_for s cg) (third_is s cg n places)

    fourth : Invariant w4 k × HasForwarded s cg k (kept s cg)
    fourth = ended w4 (there w4 (λ x. refl) (λ x. refl) (λ x. refl)) (fourth_has_watches places s cg n (waited_for s cg)) (begins w4 c.dropped t) k
        (phase_holds w3 t (((base_dues s n ++ served_dues s cg n) ++ ready_dues s cg n) ++ unready_dues s cg n) (waited_for s cg) c.fourth c.dropped third.0 (third_has_watches places s cg n []) three.known three.idle
        (λ x h. subst IsTrue (sym (fourth_is s cg n places x)) (third_in_kept s cg n x (and_right (is_collected w3 x) (has (waited_for s cg) x) (subst IsTrue (third.1 x) h))))
        (λ x g collected. subst IsTrue (sym (third_is s cg n places x)) g))
        four (kept s cg) (fourth_is s cg n places)
      where
        and_right : (x y : Bool) → IsTrue (x && y) → IsTrue y
        and_right x y h = (and_parts x y h).1
