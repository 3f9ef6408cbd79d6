-- What is reached is the least set that a step never leaves.
use Rattle.std.proofs.Common.{ℕ, ◌==◌, true, false, List, [], ◌∷◌, ◌++◌, flat_map, IsTrue, refl, sym, subst}
use Rattle.std.proofs.lemmas.Bool.{and_from, and_parts, or_left, eq-eqb}
use Rattle.std.proofs.lemmas.List.Elements.{All-from_recursion, recursion_from_All}
use Rattle.trace_types.specs.Values.{strong_values, strong_references}
use Rattle.trace_types.specs.States.{State}
use Rattle.trace_types.specs.Rules.{Rule, has, ◌⊆◌, meets, least, facts, IsLeastWith}
use Rattle.trace_types.specs.Kept.{strong_rules}
use Rattle.trace_types.specs.WellFormed.{IsWellFormed}
use Rattle.trace_types.specs.Finder.{reach, HoldsReached}
use Rattle.trace_types.proofs.Least.{each_weaker, MeetsAll-append, facts_there, facts_met, least_meets, least_below}
use Rattle.trace_types.proofs.Meeting.{Met, each_flat_map, each_in_flat_map, met_from, met_use, found_each, each_found, rules_flat}
use Rattle.trace_types.proofs.Answering.{one_sub}

pub reach_is_least : (s : State) (a : ℕ) → IsWellFormed s → IsLeastWith (HoldsReached s.graph a) (reach s.graph a)
unfolding reach
reach_is_least s a well =
    let set = least (facts (a ∷ []) ++ all_steps) in
    let parts = (MeetsAll-append (facts (a ∷ [])) all_steps set).0 (least_meets (facts (a ∷ []) ++ all_steps)) in
    record {
      holds = record {
        start = facts_there (a ∷ []) set parts.0 a (or_left (a == a) false (eq-eqb a a refl));
        steps = each_found (λ x o. IsTrue (has set x) → strong_references o ⊆ set) s.graph
            (each_weaker (λ e. Met set (strong_rules e.0 e.1)) (λ e. IsTrue (has set e.0) → strong_references e.1 ⊆ set)
            (λ e m there. met_use set (e.0 ∷ []) (strong_references e.1) (subst (Met set) (rules_flat (e.0 ∷ []) (strong_values e.1)) m) (and_from (has set e.0) true there refl))
            s.graph (each_in_flat_map (λ r. IsTrue (meets set r)) (λ e. strong_rules e.0 e.1) s.graph (recursion_from_All _ all_steps parts.1)));
      };
      below_each = λ other h. least_below (facts (a ∷ []) ++ all_steps) other
          ((MeetsAll-append (facts (a ∷ [])) all_steps other).1 (
            facts_met (a ∷ []) other (one_sub other a h.start),
            All-from_recursion _ all_steps (each_flat_map (λ r. IsTrue (meets other r)) (λ e. strong_rules e.0 e.1) s.graph
                (found_each (λ x o. Met other (strong_rules x o)) s.graph well.ordered (λ x o found.
                subst (Met other) (sym (rules_flat (x ∷ []) (strong_values o)))
                (met_from other (x ∷ []) (strong_references o) (λ p. h.steps x o found (and_parts (has other x) true p).0))))),
          ));
    }
  where
    all_steps : List Rule
    all_steps = flat_map (λ e. strong_rules e.0 e.1) s.graph
