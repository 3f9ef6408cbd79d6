-- The sets of a collection from the sets that were computed.
use Rattle.std.proofs.Common.{ℕ, List, ◌++◌, map, sym, ◌∙◌}
use Rattle.trace_types.specs.Values.{objects_in}
use Rattle.trace_types.specs.States.{State}
use Rattle.trace_types.specs.Rules.{Rule, least, facts, ◌⊆◌}
use Rattle.trace_types.specs.Kept.{rules, served, waited_for, ready, unready_rules, kept}
use Rattle.trace_types.proofs.Least.{MeetsAll-append, facts_met, facts_there, least_meets, least_below, same_members}
use Rattle.plain_model.specs.Plain.{Alike}
use Rattle.plain_model.specs.Reached.{kept_rules_with}

-- more facts among rules, more in the least set
least_more_facts : (a b c : List Rule) (s t : List ℕ) → s ⊆ t → least (a ++ facts s ++ b ++ c) ⊆ least (a ++ facts t ++ b ++ c)
least_more_facts a b c s t sub =
    let set = least (a ++ facts t ++ b ++ c) in
    let three = (MeetsAll-append (a ++ facts t ++ b) c set).0 (least_meets (a ++ facts t ++ b ++ c)) in
    let two = (MeetsAll-append (a ++ facts t) b set).0 three.0 in
    let one = (MeetsAll-append a (facts t) set).0 two.0 in
    least_below (a ++ facts s ++ b ++ c) set
    ((MeetsAll-append (a ++ facts s ++ b) c set).1 (
      (MeetsAll-append (a ++ facts s) b set).1 (
        (MeetsAll-append a (facts s) set).1 (one.0, facts_met s set (λ x h. facts_there t set one.1 x (sub x h))),
        two.1,
      ),
      three.1,
    ))

alike_in : (s t : List ℕ) → Alike s t → s ⊆ t
alike_in s t same x h = sym (same x) ∙ h

alike_from : (s t : List ℕ) → Alike s t → t ⊆ s
alike_from s t same x h = same x ∙ h

-- K, where W was given by another list of its members
pub kept_alike : (s : State) (cg : ℕ) (waited set : List ℕ) → Alike waited (waited_for s cg) → Alike set (least (kept_rules_with s cg waited))
    → Alike set (kept s cg)
unfolding kept
kept_alike s cg waited set same is x =
    let a = rules s ++ served s cg in
    let b = facts (objects_in (map (λ r. r.representative) (ready s cg))) in
    let c = unready_rules s cg in
    is x
    ∙ same_members (least (a ++ facts waited ++ b ++ c)) (least (a ++ facts (waited_for s cg) ++ b ++ c))
    (least_more_facts a b c waited (waited_for s cg) (alike_in waited (waited_for s cg) same))
    (least_more_facts a b c (waited_for s cg) waited (alike_from waited (waited_for s cg) same)) x
