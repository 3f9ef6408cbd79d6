-- The rules of a setting reach each older object, and what the slots of a reached object refer to.
use Rattle.std.proofs.Common.{◌≡◌, ℕ, Bool, true, false, List, ◌++◌, map, filter, IsTrue, IsSome, Some, refl, ◌∙◌}
use Rattle.std.proofs.lemmas.Bool.{cond-true}
use Rattle.std.proofs.lemmas.List.Elements.{All-contains}
use Rattle.trace_types.specs.Rules.{MeetsAll, facts, has, has_premises, least, meets}
use Rattle.trace_types.proofs.Least.{MeetsAll-append, facts_there, least_meets, meets_use}
use Rattle.gc_mail.specs.declared.message.Slot.{Slot as Back}
use Rattle.owned_core.specs.Settings.{Setting, rule_of, rules_of}
use Rattle.owned_core.specs.Slots.{Due, keeps}
use Rattle.owned_core.proofs.Lists.{some_filter, some_map}
use Rattle.sweep_model.specs.World.{World, asks, if_collected, is_collected, is_older}
use Rattle.sweep_model.specs.Settings.{IsSettingOf, due_of}
use Rattle.sweep_model.proofs.Ages.{staying_older}
use Rattle.heap_store.proofs.Kept.{some_is}

module _ (world : World) (w : Setting) (setting : IsSettingOf world w) where
  -- what the rules reach
  abbrev R : List ℕ
  R = least (rules_of w)

  abbrev dues : List Due
  dues = filter keeps w.dues

  rules_met : MeetsAll R (facts w.older) × MeetsAll R (facts w.given ++ map rule_of dues)
  rules_met =
      (MeetsAll-append (facts w.older) (facts w.given ++ map rule_of dues) R).0 (least_meets (rules_of w))

  pub older_reached : (x : ℕ) → is_older world x ≡ true → IsTrue (has R x)
  older_reached x old = facts_there w.older R rules_met.0 x (setting.older x ∙ old)

  due_reached : (b : Back) (t : ℕ) → asks world b ≡ Some t
      → IsTrue (has_premises R (rule_of (due_of world b t))) → IsTrue (has R t)
  due_reached b t e premises =
      let d = due_of world b t in
      let met = ((MeetsAll-append (facts w.given) (map rule_of dues) R).0 rules_met.1).1 in
      let there = some_map rule_of dues d (some_filter keeps w.dues d (setting.to b t e) refl) in
      meets_use R (rule_of d)
      (All-contains (λ r. IsTrue (meets R r)) (map rule_of dues) (rule_of d) met there) premises

  -- what a slot refers to, whether it is collected or older
  pub slot_reached : (b : Back) (q : ℕ) → IsSome (world.image q) → asks world b ≡ if_collected world (Some q)
      → IsTrue (has_premises R (rule_of (due_of world b q))) → IsTrue (has R q)
  slot_reached b q there asked premises = by_age (is_collected world q) refl
    where
      by_age : (c : Bool) → is_collected world q ≡ c → IsTrue (has R q)
      by_age true young = due_reached b q (asked ∙ cond-true (is_collected world q) _ _ young) premises
      by_age false old =
          let x = some_is (world.image q) there in older_reached q (staying_older world q x.0 x.1 old)
