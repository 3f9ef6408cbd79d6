-- The least sets of the phases' dues are A, L, W and K.
use Rattle.std.proofs.Common.{◌≡◌, ℕ, List, [], ◌++◌, map, IsTrue, sym, ap, subst, ◌∙◌, inl, inr}
use Rattle.std.proofs.lemmas.List.{map-append}
use Rattle.std.proofs.lemmas.Bool.{or_left, or_right}
use Rattle.std.proofs.lemmas.List.Elements.{Contains-append_cases}
use Rattle.trace_types.specs.Values.{objects_in}
use Rattle.trace_types.specs.States.{State, locked}
use Rattle.trace_types.specs.Rules.{Rule, has, ◌⊆◌, least, MeetsAll, IsAmong, facts}
use Rattle.trace_types.specs.Kept.{rules, older, roots, accessible, served, accessible_or_served, as_though, waited_for, ready, unready_rules, kept}
use Rattle.trace_types.proofs.Least.{least_same, least_below, least_among, least_meets, same_members, has-append, IsAmong-left, IsAmong-right, MeetsAll-append, facts_met, facts_there}
use Rattle.owned_core.specs.Dues.{as_though_dues, base_dues, ready_dues, served_dues, setting, unready_dues}
use Rattle.owned_core.specs.Settings.{Setting, rules_of}
use Rattle.owned_core.proofs.PhaseRules.{kept_append, kept_as_though, kept_base, kept_ready, kept_rules, kept_served, kept_unready}

both : (a b c : List Rule) → IsAmong a c → IsAmong b c → IsAmong (a ++ b) c
both a b c f g r h = elim (Contains-append_cases a b r h) [ inl e ↦ f r e | inr e ↦ g r e ]

then : (a b c : List Rule) → IsAmong a b → IsAmong b c → IsAmong a c
then a b c f g r h = g r (f r h)

left_of : (a b c : List Rule) → IsAmong a b → IsAmong a (b ++ c)
left_of a b c f = then a b (b ++ c) f (IsAmong-left b c)

right_of : (a b c : List Rule) → IsAmong a c → IsAmong a (b ++ c)
right_of a b c f = then a c (b ++ c) f (IsAmong-right b c)

itself : (a : List Rule) → IsAmong a a
itself a r h = h

facts_append : (xs ys : List ℕ) → facts (xs ++ ys) ≡ facts xs ++ facts ys
facts_append xs ys = map-append (λ x. record { premises = []; conclusion = x }) xs ys

module _ (s : State) (cg n : ℕ) where
  abbrev registers : List Rule
  registers = facts (objects_in s.registers)

  abbrev locks : List Rule
  locks = facts (locked s)

  abbrev old : List Rule
  old = facts (older s cg)

  roots_are : roots s cg ≡ registers ++ locks ++ old
  roots_are = facts_append (objects_in s.registers ++ locked s) (older s cg) ∙ ap (λ l. l ++ old) (facts_append (objects_in s.registers) (locked s))

  -- the base of each phase, in the order of the dues and of the rules
  base_in : (x : List Rule) → IsAmong (old ++ ((registers ++ (locks ++ x)))) (x ++ (registers ++ locks ++ old))
  base_in x = both old (registers ++ (locks ++ x)) all
      (right_of old x (registers ++ locks ++ old) (IsAmong-right (registers ++ locks) old))
      (both registers (locks ++ x) all
      (right_of registers x (registers ++ locks ++ old) (left_of registers (registers ++ locks) old (IsAmong-left registers locks)))
      (both locks x all
      (right_of locks x (registers ++ locks ++ old) (left_of locks (registers ++ locks) old (IsAmong-right registers locks)))
      (IsAmong-left x (registers ++ locks ++ old))))
    where
      all : List Rule
      all = x ++ (registers ++ locks ++ old)

  base_out : (x : List Rule) → IsAmong (x ++ (registers ++ locks ++ old)) (old ++ ((registers ++ (locks ++ x))))
  base_out x = both x (registers ++ locks ++ old) all
      (right_of x old (registers ++ (locks ++ x)) (right_of x registers (locks ++ x) (IsAmong-right locks x)))
      (both (registers ++ locks) old all
      (both registers locks all
      (right_of registers old (registers ++ (locks ++ x)) (IsAmong-left registers (locks ++ x)))
      (right_of locks old (registers ++ (locks ++ x)) (right_of locks registers (locks ++ x) (IsAmong-left locks x))))
      (IsAmong-left old (registers ++ (locks ++ x))))
    where
      all : List Rule
      all = old ++ (registers ++ (locks ++ x))

  -- with more rules on both sides
  more_in : (y a b : List Rule) → IsAmong (old ++ a) y → IsAmong (old ++ (a ++ b)) (y ++ b)
  more_in y a b f = both old (a ++ b) (y ++ b)
      (left_of old y b (then old (old ++ a) y (IsAmong-left old a) f))
      (both a b (y ++ b) (left_of a y b (then a (old ++ a) y (IsAmong-right old a) f)) (IsAmong-right y b))

  more_out : (y a b : List Rule) → IsAmong y (old ++ a) → IsAmong (y ++ b) (old ++ (a ++ b))
  more_out y a b f = both y b (old ++ (a ++ b))
      (then y (old ++ a) (old ++ (a ++ b)) f (both old a (old ++ (a ++ b)) (IsAmong-left old (a ++ b)) (right_of a old (a ++ b) (IsAmong-left a b))))
      (right_of b old (a ++ b) (IsAmong-right a b))

  base_among : IsAmong (old ++ kept_rules (base_dues s n)) (rules s ++ roots s cg)
  base_among = subst (λ l. IsAmong (old ++ l) (rules s ++ roots s cg)) (sym (kept_base s n)) (subst (λ l. IsAmong (old ++ (registers ++ (locks ++ rules s))) (rules s ++ l)) (sym roots_are) (base_in (rules s)))

  among_base : IsAmong (rules s ++ roots s cg) (old ++ kept_rules (base_dues s n))
  among_base = subst (λ l. IsAmong (rules s ++ roots s cg) (old ++ l)) (sym (kept_base s n)) (subst (λ l. IsAmong (rules s ++ l) (old ++ (registers ++ (locks ++ rules s)))) (sym roots_are) (base_out (rules s)))

  served_among : IsAmong (old ++ (kept_rules (base_dues s n) ++ served s cg)) ((rules s ++ roots s cg) ++ served s cg)
  served_among = more_in (rules s ++ roots s cg) (kept_rules (base_dues s n)) (served s cg) base_among

  among_served : IsAmong ((rules s ++ roots s cg) ++ served s cg) (old ++ (kept_rules (base_dues s n) ++ served s cg))
  among_served = more_out (rules s ++ roots s cg) (kept_rules (base_dues s n)) (served s cg) among_base

  module _ (places : Setting) where
    pub first_is : (x : ℕ) → has (least (rules_of (record (setting places s cg n (base_dues s n)) { given = [] }))) x ≡ has (accessible s cg) x
    unfolding accessible
    first_is x = least_same (old ++ kept_rules (base_dues s n)) (rules s ++ roots s cg) base_among among_base x

    pub second_is : (x : ℕ) → has (least (rules_of (record (setting places s cg n (base_dues s n ++ served_dues s cg n)) { given = [] }))) x ≡ has (accessible_or_served s cg) x
    unfolding accessible_or_served
    second_is x =
        ap (λ l. has (least (old ++ l)) x) (kept_append (base_dues s n) (served_dues s cg n) ∙ ap (λ l. kept_rules (base_dues s n) ++ l) (kept_served s cg n))
        ∙ least_same (old ++ (kept_rules (base_dues s n) ++ served s cg)) ((rules s ++ roots s cg) ++ served s cg) served_among among_served x

    pub third_is : (x : ℕ) → has (least (rules_of (record (setting places s cg n ((base_dues s n ++ served_dues s cg n) ++ as_though_dues s cg n)) { given = [] }))) x ≡ has (waited_for s cg) x
    unfolding waited_for
    third_is x =
        ap (λ l. has (least (old ++ l)) x)
        (kept_append (base_dues s n ++ served_dues s cg n) (as_though_dues s cg n)
        ∙ ap (λ l. l ++ kept_rules (as_though_dues s cg n)) (kept_append (base_dues s n) (served_dues s cg n) ∙ ap (λ l. kept_rules (base_dues s n) ++ l) (kept_served s cg n))
        ∙ ap (λ l. (kept_rules (base_dues s n) ++ served s cg) ++ l) (kept_as_though s cg n))
        ∙ least_same (old ++ ((kept_rules (base_dues s n) ++ served s cg) ++ as_though s cg)) (((rules s ++ roots s cg) ++ served s cg) ++ as_though s cg)
        (more_in ((rules s ++ roots s cg) ++ served s cg) (kept_rules (base_dues s n) ++ served s cg) (as_though s cg) served_among)
        (more_out ((rules s ++ roots s cg) ++ served s cg) (kept_rules (base_dues s n) ++ served s cg) (as_though s cg) among_served) x

  -- ---- the last phase: what the third reached is given

  abbrev third : List ℕ
  third = waited_for s cg

  abbrev representatives : List Rule
  representatives = facts (objects_in (map (λ r. r.representative) (ready s cg)))

  -- the rules of the last phase as the dues have them, and as the definition has them
  abbrev mine : List Rule
  mine = old ++ (facts third ++ (((kept_rules (base_dues s n) ++ served s cg) ++ representatives) ++ unready_rules s cg))

  abbrev theirs : List Rule
  theirs = (((rules s ++ served s cg) ++ facts third) ++ representatives) ++ unready_rules s cg

  theirs_among : IsAmong theirs mine
  theirs_among =
      right_of theirs old (facts third ++ rest)
      (both (((rules s ++ served s cg) ++ facts third) ++ representatives) (unready_rules s cg) all
      (both ((rules s ++ served s cg) ++ facts third) representatives all
      (both (rules s ++ served s cg) (facts third) all
      (both (rules s) (served s cg) all
      (in_rest (rules s) (left_of (rules s) (kept ++ served s cg) representatives (left_of (rules s) kept (served s cg) rules_in)))
      (in_rest (served s cg) (left_of (served s cg) (kept ++ served s cg) representatives (IsAmong-right kept (served s cg)))))
      (IsAmong-left (facts third) rest))
      (in_rest representatives (IsAmong-right (kept ++ served s cg) representatives)))
      (right_of (unready_rules s cg) (facts third) rest (IsAmong-right ((kept ++ served s cg) ++ representatives) (unready_rules s cg))))
    where
      kept : List Rule
      kept = kept_rules (base_dues s n)

      rest : List Rule
      rest = ((kept ++ served s cg) ++ representatives) ++ unready_rules s cg

      all : List Rule
      all = facts third ++ rest

      in_rest : (a : List Rule) → IsAmong a ((kept ++ served s cg) ++ representatives) → IsAmong a all
      in_rest a f = right_of a (facts third) rest (left_of a ((kept ++ served s cg) ++ representatives) (unready_rules s cg) f)

      rules_in : IsAmong (rules s) kept
      rules_in = subst (λ l. IsAmong (rules s) l) (sym (kept_base s n)) (right_of (rules s) registers (locks ++ rules s) (IsAmong-right locks (rules s)))

  -- what the roots have, the third phase reached
  root_in_third : (x : ℕ) → IsTrue (has (objects_in s.registers ++ locked s ++ older s cg) x) → IsTrue (has third x)
  unfolding waited_for
  root_in_third x h = facts_there (objects_in s.registers ++ locked s ++ older s cg) third
      ((MeetsAll-append (rules s) (roots s cg) third).0
      ((MeetsAll-append (rules s ++ roots s cg) (served s cg) third).0
      ((MeetsAll-append (rules s ++ roots s cg ++ served s cg) (as_though s cg) third).0 (least_meets (rules s ++ roots s cg ++ served s cg ++ as_though s cg))).0).0).1 x h

  pub third_in_fourth : third ⊆ least theirs
  third_in_fourth = facts_there third (least theirs)
      ((MeetsAll-append (rules s ++ served s cg) (facts third) (least theirs)).0
      ((MeetsAll-append ((rules s ++ served s cg) ++ facts third) representatives (least theirs)).0
      ((MeetsAll-append (((rules s ++ served s cg) ++ facts third) ++ representatives) (unready_rules s cg) (least theirs)).0 (least_meets theirs)).0).0).1

  older_in : older s cg ⊆ least theirs
  older_in x h = third_in_fourth x (root_in_third x (subst IsTrue (sym (has-append (objects_in s.registers ++ locked s) (older s cg) x)) (or_right (has (objects_in s.registers ++ locked s) x) (has (older s cg) x) h)))

  locked_in : locked s ⊆ least theirs
  locked_in x h = third_in_fourth x (root_in_third x (subst IsTrue (sym (has-append (objects_in s.registers ++ locked s) (older s cg) x))
      (or_left (has (objects_in s.registers ++ locked s) x) (has (older s cg) x) (subst IsTrue (sym (has-append (objects_in s.registers) (locked s) x)) (or_right (has (objects_in s.registers) x) (has (locked s) x) h)))))

  registers_in : objects_in s.registers ⊆ least theirs
  registers_in x h = third_in_fourth x (root_in_third x (subst IsTrue (sym (has-append (objects_in s.registers ++ locked s) (older s cg) x))
      (or_left (has (objects_in s.registers ++ locked s) x) (has (older s cg) x) (subst IsTrue (sym (has-append (objects_in s.registers) (locked s) x)) (or_left (has (objects_in s.registers) x) (has (locked s) x) h)))))

  mine_met : MeetsAll (least theirs) mine
  mine_met =
      (MeetsAll-append old (facts third ++ (((kept_rules (base_dues s n) ++ served s cg) ++ representatives) ++ unready_rules s cg)) set).1 (
        facts_met (older s cg) set older_in,
        (MeetsAll-append (facts third) (((kept_rules (base_dues s n) ++ served s cg) ++ representatives) ++ unready_rules s cg) set).1 (
          facts_met third set third_in_fourth,
          (MeetsAll-append ((kept_rules (base_dues s n) ++ served s cg) ++ representatives) (unready_rules s cg) set).1 (
            (MeetsAll-append (kept_rules (base_dues s n) ++ served s cg) representatives set).1 (
              (MeetsAll-append (kept_rules (base_dues s n)) (served s cg) set).1 (
                subst (MeetsAll set) (sym (kept_base s n))
                    ((MeetsAll-append registers (locks ++ rules s) set).1 (facts_met (objects_in s.registers) set registers_in, (MeetsAll-append locks (rules s) set).1 (facts_met (locked s) set locked_in, two.0))),
                two.1,
              ),
              four.1,
            ),
            five.1,
          ),
        ),
      )
    where
      set : List ℕ
      set = least theirs

      five : MeetsAll set (((rules s ++ served s cg) ++ facts third) ++ representatives) × MeetsAll set (unready_rules s cg)
      five = (MeetsAll-append (((rules s ++ served s cg) ++ facts third) ++ representatives) (unready_rules s cg) set).0 (least_meets theirs)

      four : MeetsAll set ((rules s ++ served s cg) ++ facts third) × MeetsAll set representatives
      four = (MeetsAll-append ((rules s ++ served s cg) ++ facts third) representatives set).0 five.0

      three : MeetsAll set (rules s ++ served s cg) × MeetsAll set (facts third)
      three = (MeetsAll-append (rules s ++ served s cg) (facts third) set).0 four.0

      two : MeetsAll set (rules s) × MeetsAll set (served s cg)
      two = (MeetsAll-append (rules s) (served s cg) set).0 three.0

  pub fourth_is : (places : Setting) (x : ℕ) → has (least (rules_of (record (setting places s cg n (((base_dues s n ++ served_dues s cg n) ++ ready_dues s cg n) ++ unready_dues s cg n)) { given = (waited_for s cg) }))) x ≡ has (kept s cg) x
  unfolding kept
  fourth_is places x =
      ap (λ l. has (least (old ++ (facts third ++ l))) x)
      (kept_append ((base_dues s n ++ served_dues s cg n) ++ ready_dues s cg n) (unready_dues s cg n)
      ∙ ap (λ l. l ++ kept_rules (unready_dues s cg n))
      (kept_append (base_dues s n ++ served_dues s cg n) (ready_dues s cg n)
      ∙ ap (λ l. l ++ kept_rules (ready_dues s cg n)) (kept_append (base_dues s n) (served_dues s cg n) ∙ ap (λ l. kept_rules (base_dues s n) ++ l) (kept_served s cg n))
      ∙ ap (λ l. (kept_rules (base_dues s n) ++ served s cg) ++ l) (kept_ready s cg n))
      ∙ ap (λ l. ((kept_rules (base_dues s n) ++ served s cg) ++ representatives) ++ l) (kept_unready s cg n))
      ∙ same_members (least mine) (least theirs) (least_below mine (least theirs) mine_met) (least_among theirs mine theirs_among) x
