-- The least set of renamed rules has the new names of the members.
use Rattle.std.proofs.Common.{◌≡◌, ℕ, zero, suc, true, false, ◌||◌, ◌&&◌, ◌==◌, List, [], ◌∷◌, ◌++◌, length, map, filter, cond, IsTrue, refl, sym, ap, ◌∙◌, inl, inr}
use Rattle.std.specs.List.{list_all, AllByRecursion}
use Rattle.std.proofs.lemmas.Bool.{or_left, or_right, eqb-true, eq-eqb, ne_eqb, cases_Bool, eqb-false}
use Rattle.std.proofs.lemmas.List.{map-append, length-map}
use Rattle.trace_types.specs.Rules.{Rule, has, ◌⊆◌, has_premises, with_conclusions, after_rounds, least}
use Rattle.trace_types.specs.Laws.{renamed, mentioned, KeepsApart}
use Rattle.trace_types.proofs.Named.{append_left_sub, append_right_sub, append_sub}

module _ (name : ℕ → ℕ) (names : List ℕ) (apart : KeepsApart name names) where
  same_test : (x y : ℕ) → IsTrue (has names x) → IsTrue (has names y) → (name x == name y) ≡ (x == y)
  same_test x y hx hy =
      elim (cases_Bool (x == y)) [
        | inl same ↦ eq-eqb (name x) (name y) (ap name (eqb-true x y same)) ∙ sym same
        | inr other ↦ ne_eqb (name x) (name y) (λ e. eqb-false x y other (apart x y hx hy e)) ∙ sym other
      ]

  first_in : (x : ℕ) (xs : List ℕ) → (x ∷ xs) ⊆ names → IsTrue (has names x)
  first_in x xs h = h x (or_left (x == x) (has xs x) (eq-eqb x x refl))

  rest_in : (x : ℕ) (xs : List ℕ) → (x ∷ xs) ⊆ names → xs ⊆ names
  rest_in x xs h y there = h y (or_right (x == y) (has xs y) there)

  has-map : (set : List ℕ) (y : ℕ) → set ⊆ names → IsTrue (has names y) → has (map name set) (name y) ≡ has set y
  has-map [] y h hy = refl
  has-map (x ∷ set) y h hy = λ i. same_test x y (first_in x set h) hy i || has-map set y (rest_in x set h) hy i

  premises-map : (set ps : List ℕ) → set ⊆ names → ps ⊆ names → list_all (has (map name set)) (map name ps) ≡ list_all (has set) ps
  premises-map set [] h k = refl
  premises-map set (p ∷ ps) h k = λ i. has-map set p h (first_in p ps k) i && premises-map set ps h (rest_in p ps k) i

  abbrev IsWithin : Rule → Type 0
  IsWithin r = (r.conclusion ∷ r.premises) ⊆ names

  abbrev conclusions : List ℕ → List Rule → List ℕ
  conclusions set rules = map (λ r. r.conclusion) (filter (has_premises set) rules)

  conclusions-renamed : (set : List ℕ) (rules : List Rule) → set ⊆ names → AllByRecursion IsWithin rules → conclusions (map name set) (renamed name rules) ≡ map name (conclusions set rules)
  conclusions-renamed set [] h k = refl
  conclusions-renamed set (r ∷ rules) h k =
      let rest = conclusions-renamed set rules h k.1 in
      ap (λ b. map (λ (q : Rule). q.conclusion) (cond b (record { premises = map name r.premises; conclusion = name r.conclusion } ∷ filter (has_premises (map name set)) (renamed name rules)) (filter (has_premises (map name set)) (renamed name rules))))
      (premises-map set r.premises h (rest_in r.conclusion r.premises k.0))
      ∙ elim (has_premises set r) as (λ b. map (λ (q : Rule). q.conclusion) (cond b (record { premises = map name r.premises; conclusion = name r.conclusion } ∷ filter (has_premises (map name set)) (renamed name rules)) (filter (has_premises (map name set)) (renamed name rules))) ≡ map name (map (λ (q : Rule). q.conclusion) (cond b (r ∷ filter (has_premises set) rules) (filter (has_premises set) rules)))) [
        | true ↦ ap (λ xs. name r.conclusion ∷ xs) rest
        | false ↦ rest
      ]

  conclusions_in : (set : List ℕ) (rules : List Rule) → AllByRecursion IsWithin rules → conclusions set rules ⊆ names
  conclusions_in set [] k = λ x there. absurd (let e : false ≡ true = there in cc)
  conclusions_in set (r ∷ rules) k =
      elim (has_premises set r) as (λ b. map (λ (q : Rule). q.conclusion) (cond b (r ∷ filter (has_premises set) rules) (filter (has_premises set) rules)) ⊆ names) [
        | true ↦ append_sub (r.conclusion ∷ []) (conclusions set rules) names (append_left_sub (r.conclusion ∷ []) r.premises names k.0) (conclusions_in set rules k.1)
        | false ↦ conclusions_in set rules k.1
      ]

  rounds_in : (n : ℕ) (rules : List Rule) → AllByRecursion IsWithin rules → after_rounds n rules ⊆ names
  rounds_in zero rules k = λ x there. absurd (let e : false ≡ true = there in cc)
  rounds_in (suc n) rules k = append_sub (after_rounds n rules) (conclusions (after_rounds n rules) rules) names (rounds_in n rules k) (conclusions_in (after_rounds n rules) rules k)

  rounds-renamed : (n : ℕ) (rules : List Rule) → AllByRecursion IsWithin rules → after_rounds n (renamed name rules) ≡ map name (after_rounds n rules)
  rounds-renamed zero rules k = refl
  rounds-renamed (suc n) rules k =
      let set = after_rounds n rules in
      ap (with_conclusions (renamed name rules)) (rounds-renamed n rules k)
      ∙ ap (λ xs. map name set ++ xs) (conclusions-renamed set rules (rounds_in n rules k) k)
      ∙ sym (map-append name set (conclusions set rules))

  least-within : (rules : List Rule) → AllByRecursion IsWithin rules → least (renamed name rules) ≡ map name (least rules)
  unfolding least
  least-within rules k = ap (λ n. after_rounds n (renamed name rules)) (length-map rules _) ∙ rounds-renamed (length rules) rules k

mentioned_within : (set : List ℕ) (rules : List Rule) → mentioned rules ⊆ set → AllByRecursion (λ r. (r.conclusion ∷ r.premises) ⊆ set) rules
mentioned_within set [] h = tt
mentioned_within set (r ∷ rules) h =
    (append_left_sub (r.conclusion ∷ r.premises) (mentioned rules) set h, mentioned_within set rules (append_right_sub (r.conclusion ∷ r.premises) (mentioned rules) set h))

-- other names for the objects of the rules are other names for the objects of the least set
pub least-renamed : (name : ℕ → ℕ) (rules : List Rule) → KeepsApart name (mentioned rules) → least (renamed name rules) ≡ map name (least rules)
least-renamed name rules apart = least-within name (mentioned rules) apart rules (mentioned_within (mentioned rules) rules (λ x there. there))
