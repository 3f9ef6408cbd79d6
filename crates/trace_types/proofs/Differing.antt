-- A collection keeps births and lines apart.
use Rattle.std.proofs.Common.{◌≡◌, ℕ, ◌+◌, ◌≤◌, Bool, true, false, not, ◌&&◌, ◌==◌, List, [], ◌∷◌, ◌++◌, map, filter, flat_map, cond, IsTrue, refl, sym, ap, subst, ◌∙◌, ◌*◌, arith, nat_cmp, inl, inr}
use Rattle.std.specs.List.{AllByRecursion}
use Rattle.std.specs.FinMap.{is_sorted}
use Rattle.std.specs.FinMap.Entries.{below_all}
use Rattle.std.proofs.lemmas.Bool.{and_parts, and_left, and_right, cases_Bool, eqb-true, not_from_true}
use Rattle.std.proofs.lemmas.List.{map-append}
use Rattle.trace_types.specs.Values.{Value, Object}
use Rattle.trace_types.specs.States.{State, Registration}
use Rattle.trace_types.specs.Rules.{has}
use Rattle.trace_types.specs.Kept.{kept, is_given}
use Rattle.trace_types.specs.WellFormed.{occurrences, numbers, births}
use Rattle.trace_types.specs.Collections.{Arguments, collect, object_left, queued_for}
use Rattle.trace_types.proofs.Meeting.{each_above}

pub occurrences-append : (n : ℕ) (xs ys : List ℕ) → occurrences n (xs ++ ys) ≡ occurrences n xs + occurrences n ys
occurrences-append n [] ys = omega arith
occurrences-append n (x ∷ xs) ys = omega (arith, occurrences-append n xs ys)

abbrev pub one_if : Bool → ℕ
one_if b = cond b 1 0

module _ (s : State) (a : Arguments) (n : ℕ) where
  abbrev K : List ℕ
  K = kept s a.cg

  abbrev first : ℕ × Object → ℕ
  first e = e.0

  abbrev left : ℕ × Object → ℕ × Object
  left e = (e.0, object_left s a e.0 e.1)

  abbrev is_kept : ℕ × Object → Bool
  is_kept e = has K e.0

  abbrev line_in : Value × ℕ → ℕ
  line_in e = e.1

  abbrev queue_lines : ℕ × Object → List ℕ
  queue_lines e = map line_in e.1.queue

  abbrev line_of : Registration → ℕ
  line_of r = r.line

  abbrev is_queued : ℕ → Registration → Bool
  is_queued x r = is_given s a.cg r && (x == r.guardian)

  abbrev stays : Registration → Bool
  stays r = has K r.guardian && not (is_given s a.cg r)

  fewer_births : (g : List (ℕ × Object)) → occurrences n (map first (map left (filter is_kept g))) ≤ occurrences n (map first g)
  fewer_births [] = omega arith
  fewer_births (e ∷ g) =
      let rest = fewer_births g in
      elim (is_kept e) as (λ b. occurrences n (map first (map left (cond b (e ∷ filter is_kept g) (filter is_kept g)))) ≤ occurrences n (map first (e ∷ g))) [
        | true ↦ omega arith
        | false ↦ omega arith
      ]

  -- how often the line is given to the objects of a graph
  abbrev given_to : List (ℕ × Object) → List Registration → ℕ
  given_to [] rs = 0
  given_to (e ∷ g) rs = occurrences n (map line_of (filter (is_queued e.0) rs)) + given_to g rs

  entry_lines : (x : ℕ) (rs : List Registration) → map line_in (map (λ (r : Registration). (r.representative, r.line)) (filter (is_queued x) rs)) ≡ map line_of (filter (is_queued x) rs)
  entry_lines x rs = mapped (filter (is_queued x) rs)
    where
      mapped : (qs : List Registration) → map line_in (map (λ (r : Registration). (r.representative, r.line)) qs) ≡ map line_of qs
      mapped [] = refl
      mapped (q ∷ qs) = ap (λ ls. q.line ∷ ls) (mapped qs)

  queued_lines : (g : List (ℕ × Object)) → occurrences n (flat_map queue_lines (map left (filter is_kept g))) ≤ occurrences n (flat_map queue_lines g) + given_to g s.registrations
  queued_lines [] = omega arith
  queued_lines (e ∷ g) =
      let rest = queued_lines g in
      let old = occurrences-append n (queue_lines e) (flat_map queue_lines g) in
      elim (is_kept e) as (λ b. occurrences n (flat_map queue_lines (map left (cond b (e ∷ filter is_kept g) (filter is_kept g)))) ≤ occurrences n (flat_map queue_lines (e ∷ g)) + given_to (e ∷ g) s.registrations) [
        | true ↦
            let whole = occurrences-append n (queue_lines (left e)) (flat_map queue_lines (map left (filter is_kept g))) in
            let parts : occurrences n (queue_lines (left e)) ≡ occurrences n (queue_lines e) + occurrences n (map line_of (filter (is_queued e.0) s.registrations)) =
            ap (occurrences n) (map-append line_in e.1.queue (queued_for s a.cg e.0) ∙ ap (λ ls. map line_in e.1.queue ++ ls) (entry_lines e.0 s.registrations))
            ∙ occurrences-append n (queue_lines e) (map line_of (filter (is_queued e.0) s.registrations)) in
            omega (arith, rest, old, whole, parts)
        | false ↦ omega (arith, rest, old)
      ]

  -- how many objects of a graph one registration is given to
  abbrev given_once : List (ℕ × Object) → Registration → ℕ
  given_once [] r = 0
  given_once (e ∷ g) r = one_if (is_queued e.0 r) + given_once g r

  -- to none that is not the guardian
  given_to_none : (g : List (ℕ × Object)) (r : Registration) → AllByRecursion (λ e. is_queued e.0 r ≡ false) g → given_once g r ≡ 0
  given_to_none [] r h = refl
  given_to_none (e ∷ g) r h = let rest = given_to_none g r h.1 in let here = ap one_if h.0 in omega (arith, rest, here)

  not_given_none : (g : List (ℕ × Object)) (r : Registration) → is_given s a.cg r ≡ false → given_once g r ≡ 0
  not_given_none g r no_gift = given_to_none g r (each g)
    where
      each : (g : List (ℕ × Object)) → AllByRecursion (λ e. is_queued e.0 r ≡ false) g
      each [] = tt
      each (e ∷ g) = (and_left (is_given s a.cg r) (e.0 == r.guardian) no_gift, each g)

  given_at_most_once : (g : List (ℕ × Object)) (r : Registration) → IsTrue (is_sorted nat_cmp g) → given_once g r ≤ 1
  given_at_most_once [] r ordered = omega arith
  given_at_most_once (e ∷ g) r ordered =
      let parts = and_parts (below_all nat_cmp e.0 g) (is_sorted nat_cmp g) ordered in
      elim (cases_Bool (e.0 == r.guardian)) [
        | inl same ↦
            let none : given_once g r ≡ 0 = given_to_none g r (others (e.0) g (eqb-true e.0 r.guardian same) (each_above e.0 g parts.0)) in
            elim (is_queued e.0 r) as (λ b. one_if b + given_once g r ≤ 1) [ true ↦ omega (arith, none) | false ↦ omega (arith, none) ]
        | inr other ↦
            let rest = given_at_most_once g r parts.1 in
            let here = ap one_if (and_right (is_given s a.cg r) (e.0 == r.guardian) other) in
            omega (arith, rest, here)
      ]
    where
      others : (x : ℕ) (g : List (ℕ × Object)) → x ≡ r.guardian → AllByRecursion (λ e. (e.0 == x) ≡ false) g → AllByRecursion (λ e. is_queued e.0 r ≡ false) g
      others x [] same h = tt
      others x (e ∷ g) same h = (and_right (is_given s a.cg r) (e.0 == r.guardian) (subst (λ y. (e.0 == y) ≡ false) same h.0), others x g same h.1)

  given_to_more : (g : List (ℕ × Object)) (r : Registration) (rs : List Registration) → given_to g (r ∷ rs) ≡ given_once g r * one_if (r.line == n) + given_to g rs
  given_to_more [] r rs = omega arith
  given_to_more (e ∷ g) r rs =
      let rest = given_to_more g r rs in
      let others = filter (is_queued e.0) rs in
      elim (is_queued e.0 r) as (λ b. occurrences n (map line_of (cond b (r ∷ others) others)) + given_to g (r ∷ rs) ≡ (one_if b + given_once g r) * one_if (r.line == n) + (occurrences n (map line_of others) + given_to g rs)) [
        | true ↦ omega (arith, rest)
        | false ↦ omega (arith, rest)
      ]

  given_to_nothing : (g : List (ℕ × Object)) → given_to g [] ≡ 0
  given_to_nothing [] = refl
  given_to_nothing (e ∷ g) = let rest = given_to_nothing g in omega (arith, rest)

  at_most_itself : (x : ℕ) (b : Bool) → x ≤ 1 → x * one_if b ≤ one_if b
  at_most_itself x true h = omega arith
  at_most_itself x false h = omega arith

  -- a registration stays, or it is given at most once
  given_or_stays : (g : List (ℕ × Object)) (rs : List Registration) → IsTrue (is_sorted nat_cmp g) → given_to g rs + occurrences n (map line_of (filter stays rs)) ≤ occurrences n (map line_of rs)
  given_or_stays g [] ordered = let none = given_to_nothing g in omega (arith, none)
  given_or_stays g (r ∷ rs) ordered =
      let rest = given_or_stays g rs ordered in
      let more = given_to_more g r rs in
      let once = at_most_itself (given_once g r) (r.line == n) (given_at_most_once g r ordered) in
      elim (cases_Bool (is_given s a.cg r)) [
        | inl given ↦
            let goes : stays r ≡ false = and_right (has K r.guardian) (not (is_given s a.cg r)) (not_from_true (is_given s a.cg r) given) in
            subst (λ b. given_to g (r ∷ rs) + occurrences n (map line_of (cond b (r ∷ filter stays rs) (filter stays rs))) ≤ occurrences n (map line_of (r ∷ rs))) (sym goes)
            (omega (arith, rest, more, once))
        | inr kept_back ↦
            let none = ap (λ x. x * one_if (r.line == n)) (not_given_none g r kept_back) in
            elim (stays r) as (λ b. given_to g (r ∷ rs) + occurrences n (map line_of (cond b (r ∷ filter stays rs) (filter stays rs))) ≤ occurrences n (map line_of (r ∷ rs))) [
              | true ↦ omega (arith, rest, more, none)
              | false ↦ omega (arith, rest, more, none)
            ]
      ]

-- a collection names no birth or line more often than before
pub fewer_numbers : (s : State) (a : Arguments) → IsTrue (is_sorted nat_cmp s.graph) → (n : ℕ) → occurrences n (numbers (collect s a)) ≤ occurrences n (numbers s)
unfolding collect
fewer_numbers s a ordered n =
    let g = map (left s a n) (filter (is_kept s a n) s.graph) in
    let before_queues = occurrences-append n (births s ++ map (line_of s a n) s.registrations) (flat_map (queue_lines s a n) s.graph) in
    let before_lines = occurrences-append n (births s) (map (line_of s a n) s.registrations) in
    let after_queues = occurrences-append n (map (first s a n) g ++ map (line_of s a n) (filter (stays s a n) s.registrations)) (flat_map (queue_lines s a n) g) in
    let after_lines = occurrences-append n (map (first s a n) g) (map (line_of s a n) (filter (stays s a n) s.registrations)) in
    let fewer = fewer_births s a n s.graph in
    let queued = queued_lines s a n s.graph in
    let stay = given_or_stays s a n s.graph s.registrations ordered in
    omega (arith, before_queues, before_lines, after_queues, after_lines, fewer, queued, stay)
