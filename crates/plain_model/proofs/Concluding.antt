-- Rounds over rules reach the least set.
use Rattle.std.proofs.Common.{◌≡◌, ℕ, ◌+◌, ◌<◌, ◌≤◌, Bool, true, false, ◌&&◌, ◌||◌, not, cond, List, [], ◌∷◌, ◌++◌, length, get_or, drop, All, IsTrue, ◌==◌, inl, inr, refl, sym, subst, ◌∙◌, add-one, arith}
use Rattle.std.proofs.lemmas.List.{drop_more, drop_all}
use Rattle.std.proofs.lemmas.List.Elements.{All-append, All-weaker, All-from_recursion, recursion_from_All}
use Rattle.std.proofs.lemmas.Bool.{or_left, or_right, or_cases, and_parts, eq-eqb, eqb-true}
use Rattle.trace_types.specs.Rules.{Rule, has, has_premises, meets, least, after_rounds, ◌⊆◌}
use Rattle.trace_types.proofs.Least.{has-append, has_all_weaker, meets_use, meets_from, with_conclusions_cases, least_meets, least_below, same_members}
use Rattle.plain_model.specs.Plain.{IsRound, Alike}

-- no rule was gone over
pub round_begun : (set : List ℕ) (all : List Rule) (n : ℕ) → length all ≤ n → IsRound set set false (drop n all) all
round_begun set all n behind = rw (drop_all n all behind) (record {
  grows = λ x h. h;
  concludes = λ k d less. absurd (omega arith);
  below_each = λ other met sub. sub;
  same = λ _. refl;
})

-- what the rules had to say, and one rule before them has
concluded_more : (old new : List ℕ) (all : List Rule) (i : ℕ) (r : Rule) → i < length all → r ≡ get_or all i r
    → All (λ r. IsTrue (has_premises old r) → IsTrue (has new r.conclusion)) (drop (i + 1) all)
    → (IsTrue (has_premises old r) → IsTrue (has new r.conclusion))
    → All (λ r. IsTrue (has_premises old r) → IsTrue (has new r.conclusion)) (drop i all)
concluded_more old new all i r less is before here =
    rw (drop_more all i r less)
    (All-append (λ r. IsTrue (has_premises old r) → IsTrue (has new r.conclusion)) (get_or all i r ∷ []) (drop (i + 1) all)
    (All-from_recursion (λ r. IsTrue (has_premises old r) → IsTrue (has new r.conclusion)) (get_or all i r ∷ [])
    (subst (λ q. IsTrue (has_premises old q) → IsTrue (has new q.conclusion)) is here, tt))
    before)

-- one more rule was gone over, and had nothing to add
round_same : (old set : List ℕ) (added both : Bool) (all : List Rule) (i : ℕ) (r : Rule) → IsRound old set added (drop (i + 1) all) all
    → i < length all → r ≡ get_or all i r → (not (has set r.conclusion) && has_premises set r) ≡ false
    → (both ≡ false → added ≡ false) → IsRound old set both (drop i all) all
round_same old set added both all i r so_far less is none flag = record {
  grows = so_far.grows;
  concludes = concluded_more old set all i r less is so_far.concludes
      (λ premises. nothing (has set r.conclusion) (has_premises set r) none (has_all_weaker old set so_far.grows r.premises premises));
  below_each = so_far.below_each;
  same = λ none. so_far.same (flag none);
}
  where
    nothing : (a b : Bool) → (not a && b) ≡ false → IsTrue b → IsTrue a
    nothing true b none h = refl
    nothing false b none h = cc

-- one more rule was gone over, and its conclusion is added
round_added : (old set : List ℕ) (added both : Bool) (all : List Rule) (i : ℕ) (rule : Rule) → IsRound old set added (drop (i + 1) all) all
    → i < length all → rule ≡ get_or all i rule → (not (has set rule.conclusion) && has_premises set rule) ≡ true
    → both ≡ true → IsRound old (set ++ rule.conclusion ∷ []) both (drop i all) all
round_added old set added both all i rule so_far less is new flag =
    let grown : set ⊆ (set ++ rule.conclusion ∷ []) = λ x h. rw (has-append set (rule.conclusion ∷ []) x) (or_left (has set x) (has (rule.conclusion ∷ []) x) h) in
    record {
      grows = λ x h. grown x (so_far.grows x h);
      concludes = concluded_more old (set ++ rule.conclusion ∷ []) all i rule less is
          (All-weaker (λ r. IsTrue (has_premises old r) → IsTrue (has set r.conclusion))
          (λ r. IsTrue (has_premises old r) → IsTrue (has (set ++ rule.conclusion ∷ []) r.conclusion))
          (λ r concludes premises. grown r.conclusion (concludes premises)) (drop (i + 1) all) so_far.concludes)
          (λ _. rw (has-append set (rule.conclusion ∷ []) rule.conclusion)
          (or_right (has set rule.conclusion) (rule.conclusion == rule.conclusion || false)
          (or_left (rule.conclusion == rule.conclusion) false (eq-eqb rule.conclusion rule.conclusion refl))));
      below_each = λ other met sub x h. elim (or_cases (has set x) (has (rule.conclusion ∷ []) x) (rw (has-append set (rule.conclusion ∷ []) x) at h)) [
        | inl there ↦ so_far.below_each other met sub x there
        | inr here ↦ elim (or_cases (rule.conclusion == x) false here) [
          | inl same ↦ subst (λ y. IsTrue (has other y)) (eqb-true rule.conclusion x same)
              (meets_use other rule (subst (λ q. IsTrue (meets other q)) (sym is) (met i rule less))
              (has_all_weaker set other (so_far.below_each other met sub) rule.premises (and_parts (not (has set rule.conclusion)) (has_premises set rule) new).1))
          | inr none ↦ cc
        ]
      ];
      same = λ none. cc;
    }

-- one more rule was gone over
pub round_more : (old set new : List ℕ) (added more both : Bool) (all : List Rule) (left i : ℕ) (r : Rule)
    → IsRound old set added (drop left all) all → left ≡ i + 1 → i < length all → r ≡ get_or all i r
    → more ≡ (not (has set r.conclusion) && has_premises set r) → new ≡ cond more (set ++ r.conclusion ∷ []) set
    → both ≡ (added || more) → IsRound old new both (drop i all) all
round_more old set new added more both all left i r so_far next less is when becomes flag =
    by_more more (subst (λ n. IsRound old set added (drop n all) all) next so_far) when becomes flag
  where
    or_none : (a : Bool) → (a || false) ≡ false → a ≡ false
    or_none true h = h
    or_none false h = refl

    or_some : (a : Bool) → (a || true) ≡ true
    or_some true = refl
    or_some false = refl

    by_more : (more : Bool) → IsRound old set added (drop (i + 1) all) all → more ≡ (not (has set r.conclusion) && has_premises set r)
        → new ≡ cond more (set ++ r.conclusion ∷ []) set → both ≡ (added || more) → IsRound old new both (drop i all) all
    by_more false so_far when becomes flag =
        rw becomes (round_same old set added both all i r so_far less is (sym when) (λ none. or_none added (sym flag ∙ none)))
    by_more true so_far when becomes flag =
        rw becomes (round_added old set added both all i r so_far less is (sym when) (flag ∙ or_some added))

-- the set has what so many rounds give, and is in the least set
pub record IsOnTheWay (n : ℕ) (rules : List Rule) (set : List ℕ) : Type 0 where
  pub above : after_rounds n rules ⊆ set
  pub below : set ⊆ least rules

pub way_begun : (rules : List Rule) → IsOnTheWay 0 rules []
way_begun rules = record { above = λ x h. h; below = λ x h. cc }

pub way_more : (n : ℕ) (rules : List Rule) (old new : List ℕ) (added : Bool) → IsOnTheWay n rules old → IsRound old new added rules rules
    → IsOnTheWay (n + 1) rules new
way_more n rules old new added way more = record {
  above = subst (λ m. after_rounds m rules ⊆ new) (sym (add-one n)) (with_conclusions_cases (λ x. IsTrue (has new x)) (after_rounds n rules) rules (λ x h. more.grows x (way.above x h))
      (recursion_from_All _ rules
      (All-weaker (λ r. IsTrue (has_premises old r) → IsTrue (has new r.conclusion))
      (λ r. IsTrue (has_premises (after_rounds n rules) r) → IsTrue (has new r.conclusion))
      (λ r concludes premises. concludes (has_all_weaker (after_rounds n rules) old way.above r.premises premises)) rules more.concludes)));
  below = more.below_each (least rules) (least_meets rules) way.below;
}

-- a set to which nothing was added is the least one
pub way_done : (n : ℕ) (rules : List Rule) (old new : List ℕ) → IsOnTheWay n rules old → IsRound old new false rules rules
    → Alike new (least rules)
way_done n rules old new way done =
    same_members new (least rules) (done.below_each (least rules) (least_meets rules) way.below)
    (least_below rules new
    (All-weaker (λ r. IsTrue (has_premises old r) → IsTrue (has new r.conclusion)) (λ r. IsTrue (meets new r))
    (λ r concludes. meets_from new r (λ premises. concludes (subst (λ s. IsTrue (has_premises s r)) (done.same refl) premises)))
    rules done.concludes))

-- and so is the set after as many rounds as there are rules
pub way_ended : (rules : List Rule) (set : List ℕ) → IsOnTheWay (length rules) rules set → Alike set (least rules)
unfolding least
way_ended rules set way = same_members set (least rules) way.below way.above
