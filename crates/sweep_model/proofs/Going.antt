-- Nothing done, one event, and one thing after the other.
use Rattle.std.proofs.Common.{ℕ, List, [], ◌∷◌, ◌++◌, refl, subst, ◌∙◌, inl, inr}
use Rattle.std.proofs.lemmas.List.Elements.{Contains-append_left, Contains-append_cases}
use Rattle.owned_core.specs.declared.event.Event.{Event}
use Rattle.owned_core.specs.Parts.{BecomesHere, Part, ReachesHere, SamePart, with_news}
use Rattle.owned_core.specs.Settings.{Setting}
use Rattle.owned_core.specs.declared.slot.Standing.{Standing}
use Rattle.owned_core.proofs.Lists.{contains_none}
use Rattle.sweep_model.specs.World.{World}
use Rattle.sweep_model.specs.Hands.{Hand}
use Rattle.sweep_model.specs.Holding.{Goes, Holds}
use Rattle.sweep_model.specs.Moves.{GoesOn}

-- ---- parts that are the same

-- with itself
pub same_itself : (p : Part) → SamePart p p
same_itself p = record {
  own = refl;
  unswept = λ x. refl;
  here = λ t c. c;
  whole = λ t c. c;
  made = λ a c. c;
}

-- with what is the same as the second
pub same_after : (p q r : Part) → SamePart p q → SamePart q r → SamePart p r
same_after p q r h g = record {
  own = h.own ∙ g.own;
  unswept = λ x. h.unswept x ∙ g.unswept x;
  here = λ t c. h.here t (g.here t c);
  whole = λ t c. g.whole t (h.whole t c);
  made = λ a c. h.made a (g.made a c);
}

-- with no slots added
pub no_news : (p : Part) → SamePart (with_news p []) p
no_news p = record {
  own = refl;
  unswept = λ x. refl;
  here = λ t c. Contains-append_left p.here [] t c;
  whole = λ t c. elim (Contains-append_cases p.here [] t c) [
    | inl e ↦ e
    | inr none ↦ absurd (contains_none t none)
  ];
  made = λ a c. Contains-append_left p.made [] a c;
}

-- ---- events one after the other

reaches_from : (w : Setting) (k : ℕ) (p q : Part) (es : List Event) (r : Part) → SamePart p q
    → ReachesHere w k q es r
    → ReachesHere w k p es r
reaches_from w k p q [] r h g = same_after p q r h g
reaches_from w k p q (e ∷ es) r h g = (g.0, g.1, same_after p q g.0 h g.2, g.3, g.4)

reaches_more : (w : Setting) (k : ℕ) (p : Part) (es fs : List Event) (q r : Part) → ReachesHere w k p es q
    → ReachesHere w k q fs r → ReachesHere w k p (es ++ fs) r
reaches_more w k p [] fs q r h g = reaches_from w k p q fs r h g
reaches_more w k p (e ∷ es) fs q r h g = (h.0, h.1, h.2, h.3, reaches_more w k h.1 es fs q r h.4 g)

-- ---- nothing, one event, more

-- nothing done is no event
pub goes_none : (world : World) (w : Setting) (h : Hand) (todo : List Standing) → Goes world w h todo h todo
goes_none world w h todo p holds = ([], p, same_itself p, holds)

-- one event
pub goes_one : (world : World) (w : Setting) (k : ℕ) (h' : Hand) (todo' : List Standing) (p r q : Part)
    (e : Event)
    → BecomesHere w k p e r → SamePart r q → Holds world w h' todo' q
    → (es : List Event) × (q : Part) × ReachesHere w k p es q × Holds world w h' todo' q
goes_one world w k h' todo' p r q e becomes same holds =
    (e ∷ [], q, (p, r, same_itself p, becomes, same), holds)

-- one thing after the other
pub goes_on : GoesOn
goes_on world w a b c s t u same f g p holds =
    let one = f p holds in
    let two = g one.1 one.3 in (
      one.0 ++ two.0,
      two.1,
      reaches_more w a.number p one.0 two.0 one.1 two.1 one.2
          (subst (λ k. ReachesHere w k one.1 two.0 two.1) same two.2),
      two.3,
    )
