-- A round of each sweeper, in threads or not, leads to a state that they stand for.
use Rattle.std.proofs.Common.{ℕ, ◌<◌, List, [], ◌∙◌, subst, arith, inl, inr}
use Rattle.std.proofs.lemmas.Bool.{cases_lt}
use Rattle.owned_core.specs.declared.event.Event.{Event}
use Rattle.owned_core.specs.Settings.{Setting}
use Rattle.owned_core.specs.Owned.{State}
use Rattle.owned_core.specs.Parts.{Part, ReachesHere}
use Rattle.owned_core.specs.Rounds.{AfterRound, events_below}
use Rattle.owned_core.proofs.Ranks.{rank_stays}
use Rattle.owned_core.proofs.Rounds.{round_is_events}
use Rattle.sweep_model.specs.World.{World, IsWorld}
use Rattle.sweep_model.specs.Settings.{IsSettingOf}
use Rattle.sweep_model.specs.Hands.{Hand}
use Rattle.sweep_model.specs.Holding.{Holds}
use Rattle.sweep_model.specs.Wholes.{After, RoundStands, Stand, Went}
use Rattle.sweep_model.proofs.Apt.{has_places, holds_well, in_range}

module _ (world : World) (w : Setting) (before after : ℕ → Hand) (s : State)
    (good : IsWorld world) (setting : IsSettingOf world w) (stand : Stand world w before s)
    (went : (k : ℕ) → k < world.sweepers → Went world w (before k) (after k)) where
  -- the events and the part of sweeper k; where there is no sweeper k, any
  abbrev Choice : ℕ → Type 0
  Choice k =
      (es : List Event) × (q : Part)
      × (k < world.sweepers → ReachesHere w k (stand.parts k) es q × Holds world w (after k) [] q)

  choice : (k : ℕ) → Choice k
  choice k = elim (cases_lt k world.sweepers) [
    | inl inside ↦
        let did = (went k inside).goes (stand.parts k) (stand.holds k inside) in
        let reached : ReachesHere w k (stand.parts k) did.0 did.1 =
        subst (λ m. ReachesHere w m (stand.parts k) did.0 did.1) (stand.numbers k inside) did.2 in
        (did.0, did.1, λ _. (reached, did.3))
    | inr far ↦ ([], stand.parts k, λ inside. absurd (omega (arith, inside, far)))
  ]

  events_at : ℕ → List Event
  events_at k = (choice k).0

  parts_at : ℕ → Part
  parts_at k = (choice k).1

  round_of : AfterRound w world.sweepers s events_at parts_at
  unfolding events_at parts_at
  round_of = round_is_events w (has_places world w setting) (holds_well world w setting) world.sweepers
      (in_range world w setting good.some) s stand.parts parts_at events_at stand.invariant stand.territory
      stand.held stand.are_parts (λ k inside. ((choice k).2 inside).0)

  round_leads : After world w after s
  unfolding events_at parts_at
  round_leads = record {
    state = round_of.after;
    events = events_below events_at world.sweepers;
    reached = round_of.reached;
    stand = record {
      parts = parts_at;
      invariant = round_of.invariant;
      territory = round_of.territory;
      held = round_of.held;
      are_parts = round_of.are_parts;
      numbers = λ k inside. (went k inside).number ∙ stand.numbers k inside;
      ready = λ k inside. (went k inside).ready;
      holds = λ k inside. ((choice k).2 inside).1;
    };
    lower = λ names _.
        rank_stays w (has_places world w setting) names s (events_below events_at world.sweepers)
        round_of.after stand.invariant round_of.reached;
  }

pub round_stands : RoundStands
round_stands = round_leads
