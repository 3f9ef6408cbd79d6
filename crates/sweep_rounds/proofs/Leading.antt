-- A round of all sweepers leads on, one lead follows the other, and what is whole stays so.
use Rattle.std.proofs.Common.{◌≡◌, ℕ, ◌<◌, ◌≤◌, List, [], ◌∷◌, ◌++◌, Contains, refl, sym, ◌∙◌, subst, arith}
use Rattle.directory.specs.Directories.{DirectoryView}
use Rattle.owned_core.specs.declared.event.Event.{Event}
use Rattle.owned_core.specs.Events.{Reaches}
use Rattle.owned_core.specs.Owned.{State}
use Rattle.owned_core.specs.Ranks.{rank}
use Rattle.owned_core.specs.Settings.{Setting}
use Rattle.sweep_model.specs.World.{World}
use Rattle.sweep_model.specs.Wholes.{Went as WentInModel}
use Rattle.sweep_model.proofs.Rounding.{round_stands}
use Rattle.sweeper.specs.Sweepers.{SweeperView, hand_of}
use Rattle.sweeper.specs.Ready.{Ready, Went}
use Rattle.sweeper.proofs.Rounds.{ready_any_round}
use Rattle.sweeper.proofs.WorldReady.{agrees_less}
use Rattle.sweep_rounds.specs.Turns.{Ended, Ends, KeepAllCards, Leads, Led, Lowered, Lowers, Rounds, StandTogether, Whole, hands_of}
use Rattle.sweep_rounds.proofs.Telling.{agrees_told}

-- ---- one round

module _ (world : World) (w : Setting) (f g : ℕ → SweeperView) (s : State) (t : StandTogether world w f s)
    (rounds : Rounds world.sweepers f g) where
  went : (k : ℕ) → k < world.sweepers
      → Went world w (f k).inbox (f k) (record (g k) { round = (f k).round }) [] []
  went k b = (rounds k b).runs world w t.setting (t.ready k b)

  in_model : (k : ℕ) → k < world.sweepers → WentInModel world w (hand_of (f k)) (hand_of (g k))
  in_model k b = record {
    ready = (went k b).follows.ready.ready;
    number = (went k b).follows.steady.alike.number;
    goes = (went k b).goes;
  }

  own_grows : (k x q : ℕ) → k < world.sweepers → Contains (f k).places.own (x, q) → Contains (g k).places.own (x, q)
  own_grows k x q b c = (went k b).follows.own x q c

  cards_kept : KeepAllCards world f g
  cards_kept ordered generation_at agrees k b sound =
      (went k b).follows.cards ordered generation_at
      (agrees_told world w f s t g own_grows generation_at agrees k b) sound

  -- a round of each sweeper leads on
  pub round_led : Led world w f g s
  round_led = record {
    after = round_stands world w (hands_of f) (hands_of g) s t.is_world t.setting t.stand in_model;
    ready = λ k b. ready_any_round world (g k) (f k).round (went k b).follows.ready;
    directory = λ k b. (went k b).follows.steady.directory;
    own = own_grows;
    cards = cards_kept;
  }

pub leads_round : (n : ℕ) (f g : ℕ → SweeperView) → Rounds n f g → Leads n f g
leads_round n f g rounds world w s count t =
    round_led world w f g s t (λ k b. rounds k (subst (λ m. k < m) count b))

-- ---- one after the other

reaches_more : (w : Setting) (s : State) (es fs : List Event) (u t : State) → Reaches w s es u → Reaches w u fs t
    → Reaches w s (es ++ fs) t
reaches_more w s [] fs u t h g = subst (λ z. Reaches w z fs t) h g
reaches_more w s (e ∷ es) fs u t h g = (h.0, h.1, reaches_more w h.0 es fs u t h.2 g)

-- they stand together after it
pub together_after : (world : World) (w : Setting) (f g : ℕ → SweeperView) (s : State) → StandTogether world w f s
    → (led : Led world w f g s) → StandTogether world w g led.after.state
together_after world w f g s t led =
    record { is_world = t.is_world; setting = t.setting; stand = led.after.stand; ready = led.ready }

cards_on : (world : World) (f g h : ℕ → SweeperView)
    → ((k x q : ℕ) → k < world.sweepers → Contains (g k).places.own (x, q) → Contains (h k).places.own (x, q))
    → KeepAllCards world f g → KeepAllCards world g h → KeepAllCards world f h
cards_on world f g h grows one two ordered generation_at agrees k b sound =
    two ordered generation_at agrees k b
    (one ordered generation_at
    (λ j inside. agrees_less world (g j).places.own (h j).places.own [] [] generation_at
    (λ x q c. grows j x q inside c) (λ m c. c) (agrees j inside))
    k b sound)

pub led_more : (world : World) (w : Setting) (f g h : ℕ → SweeperView) (s : State)
    → (one : Led world w f g s) → Led world w g h one.after.state → Led world w f h s
led_more world w f g h s one two = record {
  after = record {
    state = two.after.state;
    events = one.after.events ++ two.after.events;
    reached =
        reaches_more w s one.after.events two.after.events one.after.state two.after.state one.after.reached
        two.after.reached;
    stand = two.after.stand;
    lower = λ names covers.
        let a : rank names one.after.state ≤ rank names s = one.after.lower names covers in
        let b : rank names two.after.state ≤ rank names one.after.state = two.after.lower names covers in
        omega (arith, a, b);
  };
  ready = two.ready;
  directory = λ k b. two.directory k b ∙ one.directory k b;
  own = λ k x q b c. two.own k x q b (one.own k x q b c);
  cards = cards_on world f g h two.own one.cards two.cards;
}

-- what lowers after what led lowers
pub lowered_after : (world : World) (w : Setting) (f g h : ℕ → SweeperView) (s : State)
    → (one : Led world w f g s) → Lowered world w g h one.after.state → Lowered world w f h s
unfolding led_more
lowered_after world w f g h s one two = record {
  led = led_more world w f g h s one two.led;
  lower = λ names covers.
      let a : rank names one.after.state ≤ rank names s = one.after.lower names covers in
      let b : rank names two.led.after.state < rank names one.after.state = two.lower names covers in
      omega (arith, a, b);
}

-- and what ends ends
pub ended_after : (world : World) (w : Setting) (f g h : ℕ → SweeperView) (s : State)
    → (one : Led world w f g s) → Ended world w g h one.after.state → Ended world w f h s
unfolding led_more
ended_after world w f g h s one two =
    record { led = led_more world w f g h s one two.led; done = two.done }

-- ---- the same of all worlds

-- nothing done leads nowhere
pub leads_none : (n : ℕ) (f : ℕ → SweeperView) → Leads n f f
leads_none n f world w s count t = record {
  after = record { state = s; events = []; reached = refl; stand = t.stand; lower = λ names covers. omega arith };
  ready = t.ready;
  directory = λ k b. refl;
  own = λ k x q b c. c;
  cards = λ ordered generation_at agrees k b sound. sound;
}

pub leads_more : (n : ℕ) (f g h : ℕ → SweeperView) → Leads n f g → Leads n g h → Leads n f h
leads_more n f g h one two world w s count t =
    let a = one world w s count t in
    led_more world w f g h s a (two world w a.after.state count (together_after world w f g s t a))

pub leads_lower : (n : ℕ) (f g h : ℕ → SweeperView) → Leads n f g → Lowers n g h → Lowers n f h
leads_lower n f g h one two world w s count t =
    let a = one world w s count t in
    lowered_after world w f g h s a (two world w a.after.state count (together_after world w f g s t a))

pub leads_end : (n : ℕ) (f g h : ℕ → SweeperView) → Leads n f g → Ends n g h → Ends n f h
leads_end n f g h one two world w s count t =
    let a = one world w s count t in
    ended_after world w f g h s a (two world w a.after.state count (together_after world w f g s t a))

-- ---- what is whole

pub whole_ready : (n : ℕ) (d : DirectoryView) (f : ℕ → SweeperView) → Whole n d f → (k : ℕ) → k < n → Ready (f k)
whole_ready n d f h k b =
    (h.world, h.setting, h.together.setting, h.together.ready k (subst (λ m. k < m) (sym h.count) b))

pub whole_directory : (n : ℕ) (d : DirectoryView) (f : ℕ → SweeperView) → Whole n d f → (k : ℕ) → k < n
    → (f k).places.directory ≡ d
whole_directory n d f h k b = h.directory k b
