-- All sweepers of a collection, and what their turns lead to.
use Rattle.std.specs.Prelude.{◌≡◌, ℕ, ◌+◌, ◌-◌, ◌^◌, ◌<◌, List, [], min, slice_index_or, Option, Contains}
use Rattle.directory.specs.Directories.{DirectoryView}
use Rattle.owned_core.specs.declared.slot.Slot.{Slot}
use Rattle.owned_core.specs.Settings.{Setting}
use Rattle.owned_core.specs.Owned.{State}
use Rattle.owned_core.specs.Ranks.{Covers, rank}
use Rattle.sweep_model.specs.World.{IsWorld, World}
use Rattle.sweep_model.specs.Settings.{IsSettingOf}
use Rattle.sweep_model.specs.Hands.{Hand}
use Rattle.sweep_model.specs.Wholes.{After, AreDone, Begins, IsListed, Stand}
use Rattle.sweep_share.specs.Shares.{AreSound}
use Rattle.sweeper.specs.Sweepers.{SweeperView, hand_of}
use Rattle.sweeper.specs.Ready.{Agrees, IsOrdered, IsReadyIn, RunsRound}

-- sweeper k of a list; d stands where there is none
abbrev pub sweeper_at : List SweeperView → SweeperView → ℕ → SweeperView
sweeper_at sweepers d k = slice_index_or sweepers k d

abbrev pub hands_of : (ℕ → SweeperView) → ℕ → Hand
hands_of f k = hand_of (f k)

-- they stand for a state of the core, each in this world
pub record StandTogether (world : World) (w : Setting) (f : ℕ → SweeperView) (s : State) : Type 0 where
  pub is_world : IsWorld world
  pub setting : IsSettingOf world w
  pub stand : Stand world w (hands_of f) s
  pub ready : (k : ℕ) → k < world.sweepers → IsReadyIn world (f k)

-- they stand together in some world, for some state
pub record Whole (n : ℕ) (d : DirectoryView) (f : ℕ → SweeperView) : Type 0 where
  pub world : World
  pub setting : Setting
  pub state : State
  pub count : world.sweepers ≡ n
  pub together : StandTogether world setting f state
  pub directory : (k : ℕ) → k < n → (f k).places.directory ≡ d

-- What begins in one world stands together there: each sweeper is ready, and begins with a message for each
-- root.
abbrev pub BeginWhole : Type 0
BeginWhole =
    (world : World) (n : ℕ) (d : DirectoryView) (f : ℕ → SweeperView) → IsWorld world → IsListed world
    → world.sweepers ≡ n
    → ((k : ℕ) → k < n → IsReadyIn world (f k)) → ((k : ℕ) → k < n → Begins world (hand_of (f k)))
    → ((k : ℕ) → k < n → (f k).share.number ≡ k) → ((k : ℕ) → k < n → (f k).places.directory ≡ d)
    → Whole n d f

-- Cards stay sound by the generations after the collection, as far as the forwarded objects of all sweepers
-- tell them.
abbrev pub KeepAllCards : World → (ℕ → SweeperView) → (ℕ → SweeperView) → Type 0
KeepAllCards world f g =
    IsOrdered world → (generation_at : ℕ → Option ℕ)
    → ((k : ℕ) → k < world.sweepers → Agrees world (g k).places.own [] generation_at)
    → (k : ℕ) → k < world.sweepers → AreSound generation_at (f k).share → AreSound generation_at (g k).share

-- what a turn of all sweepers leads to
pub record Led (world : World) (w : Setting) (f g : ℕ → SweeperView) (s : State) : Type 0 where
  pub after : After world w (hands_of g) s
  pub ready : (k : ℕ) → k < world.sweepers → IsReadyIn world (g k)
  pub directory : (k : ℕ) → k < world.sweepers → (g k).places.directory ≡ (f k).places.directory
  pub own : (k x q : ℕ) → k < world.sweepers → Contains (f k).places.own (x, q)
      → Contains (g k).places.own (x, q)
  pub cards : KeepAllCards world f g

-- the turns lead on from each state for which the sweepers stood
abbrev pub Leads : ℕ → (ℕ → SweeperView) → (ℕ → SweeperView) → Type 0
Leads n f g =
    (world : World) (w : Setting) (s : State) → world.sweepers ≡ n → StandTogether world w f s
    → Led world w f g s

-- and leave less to do, of whatever slots are counted
pub record Lowered (world : World) (w : Setting) (f g : ℕ → SweeperView) (s : State) : Type 0 where
  pub led : Led world w f g s
  pub lower : (names : List Slot) → Covers w names → rank names led.after.state < rank names s

abbrev pub Lowers : ℕ → (ℕ → SweeperView) → (ℕ → SweeperView) → Type 0
Lowers n f g =
    (world : World) (w : Setting) (s : State) → world.sweepers ≡ n → StandTogether world w f s
    → Lowered world w f g s

-- and to the end of the core
pub record Ended (world : World) (w : Setting) (f g : ℕ → SweeperView) (s : State) : Type 0 where
  pub led : Led world w f g s
  pub done : AreDone world w (hands_of g) led.after.state

abbrev pub Ends : ℕ → (ℕ → SweeperView) → (ℕ → SweeperView) → Type 0
Ends n f g =
    (world : World) (w : Setting) (s : State) → world.sweepers ≡ n → StandTogether world w f s
    → Ended world w f g s

-- ---- one sweeper's round

-- what a round that did not run out of memory has done
pub record Rounded (v v' : SweeperView) : Type 0 where
  pub runs : RunsRound v v'
  pub inbox : v'.inbox ≡ []
  pub swept : v'.places.unswept ≡ []
  pub round : v'.round ≡ min (v.round + 1) (2 ^ 64 - 1)

abbrev pub Rounds : ℕ → (ℕ → SweeperView) → (ℕ → SweeperView) → Type 0
Rounds n f g = (k : ℕ) → k < n → Rounded (f k) (g k)

-- each sweeper's number of rounds rose by so many, or stands at its end
abbrev pub CountRounds : ℕ → (ℕ → SweeperView) → (ℕ → SweeperView) → ℕ → Type 0
CountRounds n f g rounds = (k : ℕ) → k < n → (g k).round ≡ min ((f k).round + rounds) (2 ^ 64 - 1)
