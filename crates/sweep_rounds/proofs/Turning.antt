-- A turn: a round of all sweepers, and the exchange. What it leads to, and how many turns there can be.
use Rattle.std.proofs.Common.{◌≡◌, ℕ, ◌+◌, ◌-◌, ◌*◌, ◌^◌, ◌<◌, ◌≤◌, List, [], length, min, refl, sym, ◌∙◌, ap, subst, arith}
use Rattle.directory.specs.Directories.{DirectoryView}
use Rattle.owned_core.specs.declared.slot.Slot.{Slot}
use Rattle.owned_core.specs.Ranks.{Covers, rank}
use Rattle.sweep_model.specs.Wholes.{AreDone, IsQuiet}
use Rattle.sweep_model.proofs.Ending.{quiet_is_done}
use Rattle.sweeper.specs.Sweepers.{SweeperView, hand_of}
use Rattle.sweep_rounds.specs.Turns.{CountRounds, Ends, Leads, Lowers, Rounds, Whole, hands_of}
use Rattle.sweep_rounds.specs.Mails.{AreMailed}
use Rattle.sweep_rounds.proofs.Leading.{leads_lower, leads_more, leads_round, together_after}
use Rattle.sweep_rounds.proofs.Delivering.{leads_mail, lowers_mail, none_came}

-- ---- what a turn leads to

module _ (n : ℕ) (f g h : ℕ → SweeperView) (rounds : Rounds n f g) (mailed : AreMailed n g h) where
  pub leads_turn : Leads n f h
  leads_turn = leads_more n f g h (leads_round n f g rounds) (leads_mail n g h (λ k b. (rounds k b).inbox) mailed)

  -- where a message went, less is left to do
  pub lowers_turn : (k : ℕ) → k < n → 0 < length (g k).outbox → Lowers n f h
  lowers_turn k b some =
      leads_lower n f g h (leads_round n f g rounds) (lowers_mail n g h (λ k b. (rounds k b).inbox) mailed k b some)

  quiet_now : ((k : ℕ) → k < n → (g k).outbox ≡ []) → (k : ℕ) → k < n → IsQuiet (hand_of (h k))
  quiet_now quiet k b = record {
    inbox = none_came n g h mailed quiet k b;
    outbox = ap (λ (v : SweeperView). v.outbox) (mailed.same k b);
    swept = ap (λ (v : SweeperView). v.places.unswept) (mailed.same k b) ∙ (rounds k b).swept;
  }

  -- and where none went, it is the end
  pub ends_turn : ((k : ℕ) → k < n → (g k).outbox ≡ []) → Ends n f h
  ends_turn quiet world w s count t =
      let led = leads_turn world w s count t in
      let done : AreDone world w (hands_of h) led.after.state =
      quiet_is_done world w (hands_of h) led.after.state t.is_world t.setting led.after.stand
      (λ k b. quiet_now quiet k (subst (λ m. k < m) count b)) in
      record { led = led; done = done }

  pub counts_turn : CountRounds n f h 1
  counts_turn k b = ap (λ (v : SweeperView). v.round) (mailed.same k b) ∙ (rounds k b).round

-- ---- how many rounds there were

-- each number of rounds will have risen by one more
abbrev pub CountsOn : ℕ → (ℕ → SweeperView) → (ℕ → SweeperView) → ℕ → Type 0
CountsOn n f g rounds =
    (k : ℕ) → k < n → min ((g k).round + 1) (2 ^ 64 - 1) ≡ min ((f k).round + (rounds + 1)) (2 ^ 64 - 1)

pub counts_first : (n : ℕ) (f : ℕ → SweeperView) → CountsOn n f f 0
counts_first n f k b = refl

least_on : (a r m : ℕ) → min (min (a + (r + 1)) m + 1) m ≡ min (a + (r + 1 + 1)) m
least_on a r m = omega arith

pub counts_more : (n : ℕ) (f g h : ℕ → SweeperView) (rounds : ℕ) → CountsOn n f g rounds → CountRounds n g h 1
    → CountRounds n f h (rounds + 1)
counts_more n f g h rounds on one k b = one k b ∙ on k b

pub counts_on : (n : ℕ) (f h : ℕ → SweeperView) (rounds : ℕ) → CountRounds n f h (rounds + 1)
    → CountsOn n f h (rounds + 1)
counts_on n f h rounds counted k b =
    ap (λ z. min (z + 1) (2 ^ 64 - 1)) (counted k b) ∙ least_on (f k).round rounds (2 ^ 64 - 1)

-- ---- how many there can be

-- They stand for a state in which no more is left to do than turns are left.
pub record IsLeft (n : ℕ) (d : DirectoryView) (names : List Slot) (turns : ℕ) (f : ℕ → SweeperView) : Type 0 where
  pub whole : Whole n d f
  pub covers : Covers whole.setting names
  pub left : turns + rank names whole.state ≤ 7 * length names

-- each turn with a message leaves less
pub left_on : (n : ℕ) (d : DirectoryView) (names : List Slot) (turns : ℕ) (f g : ℕ → SweeperView)
    → IsLeft n d names turns f → Lowers n f g → IsLeft n d names (turns + 1) g
left_on n d names turns f g before lowers =
    let h = before.whole in
    let r = lowers h.world h.setting h.state h.count h.together in
    record {
      whole = record {
        world = h.world;
        setting = h.setting;
        state = r.led.after.state;
        count = h.count;
        together = together_after h.world h.setting f g h.state h.together r.led;
        directory = λ k b. r.led.directory k (subst (λ m. k < m) (sym h.count) b) ∙ h.directory k b;
      };
      covers = before.covers;
      left =
          let fell : rank names r.led.after.state < rank names h.state = r.lower names before.covers in
          omega (arith, fell, before.left);
    }
