-- The exchange of all messages leads on, and leaves less to do where a message went.
use Rattle.std.proofs.Common.{◌≡◌, ◌≢◌, ℕ, suc, ◌<◌, List, [], ◌∷◌, ◌++◌, length, filter, Contains, refl, sym, ◌∙◌, ap, subst, arith}
use Rattle.gc_mail.specs.declared.message.Message.{Message}
use Rattle.gc_mail.specs.Recipients.{all_of, is_for}
use Rattle.owned_core.specs.Owned.{State}
use Rattle.owned_core.specs.Settings.{Setting}
use Rattle.sweep_model.specs.World.{World}
use Rattle.sweep_model.specs.Wholes.{After, IsReady}
use Rattle.sweep_model.specs.Wholes.{AreMailed as AreMailedInModel}
use Rattle.sweep_model.proofs.Exchanging.{exchange_lowers_rank, exchange_stands}
use Rattle.sweep_share.specs.Shares.{AreSound}
use Rattle.sweeper.specs.Sweepers.{IsSteady, SweeperView, hand_of}
use Rattle.sweeper.specs.Ready.{IsReadyIn}
use Rattle.sweeper.proofs.WorldReady.{apart_on, fits_on, mailed_steady}
use Rattle.sweeper.proofs.WorldSteady.{joined_on}
use Rattle.sweep_rounds.specs.Turns.{Leads, Led, Lowered, Lowers, StandTogether, hands_of}
use Rattle.sweep_rounds.specs.Mails.{AreMailed, box_at}

-- a sweeper with other mail, for which its hand is ready
mailed_in : (world : World) (v : SweeperView) (inbox outbox : List Message) → IsReadyIn world v
    → IsReady world (hand_of (record v { inbox = inbox; outbox = outbox }))
    → IsReadyIn world (record v { inbox = inbox; outbox = outbox })
mailed_in world v inbox outbox ready hand =
    let v' : SweeperView = record v { inbox = inbox; outbox = outbox } in
    let steady : IsSteady v v' = mailed_steady world v v.places.unswept inbox outbox ready in
    record {
      is_world = ready.is_world;
      joined = joined_on v v' ready.joined steady;
      fits = fits_on world v v' ready.fits steady (λ r e. e);
      ready = hand;
      apart = apart_on world v v' ready.apart steady refl;
    }

module _ (world : World) (w : Setting) (f g : ℕ → SweeperView) (s : State) (t : StandTogether world w f s)
    (emptied : (k : ℕ) → k < world.sweepers → (f k).inbox ≡ []) (mailed : AreMailed world.sweepers f g) where
  in_model : AreMailedInModel world.sweepers (hands_of f) (hands_of g)
  in_model = record {
    emptied = emptied;
    same = λ k b. ap hand_of (mailed.same k b);
    sent = mailed.sent;
    count = mailed.count;
    sent_is = mailed.sent_is;
    inboxes = mailed.inboxes;
    inbox_is = mailed.inbox_is;
    delivered = mailed.delivered;
  }

  ready_now : After world w (hands_of g) s → (k : ℕ) → k < world.sweepers → IsReadyIn world (g k)
  ready_now after k b =
      let hand : IsReady world (hand_of (record (f k) { inbox = (g k).inbox; outbox = [] })) =
      subst (λ v. IsReady world (hand_of v)) (mailed.same k b) (after.stand.ready k b) in
      subst (IsReadyIn world) (sym (mailed.same k b)) (mailed_in world (f k) (g k).inbox [] (t.ready k b) hand)

  -- nothing but the mail changed
  led_by : After world w (hands_of g) s → Led world w f g s
  led_by after = record {
    after = after;
    ready = ready_now after;
    directory = λ k b. ap (λ (v : SweeperView). v.places.directory) (mailed.same k b);
    own = λ k x q b c. subst (λ (v : SweeperView). Contains v.places.own (x, q)) (sym (mailed.same k b)) c;
    cards = λ ordered generation_at agrees k b sound.
        subst (λ (v : SweeperView). AreSound generation_at v.share) (sym (mailed.same k b)) sound;
  }

  pub exchange_led : Led world w f g s
  exchange_led = led_by (exchange_stands world w (hands_of f) (hands_of g) s t.is_world t.setting t.stand in_model)

  pub exchange_lowered : (k : ℕ) → k < world.sweepers → (f k).outbox ≢ [] → Lowered world w f g s
  unfolding led_by
  exchange_lowered k b more =
      let r =
      exchange_lowers_rank world w (hands_of f) (hands_of g) s t.is_world t.setting t.stand in_model k b more in
      record { led = led_by r.0; lower = r.1 }

-- ---- the same of all worlds

pub leads_mail : (n : ℕ) (f g : ℕ → SweeperView) → ((k : ℕ) → k < n → (f k).inbox ≡ []) → AreMailed n f g → Leads n f g
leads_mail n f g emptied mailed world w s count t =
    exchange_led world w f g s t (λ k b. emptied k (subst (λ m. k < m) count b))
    (subst (λ m. AreMailed m f g) (sym count) mailed)

pub lowers_mail : (n : ℕ) (f g : ℕ → SweeperView) → ((k : ℕ) → k < n → (f k).inbox ≡ []) → AreMailed n f g
    → (k : ℕ) → k < n → 0 < length (f k).outbox → Lowers n f g
lowers_mail n f g emptied mailed k inside some world w s count t =
    exchange_lowered world w f g s t (λ k b. emptied k (subst (λ m. k < m) count b))
    (subst (λ m. AreMailed m f g) (sym count) mailed) k (subst (λ m. k < m) (sym count) inside)
    (λ e. let none : 0 < 0 = subst (λ (l : List Message). 0 < length l) e some in omega (arith, none))

-- ---- where nothing was sent

none_sent : (sent : List (List Message)) → ((k : ℕ) → k < length sent → box_at sent k ≡ []) → all_of sent ≡ []
none_sent [] each = refl
none_sent (box ∷ boxes) each =
    let first : box ≡ [] = each 0 (omega arith) in
    ap (λ b. b ++ all_of boxes) first ∙ none_sent boxes (λ k b. each (suc k) (omega (arith, b)))

-- nothing came
pub none_came : (n : ℕ) (f g : ℕ → SweeperView) → AreMailed n f g → ((k : ℕ) → k < n → (f k).outbox ≡ [])
    → (k : ℕ) → k < n → (g k).inbox ≡ []
none_came n f g mailed quiet k b =
    let none : all_of mailed.sent ≡ [] =
    none_sent mailed.sent
    (λ j inside.
    let low : j < n = subst (λ m. j < m) mailed.count inside in
    mailed.sent_is j low ∙ quiet j low)
    in
    sym (mailed.inbox_is k b) ∙ mailed.delivered k b ∙ ap (filter (is_for n k)) none
