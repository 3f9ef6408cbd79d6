-- An object that was taken and is not swept yet.
use Rattle.std.proofs.Common.{◌≡◌, ℕ, ◌<◌, [], ◌∷◌, ◌++◌, refl, sym, ap, subst, ◌∙◌}
use Rattle.gc_mail.specs.Recipients.{owner}
use Rattle.sweep_share.specs.Shares.{start_in}
use Rattle.sweep_places.specs.Places.{PlacesView}
use Rattle.sweeper.specs.Sweepers.{Puts, SweeperView, in_hand, left_of}
use Rattle.sweeper.specs.Ready.{Ready, Runs}
use Rattle.sweeper.proofs.WorldSwept.{IsNext, IsSweptTo, next_is, one_swept}
use Rattle.sweeper.proofs.SweptFields.{is_next, popped, popped_left}

module _ (u : SweeperView) (x p : ℕ) where
  -- it is swept next
  pub hand_next : IsNext (in_hand u x p) x p
  hand_next = is_next (in_hand u x p) (in_hand u x p) u.places (x, p) refl refl

  -- once it is taken the others are left
  pub hand_taken : u ≡ one_swept (in_hand u x p)
  hand_taken = popped (in_hand u x p) (in_hand u x p) u.places (x, p) refl refl refl

  pub hand_left : left_of u < left_of (in_hand u x p)
  hand_left =
      subst (λ (z : SweeperView). left_of z < left_of (in_hand u x p)) (sym hand_taken)
      (popped_left (in_hand u x p) (in_hand u x p) u.places (x, p) refl refl)

-- put back it is as it was
pub hand_back : (s v : SweeperView) (places : PlacesView) (f : ℕ × ℕ) → s ≡ v
    → s.places.unswept ≡ places.unswept ++ f ∷ [] → places ≡ record s.places { unswept = places.unswept }
    → in_hand (record s { places = places }) f.0 f.1 ≡ v
hand_back s v places f e taken rest =
    ap (λ (q : PlacesView). in_hand (record s { places = q }) f.0 f.1) rest
    ∙ (ap (λ l. record s { places = record s.places { unswept = l } }) (sym taken) ∙ e)

-- a place was put while it is in hand
pub puts_in_hand : (v v' : SweeperView) (p i q refers x y : ℕ) → Puts v v' p i q refers
    → Puts (in_hand v x y) (in_hand v' x y) p i q refers
puts_in_hand v v' p i q refers x y put = record {
  steady = record {
    alike = put.steady.alike;
    number = put.steady.number;
    directory = put.steady.directory;
    registers = put.steady.registers;
    register_count = put.steady.register_count;
    round = put.steady.round;
    ran_out = put.steady.ran_out;
  };
  word = put.word;
  is_word = put.is_word;
  put = record {
    number = put.put.number;
    own = put.put.own;
    unswept = ap (λ l. l ++ (x, y) ∷ []) put.put.unswept;
    register = put.put.register;
    inbox = put.put.inbox;
    outbox = put.put.outbox;
    here = put.put.here;
    others = put.put.others;
  };
  sound = put.sound;
}

-- what is swept next stays as it was
pub hand_same : (v u u' : SweeperView) (y r i x p : ℕ) → Ready v → IsNext v y r → IsSweptTo v u y i
    → Runs v (in_hand u' x p) → start_in u'.share x ≡ start_in u.share x
hand_same v u u' y r i x p ready next done runs =
    let n = next_is ready.0 v y r ready.3 next in
    let before = (done ready.0 ready.1 n.0 ready.2 ready.3 n.1).follows in
    let after = (runs ready.0 ready.1 ready.2 ready.3).follows in
    let m = next_is ready.0 (in_hand u' x p) x p after.ready (hand_next u' x p) in
    let mine : owner ready.0.sweepers x ≡ u.share.number =
    m.3 ∙ (after.steady.alike.number ∙ sym before.steady.alike.number) in
    m.4 ∙ sym (before.ready.ready.tied.frozen x m.0 m.1 mine m.2)
