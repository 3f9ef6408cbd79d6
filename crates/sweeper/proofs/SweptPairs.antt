-- A pair that is swept: both its words were read at once.
use Rattle.std.proofs.Common.{◌≡◌, ℕ, ◌+◌, ◌<◌, List, [], ◌∷◌, length, slice_index, Option, None, Some, IfSome, refl, sym, ap, subst, ◌∙◌, arith}
use Rattle.trace_types.specs.declared.kind.Kind.TheVariants as kind
use Rattle.segment.specs.Layout.{words_after}
use Rattle.gc_mail.specs.Recipients.{owner}
use Rattle.territory.specs.Territories.{words_of}
use Rattle.directory.specs.Directories.{DirectoryView}
use Rattle.sweep_share.specs.Shares.{IsPairOf, start_in}
use Rattle.sweeper.specs.declared.lists.NextPair.{NextPair}
use Rattle.sweeper.specs.Sweepers.{CanKeep, FieldDone, IsNextPair, SweeperView, asked_by, asked_in, in_hand, left_of, with_next}
use Rattle.sweeper.specs.Ready.{Ready, Runs}
use Rattle.sweeper.proofs.FieldWords.{asked_there}
use Rattle.sweeper.proofs.InHand.{hand_left, hand_next, hand_same, hand_taken}
use Rattle.sweeper.proofs.WorldSwept.{IsSweptTo, swept_runs, swept_there, swept_to_more, there_keeps}
use Rattle.sweeper.proofs.SweptFields.{IsTaken, copy_word, counted_end, counted_inside, counted_rest, counted_strong, field_left, next_start, taken, taken_first, there_same}

-- its fields up to i are handled
pub record IsPairTo (v u : SweeperView) (d : DirectoryView) (x i : ℕ) : Type 0 where
  pub done : IsSweptTo v u x i
  pub directory : u.places.directory ≡ d
  pub left : left_of u < left_of v
  pub inbox : u.inbox ≡ v.inbox

module _ (v : SweeperView) (x p : ℕ) (t : IsTaken v x p 0 2) where
  module _ (u : SweeperView) (d : DirectoryView) (i : ℕ) (at : IsPairTo v u d x i) (below : i < 2) where
    -- a field asks for what its word does
    words_ask : (words : List ℕ) → words ≡ words_of (start_in v.share x)
        → asked_in u.places.directory (start_in u.share x) i ≡ asked_by d (slice_index words i)
    words_ask words is =
        let there = there_same v u x p i t.ready t.next at.done in
        let all : words ≡ words_of (start_in u.share x) = is ∙ ap words_of (sym there) in
        asked_there u.places.directory (start_in u.share x) 0 2 (counted_end v x 0 2 t.all u there)
        (counted_strong v x 0 2 t.all u 0 there (omega arith)) i (omega arith) below
        ∙ ap (λ l. asked_by u.places.directory (slice_index l i)) (sym all)
        ∙ ap (λ z. asked_by z (slice_index words i)) at.directory

    -- the copy has it too
    pub pair_copy : i < length (words_of (start_in u.share p))
    pair_copy = copy_word v u x p i i 0 2 t.ready t.next at.done t.all below

    -- what it asks for may be kept where it is its own
    pub pair_keeps : (word : ℕ) → asked_in u.places.directory (start_in u.share x) i ≡ asked_by d word
        → (a : ℕ) → asked_by d word ≡ Some a → owner u.share.sweepers a ≡ u.share.number → CanKeep u a
    pair_keeps word asks a some own = there_keeps u x p i a (swept_there v u x p i t.ready t.next at.done) (asks ∙ some) own

    pub pair_more : (u' : SweeperView) → FieldDone u u' x p i → IsPairTo v u' d x (i + 1)
    pair_more u' field =
        let left = field_left u u' x p i field in
        record {
          done = swept_to_more v u u' x p i t.next at.done (counted_inside v x 0 2 t.all i below) field;
          directory = left.directory ∙ at.directory;
          left = subst (λ n. n < left_of v) (sym left.left) at.left;
          inbox = left.inbox ∙ at.inbox;
        }

  pub pair_runs : (u : SweeperView) (d : DirectoryView) → IsPairTo v u d x 2 → Runs v u
  pair_runs u d at = swept_runs v u x p 2 t.next at.done (counted_rest v x 0 2 t.all)

-- the pair that is in hand
module _ (s : SweeperView) (pair : NextPair) (ready : Ready (in_hand s pair.object pair.copy)) (has : IsNextPair s pair) where
  abbrev v : SweeperView
  v = in_hand s pair.object pair.copy

  pub pair_taken : IsTaken v pair.object pair.copy 0 2
  pair_taken =
      let n = next_start v pair.object pair.copy ready (hand_next s pair.object pair.copy) in
      let is = subst (λ o. IsPairOf o pair.car pair.cdr) n.1 has in
      let two : words_after kind.Pair n.0.length ≡ 2 = refl in
      taken v v s.places (pair.object, pair.copy) n.0.length 0 2 kind.Pair refl refl ready
      (subst (λ o. IfSome o (λ y. kind.Pair ≡ y.kind)) (sym n.1) (sym is.0))
      (subst (λ o. IfSome o (λ y. n.0.length ≡ y.length)) (sym n.1) refl)
      (omega arith) (omega (arith, two)) (λ i a b. refl) (λ i a. absurd (omega (arith, a)))
      (λ i a b. absurd (omega (arith, two, a, b)))

  pub pair_begun : (d : DirectoryView) → s.places.directory ≡ d → IsPairTo v s d pair.object 0
  pair_begun d same = record {
    done = subst (λ (z : SweeperView). IsSweptTo v z pair.object 0) (sym (hand_taken s pair.object pair.copy))
        (taken_first v pair.object pair.copy 0 2 pair_taken);
    directory = same;
    left = hand_left s pair.object pair.copy;
    inbox = refl;
  }

  -- a field asks for what its word does
  pub pair_asks : (u : SweeperView) (d : DirectoryView) (i : ℕ) → IsPairTo v u d pair.object i → i < 2
      → asked_in u.places.directory (start_in u.share pair.object) i ≡ asked_by d (slice_index (pair.car ∷ pair.cdr ∷ []) i)
  pair_asks u d i at below =
      let n = next_start v pair.object pair.copy ready (hand_next s pair.object pair.copy) in
      let is = subst (λ o. IsPairOf o pair.car pair.cdr) n.1 has in
      words_ask v pair.object pair.copy pair_taken u d i at below (pair.car ∷ pair.cdr ∷ [])
      (sym is.1 ∙ ap words_of (sym n.1))

  -- what is swept next has the words that were read
  pub next_same : (u u' : SweeperView) (d : DirectoryView) → IsPairTo v u d pair.object 1 → (next : Option NextPair)
      → Runs v (with_next u' next) → IfSome next (IsNextPair u) → IfSome next (IsNextPair u')
  next_same u u' d at None runs words = tt
  next_same u u' d at (Some f) runs words =
      subst (λ o. IsPairOf o f.car f.cdr)
      (sym (hand_same v u u' pair.object pair.copy 1 f.object f.copy ready (hand_next s pair.object pair.copy) at.done runs)) words
