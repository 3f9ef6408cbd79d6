-- Where following begins, and where it has come to.
use Rattle.std.proofs.Common.{◌≡◌, ℕ, ◌≤◌, Bool, true, false, nat_le, Option, None, Some, IfSome, Contains, slice_index, refl, sym, ap, subst, ◌∙◌, arith}
use Rattle.std.proofs.lemmas.Bool.Decides.{nat_tests}
use Rattle.std.proofs.lemmas.Option.{same_Some}
use Rattle.gc_words.specs.Layout.{segment_of, thread_of}
use Rattle.trace_types.specs.declared.kind.Kind.TheVariants as kind
use Rattle.segment.specs.Segments.{Start}
use Rattle.gc_mail.specs.Recipients.{owner}
use Rattle.territory.specs.declared.territory.Targets.{Targets}
use Rattle.territory.specs.Finishing.{target_of}
use Rattle.territory.specs.Following.{IfSwept}
use Rattle.territory.specs.Territories.{words_of}
use Rattle.directory.specs.declared.table.FromSegment.{FromSegment}
use Rattle.directory.specs.Tables.{entry_at}
use Rattle.directory.specs.Directories.{DirectoryView, found_at, from_at}
use Rattle.directory.proofs.Finding.{found_none}
use Rattle.sweep_model.specs.World.{World, goes_to, is_collected, is_young}
use Rattle.sweep_share.specs.Shares.{IsPairOf, ShareView, start_in}
use Rattle.sweep_share.specs.Following.{AreItsWords, IsPairIn, word_in}
use Rattle.sweep_places.specs.Places.{PlacesView}
use Rattle.sweep_places.specs.Following.{HasTrail, IsCarSwept, IsLeft, IsTrail, Sweep, sweep_of}
use Rattle.sweeper.specs.declared.lists.NextPair.{NextPair}
use Rattle.sweeper.specs.Sweepers.{FieldDone, IsJoined, IsNextPair, SweeperView, in_hand}
use Rattle.sweeper.specs.Ready.{ComesTo, Ready}
use Rattle.sweeper.proofs.FollowedPairs.{IsOn, car_done, car_swept, followed_on, its_entry, ready_on, with_sweep, words_on}
use Rattle.sweeper.proofs.InHand.{hand_next}
use Rattle.sweeper.proofs.Kept.{goes_target, joined_share}
use Rattle.sweeper.proofs.SweptFields.{there_same}
use Rattle.sweeper.proofs.WorldMail.{runs_none}
use Rattle.sweeper.proofs.WorldSwept.{next_is, next_pair}

-- what is young is of a collected generation
young_is : (o : Option Start) (y : Start) (cg : ℕ) → o ≡ Some y → is_young cg o ≡ true → y.generation ≤ cg
young_is o y cg e young =
    let is : nat_le y.generation cg ≡ true = sym (ap (is_young cg) e) ∙ young in
    grind (arith, nat_tests, is)

-- where nothing is followed, the pair in hand is the one to which it comes
pub comes_nowhere : (s : SweeperView) (pair : NextPair) → IsNextPair s pair
    → ComesTo s s pair (record { pair = pair; car_swept = false })
comes_nowhere s pair has = record {
  before = s;
  runs = runs_none (in_hand s pair.object pair.copy);
  halfway = record { words = has; car = refl };
  directory = refl;
  most = omega arith;
}

-- its parts are of one sweeper of one collection, whatever a refused copy left
joined_left : (s : SweeperView) (old new : Sweep) → IsLeft old new → IsJoined (with_sweep s old)
    → IsJoined (with_sweep s new)
joined_left s old new left joined =
    subst (λ (p : PlacesView). IsJoined (record s { share = new.share; places = p })) (sym left.places)
    (joined_share (with_sweep s old) new.share joined left.alike)

-- the words that were told are those of the pair, which stays as it is
words_told : (s t : ShareView) (b car cdr : ℕ) → AreItsWords s b car cdr → start_in s b ≡ start_in t b
    → IsPairOf (start_in t b) (word_in t b 0) (word_in t b 1) → IsPairOf (start_in t b) car cdr
words_told s t b car cdr its same words =
    let car_is : word_in t b 0 ≡ car = sym (its.0 ∙ ap (λ o. slice_index (words_of o) 0) same) in
    let cdr_is : word_in t b 1 ≡ cdr = sym (its.1 ∙ ap (λ o. slice_index (words_of o) 1) same) in
    subst (IsPairOf (start_in t b) car) cdr_is (subst (λ w. IsPairOf (start_in t b) w (word_in t b 1)) car_is words)

-- it has come to the pair at b, whose copy is at r, and whose car was swept then, or was not
pub record HasCome (old new : SweeperView) (d : DirectoryView) (pair : NextPair) (b r : ℕ) (swept : Bool) : Type 0 where
  pub joined : IsJoined new
  pub directory : new.places.directory ≡ d
  pub comes : (car cdr : ℕ) → AreItsWords new.share b car cdr
      → ComesTo old new pair
      (record { pair = record { object = b; copy = r; car = car; cdr = cdr }; car_swept = swept })

-- ---- the pair in hand and its copy

module _ (s : SweeperView) (pair : NextPair) (ready : Ready (in_hand s pair.object pair.copy))
    (has : IsNextPair s pair) where
  abbrev v : SweeperView
  v = in_hand s pair.object pair.copy

  abbrev world : World
  world = ready.0

  -- the pair, as the world and the share have it
  its : (y : Start) × (world.image pair.object ≡ Some y) × (is_collected world pair.object ≡ true)
      × (owner world.sweepers pair.object ≡ s.share.number) × (start_in s.share pair.object ≡ Some y)
  its = next_is world v pair.object pair.copy ready.3 (hand_next s pair.object pair.copy)

  its_kind : its.0.kind ≡ kind.Pair
  its_kind = (subst (λ o. IsPairOf o pair.car pair.cdr) its.4 has).0

  its_place : Contains s.places.own (pair.object, pair.copy)
  its_place = next_pair world v pair.object pair.copy ready.3 (hand_next s pair.object pair.copy)

  pub pair_there : IsPairIn s.share pair.object
  pair_there = (its.0, its.4, its_kind)

  pub copy_thread : thread_of pair.copy ≡ thread_of pair.object
  copy_thread = (ready.3.ready.tied.fresh pair.object pair.copy its_place).1

  -- it lies in a from-segment
  pub pair_aside : (d : DirectoryView) → s.places.directory ≡ d → found_at d pair.object ≡ None → ⊥
  pair_aside d same none =
      let f = ready.3.fits.generations pair.object its.0 its.1 its.2 in
      let gone : from_at s.places.directory pair.object ≡ None =
      ap (λ z. from_at z pair.object) same ∙ found_none d pair.object none in
      absurd (let both : Some f.0 ≡ None = sym f.1 ∙ gone in cc)

  -- the copy is a pair, too
  abbrev copy_there : IsPairIn s.share pair.copy
  copy_there =
      let kept = ready.3.ready.tied.copied pair.object pair.copy its_place in
      let old : kept.old ≡ its.0 = same_Some _ _ (sym kept.was ∙ its.1) in
      (kept.new, kept.is, kept.kind ∙ ap (λ (y : Start). y.kind) old ∙ its_kind)

  -- ---- its from-segment
  module _ (d : DirectoryView) (from : FromSegment) (same : s.places.directory ≡ d)
      (entry : entry_at d.tables (thread_of pair.object) (segment_of pair.object) ≡ Some from) where
    abbrev g : ℕ
    g = copy_there.0.generation

    abbrev begin : Sweep
    begin = sweep_of s.share s.places

    -- the copy is of the generation to which the from-segment goes
    target : g ≡ target_of d.targets from.generation
    target =
        let kept = ready.3.ready.tied.copied pair.object pair.copy its_place in
        let old : kept.old ≡ its.0 = same_Some _ _ (sym kept.was ∙ its.1) in
        let f = ready.3.fits.generations pair.object its.0 its.1 its.2 in
        let lies : from_at d pair.object ≡ Some f.0 = ap (λ z. from_at z pair.object) (sym same) ∙ f.1 in
        let is_from : f.0 ≡ from = its_entry d pair.object pair.object from f.0 refl refl entry lies in
        let targets : world.targets ≡ d.targets = ready.3.fits.targets ∙ ap (λ (z : DirectoryView). z.targets) same in
        let young : its.0.generation ≤ world.targets.cg =
        young_is (world.image pair.object) its.0 world.targets.cg its.1 its.2 in
        kept.generation ∙ ap (λ (y : Start). goes_to world.targets y.generation) old
        ∙ goes_target world.targets its.0.generation young
        ∙ ap (λ (t : Targets). target_of t its.0.generation) targets
        ∙ ap (target_of d.targets) (sym f.2 ∙ ap (λ (z : FromSegment). z.generation) is_from)

    abbrev Comes : Sweep → ℕ → ℕ → Type 0
    Comes = IsOn s pair.object pair.copy ready d from g entry target

    begins : Comes begin pair.object pair.copy
    begins = record {
      runs = runs_none v;
      same = same;
      thread = refl;
      segment = refl;
      pair = pair_there;
      most = omega arith;
    }

    -- where following came to the pair at b: its words are the same since
    record IsThere (mid : Sweep) (b : ℕ) (now : Sweep) : Type 0 where
      start : start_in now.share b ≡ start_in mid.share b
      joined : IsJoined (with_sweep s now)
      directory : now.places.directory ≡ d

    -- ---- pairs were followed to the one at b, whose copy is at r
    module _ (new : Sweep) (b r : ℕ) (swept : Bool) (trail : IsTrail g begin pair.object pair.copy new b r swept) where
      abbrev mid : Sweep
      mid = trail.mid

      on : Comes mid b r
      on = followed_on s pair.object pair.copy ready d from g entry target trail.count begin pair.object pair.copy mid b
          r trail.followed begins

      ready_mid : Ready (in_hand (with_sweep s mid) b r)
      ready_mid = ready_on s pair.object pair.copy ready d from g entry target mid b r on

      there : (c : Bool) (now : Sweep) → IfSwept c (IsCarSwept g) mid now b r → IsThere mid b now
      there true now car =
          let u = in_hand (with_sweep s mid) b r in
          let next = hand_next (with_sweep s mid) b r in
          let at = car_swept s pair.object pair.copy ready d from g entry target mid b r on now car in
          let n = next_is ready_mid.0 u b r ready_mid.3 next in
          record {
            start = there_same u (with_sweep s now) b r 1 ready_mid next at.done;
            joined = (at.done ready_mid.0 ready_mid.1 n.0 ready_mid.2 ready_mid.3 n.1).follows.ready.joined;
            directory = at.directory;
          }
      there false now e =
          let j = ready_mid.3.joined in
          let there_mid : IsThere mid b mid =
          record {
            start = refl;
            joined = record {
              places = j.places;
              registers = j.registers;
              count = j.count;
              register_count = j.register_count;
            };
            directory = on.same;
          } in
          subst (IsThere mid b) (sym e) there_mid

      halfway : (c : Bool) (now : Sweep) → IfSwept c (IsCarSwept g) mid now b r
          → IfSwept c (λ u w x p. FieldDone u w x p 0) (with_sweep s mid) (with_sweep s now) b r
      halfway true now car = car_done s pair.object pair.copy ready d from g entry target mid b r on now car
      halfway false now e = ap (with_sweep s) e

      has_come : HasCome s (with_sweep s new) d pair b r swept
      has_come =
          let end : IsThere mid b new = there swept new trail.car in
          record {
            joined = end.joined;
            directory = end.directory;
            comes = λ car cdr its. record {
              before = with_sweep s mid;
              runs = on.runs;
              halfway = record {
                words = words_told new.share mid.share b car cdr its end.start
                    (words_on s pair.object pair.copy ready d from g entry target mid b r on);
                car = halfway swept new trail.car;
              };
              directory = on.same ∙ sym same;
              most = on.most;
            };
          }

    -- ---- pairs were followed, and then a copy may have been refused
    joined_anyhow : (new : Sweep) → HasTrail g begin pair.object pair.copy new → IsJoined (with_sweep s new)
    joined_anyhow new t =
        joined_left s t.mid new t.left (has_come t.mid t.object t.copy t.car_swept t.trail_is).joined

-- ---- where the fields of the struct show the value

module _ (i v : SweeperView) (e : i ≡ v) (pair : NextPair) (ready : Ready (in_hand v pair.object pair.copy))
    (has : IsNextPair v pair) where
  shown_ready : Ready (in_hand i pair.object pair.copy)
  shown_ready = subst (λ (z : SweeperView). Ready (in_hand z pair.object pair.copy)) (sym e) ready

  shown_words : IsNextPair i pair
  shown_words = subst (λ (z : SweeperView). IsNextPair z pair) (sym e) has

  pub shown_pair : IsPairIn i.share pair.object
  shown_pair = pair_there i pair shown_ready shown_words

  pub shown_copy : IsPairIn i.share pair.copy
  shown_copy = copy_there i pair shown_ready shown_words

  pub shown_thread : thread_of pair.copy ≡ thread_of pair.object
  shown_thread = copy_thread i pair shown_ready shown_words

  -- what holds of the start where the copy is holds of the copy
  of_copy : (P : Start → Type 0) → IfSome (start_in i.share pair.copy) P
      → P (copy_there i pair shown_ready shown_words).0
  of_copy P h = subst (λ o. IfSome o P) (copy_there i pair shown_ready shown_words).1 h

  module _ (d : DirectoryView) (from : FromSegment) (same : v.places.directory ≡ d)
      (entry : entry_at d.tables (thread_of pair.object) (segment_of pair.object) ≡ Some from)
      (share : ShareView) (places : PlacesView) where
    abbrev now : SweeperView
    now = record i { share = share; places = places }

    abbrev old : Sweep
    old = sweep_of i.share i.places

    abbrev new : Sweep
    new = sweep_of share places

    shown_same : i.places.directory ≡ d
    shown_same = ap (λ (z : SweeperView). z.places.directory) e ∙ same

    pub shown_come : (b r : ℕ) (swept : Bool)
        → IfSome (start_in i.share pair.copy) (λ y. IsTrail y.generation old pair.object pair.copy new b r swept)
        → HasCome v now d pair b r swept
    shown_come b r swept trail =
        subst (λ (z : SweeperView). HasCome z now d pair b r swept) e
        (has_come i pair shown_ready shown_words d from shown_same entry new b r swept
        (of_copy (λ y. IsTrail y.generation old pair.object pair.copy new b r swept) trail))

    pub shown_anyhow : IfSome (start_in i.share pair.copy) (λ y. HasTrail y.generation old pair.object pair.copy new)
        → IsJoined now
    shown_anyhow trail =
        joined_anyhow i pair shown_ready shown_words d from shown_same entry new
        (of_copy (λ y. HasTrail y.generation old pair.object pair.copy new) trail)
