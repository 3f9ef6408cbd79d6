-- Pairs that were followed were swept.
use Rattle.std.proofs.Common.{◌≡◌, ℕ, zero, suc, ◌<◌, ◌≤◌, Bool, true, false, List, [], ◌∷◌, ◌++◌, cond, length, slice_index, Option, None, Some, IsSome, refl, sym, ap, subst, ◌∙◌, inl, inr, arith}
use Rattle.std.specs.Prelude.{is_some, nat_lt}
use Rattle.std.proofs.lemmas.Option.{same_Some}
use Rattle.gc_words.specs.declared.value.Value.{Value}
use Rattle.gc_words.specs.declared.value.Value.TheVariants as value
use Rattle.gc_words.specs.Layout.{offset_of, segment_of, thread_of}
use Rattle.gc_words.specs.Word.{value_of}
use Rattle.trace_types.specs.declared.kind.Kind.TheVariants as kind
use Rattle.segment.specs.Layout.{words_after}
use Rattle.segment.specs.Segments.{Start}
use Rattle.territory.specs.Finishing.{target_of}
use Rattle.territory.specs.Territories.{words_of}
use Rattle.territory.specs.Following.{AreFollowed}
use Rattle.directory.specs.declared.table.FromSegment.{FromSegment}
use Rattle.directory.specs.Tables.{entry_at}
use Rattle.directory.specs.Directories.{DirectoryView, from_at, with_offset}
use Rattle.sweep_model.specs.World.{is_strong, object_in}
use Rattle.sweep_share.specs.Shares.{IsPairOf, ShareView, start_in}
use Rattle.sweep_share.specs.Following.{IsPairIn}
use Rattle.sweep_share.proofs.Places.{own_of}
use Rattle.sweep_places.specs.Places.{PlacesView}
use Rattle.sweep_places.specs.Following as followed
use Rattle.sweep_places.specs.Following.{IsCarSwept, IsCdrSwept, IsReached, Sweep}
use Rattle.sweeper.specs.declared.lists.NextPair.{NextPair}
use Rattle.sweeper.specs.Sweepers.{CanKeep, Copies, FieldDone, IsKeptNow, IsPlain, Puts, SweeperView, GoesTo, asked_by, asked_in, if_aside, in_hand, left_of}
use Rattle.sweeper.specs.Ready.{Ready, Runs}
use Rattle.sweeper.proofs.AnswerSteps.{ready_after}
use Rattle.sweeper.proofs.FieldWords.{asked_word, refers_not}
use Rattle.sweeper.proofs.Fielding.{own_done}
use Rattle.sweeper.proofs.InHand.{hand_back, hand_next, hand_same, puts_in_hand}
use Rattle.sweeper.proofs.Kept.{copies_shown, puts}
use Rattle.sweeper.proofs.SweptFields.{IsTaken, next_start, there_same}
use Rattle.sweeper.proofs.SweptPairs.{IsPairTo, pair_begun, pair_keeps, pair_more, pair_runs, pair_taken}
use Rattle.sweeper.proofs.WorldMail.{runs_on}

-- ---- words

-- what names no object refers to none
no_object : (o : Option Value) → ((b : ℕ) → o ≡ Some (value.Object b) → ⊥) → object_in o ≡ None
no_object None f = refl
no_object (Some value.Nil) f = refl
no_object (Some value.True) f = refl
no_object (Some value.False) f = refl
no_object (Some value.Bwp) f = refl
no_object (Some (value.Fixnum z)) f = refl
no_object (Some (value.Object b)) f = absurd (f b refl)

-- what refers to an object that lies in a from-segment asks for it
asks_for : (d : DirectoryView) (word b : ℕ) (from : FromSegment) → value_of word ≡ Some (value.Object b)
    → from_at d b ≡ Some from → asked_by d word ≡ Some b
asks_for d word b from names lies =
    ap (if_aside d) (ap object_in names) ∙ ap (λ o. cond (is_some o) (Some b) None) lies

-- two words are all
both_words : (words : List ℕ) → length words ≡ 2 → words ≡ slice_index words 0 ∷ slice_index words 1 ∷ []
both_words [] h = absurd (omega (arith, h))
both_words (x ∷ []) h = absurd (omega (arith, h))
both_words (x ∷ y ∷ []) h = refl
both_words (x ∷ y ∷ z ∷ rest) h = absurd (omega (arith, h))

-- a pair's field asks for what its word does
asks_pair : (d : DirectoryView) (o : Option Start) (x : Start) (i : ℕ) → o ≡ Some x → x.kind ≡ kind.Pair
    → asked_in d o i ≡ asked_by d (slice_index (words_of o) i)
asks_pair d o x i e pair =
    subst (λ z. asked_in d z i ≡ asked_by d (slice_index (words_of z) i)) (sym e)
    (asked_word d x i (ap (λ k. is_strong k i) pair))

-- ---- a from-segment

-- what lies in the segment of an entry lies in it
pub its_entry : (d : DirectoryView) (a b : ℕ) (from f : FromSegment) → thread_of b ≡ thread_of a
    → segment_of b ≡ segment_of a → entry_at d.tables (thread_of a) (segment_of a) ≡ Some from → from_at d b ≡ Some f
    → f ≡ from
its_entry d a b from f thread segment entry lies =
    let same : entry_at d.tables (thread_of b) (segment_of b) ≡ Some from =
    ap (λ t. entry_at d.tables t (segment_of b)) thread ∙ ap (entry_at d.tables (thread_of a)) segment ∙ entry in
    offset_entry (entry_at d.tables (thread_of b) (segment_of b)) (offset_of b) from f same lies
  where
    chosen : (c : Bool) (from f : FromSegment) → cond c (Some from) None ≡ Some f → f ≡ from
    chosen true from f e = sym (same_Some _ _ e)
    chosen false from f e = absurd (cc)

    offset_entry : (o : Option FromSegment) (offset : ℕ) (from f : FromSegment) → o ≡ Some from
        → with_offset o offset ≡ Some f → f ≡ from
    offset_entry None offset from f e g = absurd (cc)
    offset_entry (Some x) offset from f e g = chosen (nat_lt offset x.size) x f g ∙ same_Some _ _ e

-- the pair at b lies in the same one as what starts at a
record IsBeside (share : ShareView) (a b : ℕ) : Type 0 where
  thread : thread_of b ≡ thread_of a
  segment : segment_of b ≡ segment_of a
  start : Start
  has : start_in share b ≡ Some start
  pair : start.kind ≡ kind.Pair

-- ... as the one does that is swept next
next_beside : (g : ℕ) (now new : Sweep) (a q b r : ℕ) → IsCdrSwept g now new a q b r → IsBeside now.share a b
next_beside g now new a q b r (inl (reached, rest)) = record {
  thread = reached.thread;
  segment = reached.segment;
  start = reached.start;
  has = reached.has;
  pair = reached.pair;
}
next_beside g now new a q b r (inr last) = record {
  thread = last.thread;
  segment = last.segment;
  start = last.pair.0;
  has = last.pair.1;
  pair = last.pair.2;
}

-- ---- from pair to pair

-- the sweeper with this share and these places
abbrev pub with_sweep : SweeperView → Sweep → SweeperView
with_sweep s w = record s { share = w.share; places = w.places }

module _ (s : SweeperView) (first copy : ℕ) (ready : Ready (in_hand s first copy)) (d : DirectoryView)
    (from : FromSegment) (g : ℕ) (entry : entry_at d.tables (thread_of first) (segment_of first) ≡ Some from)
    (target : g ≡ target_of d.targets from.generation) where
  -- following has come to the pair at a, whose copy is at q
  pub record IsOn (w : Sweep) (a q : ℕ) : Type 0 where
    pub runs : Runs (in_hand s first copy) (in_hand (with_sweep s w) a q)
    pub same : w.places.directory ≡ d
    pub thread : thread_of a ≡ thread_of first
    pub segment : segment_of a ≡ segment_of first
    pub pair : IsPairIn w.share a
    pub most : left_of (in_hand (with_sweep s w) a q) ≤ left_of (in_hand s first copy)

  module _ (w : Sweep) (a q : ℕ) (on : IsOn w a q) where
    abbrev pair_on : NextPair
    pair_on = record {
      object = a;
      copy = q;
      car = slice_index (words_of (start_in w.share a)) 0;
      cdr = slice_index (words_of (start_in w.share a)) 1;
    }

    pub ready_on : Ready (in_hand (with_sweep s w) a q)
    ready_on = ready_after (in_hand s first copy) (in_hand (with_sweep s w) a q) ready on.runs

    pub words_on : IsPairOf (start_in w.share a) pair_on.car pair_on.cdr
    words_on =
        let n = next_start (in_hand (with_sweep s w) a q) a q ready_on (hand_next (with_sweep s w) a q) in
        let is : on.pair.0 ≡ n.0 = same_Some _ _ (sym on.pair.1 ∙ n.1) in
        let kind_is : n.0.kind ≡ kind.Pair = ap (λ (x : Start). x.kind) (sym is) ∙ on.pair.2 in
        let two : length n.0.words ≡ 2 = n.2.its_words ∙ ap (λ k. words_after k n.0.length) kind_is in
        subst (λ o. IsPairOf o (slice_index (words_of o) 0) (slice_index (words_of o) 1)) (sym n.1)
        (kind_is, both_words n.0.words two)

    abbrev h : SweeperView
    h = in_hand (with_sweep s w) a q

    its : IsTaken h a q 0 2
    its = pair_taken (with_sweep s w) pair_on ready_on words_on

    begun : IsPairTo h (with_sweep s w) d a 0
    begun = pair_begun (with_sweep s w) pair_on ready_on words_on d on.same

    -- a field that leads to a pair that was copied now
    module _ (now : Sweep) (i : ℕ) (below : i < 2) (at : IsPairTo h (with_sweep s now) d a i)
        (x : Start) (here : start_in now.share a ≡ Some x) (pair : x.kind ≡ kind.Pair) (new : Sweep) (b r : ℕ)
        (reached : IsReached g now new a q i b r) where
      abbrev u : SweeperView
      u = with_sweep s now

      abbrev its_word : ℕ
      its_word = slice_index (words_of (start_in u.share a)) i

      asked_now : asked_in u.places.directory (start_in u.share a) i ≡ asked_by d its_word
      asked_now = asks_pair u.places.directory (start_in u.share a) x i here pair
          ∙ ap (λ z. asked_by z its_word) at.directory

      asked_some : asked_by d its_word ≡ Some b
      asked_some = asks_for d its_word b reached.own.start.from reached.refers
          (ap (λ z. from_at z b) (sym at.directory) ∙ reached.own.start.lies)

      asked : asked_in u.places.directory (start_in u.share a) i ≡ Some b
      asked = asked_now ∙ asked_some

      may : CanKeep u b
      may = pair_keeps h a q its u d i at below its_word asked_now b asked_some
          (own_of u.share b (subst IsSome (sym reached.has) refl))

      goes : g ≡ target_of u.places.directory.targets may.start.generation
      goes =
          let lies : from_at d b ≡ Some may.from = ap (λ z. from_at z b) (sym at.directory) ∙ may.lies in
          let same : may.from ≡ from =
          its_entry d first b from may.from (reached.thread ∙ on.thread) (reached.segment ∙ on.segment) entry lies in
          target ∙ ap (λ (f : FromSegment). target_of d.targets f.generation) (sym same)
          ∙ ap (λ n. target_of d.targets n) may.same
          ∙ ap (λ (z : DirectoryView). target_of z.targets may.start.generation) (sym at.directory)

      goes_to : GoesTo u b g
      goes_to y e =
          let is : may.start ≡ y = same_Some _ _ (sym may.here ∙ e) in
          goes ∙ ap (λ (z : Start). target_of u.places.directory.targets z.generation) is

      abbrev noted : PlacesView
      noted = record u.places { own = u.places.own ++ (b, r) ∷ []; unswept = u.places.unswept ++ (b, r) ∷ [] }

      abbrev mid : SweeperView
      mid = record u { share = reached.mid; places = noted }

      copied : Copies u mid b r
      copied = copies_shown u u b r g reached.mid noted refl may goes_to reached.copied refl reached.few reached.absent

      -- where it waits
      waits : new.places ≡ noted → FieldDone u (with_sweep s new) a q i
      waits e = own_done u mid (with_sweep s new) a q i b r g may asked (IsKeptNow copied) goes
          (subst (λ (p : PlacesView). Puts mid (record s { share = new.share; places = p }) q i r g) (sym e)
          (puts mid mid q i r g reached.word new.share refl reached.put reached.word_is))

      abbrev taken : PlacesView
      taken = record u.places { own = u.places.own ++ (b, r) ∷ [] }

      -- where it is swept next
      next : new.places ≡ taken → FieldDone u (in_hand (with_sweep s new) b r) a q i
      next e =
          let before : SweeperView = record u { share = reached.mid; places = taken } in
          own_done u mid (in_hand (with_sweep s new) b r) a q i b r g may asked (IsKeptNow copied) goes
          (subst (λ (p : PlacesView). Puts mid (in_hand (record s { share = new.share; places = p }) b r) q i r g)
          (sym e)
          (puts_in_hand before (record before { share = new.share }) q i r g b r
          (puts before before q i r g reached.word new.share refl reached.put reached.word_is)))

    -- the car was swept
    pub car_done : (now : Sweep) → IsCarSwept g w now a q → FieldDone (with_sweep s w) (with_sweep s now) a q 0
    car_done now (inl plain) =
        IsPlain (asks_pair w.places.directory (start_in w.share a) on.pair.0 0 on.pair.1 on.pair.2
        ∙ refers_not w.places.directory (slice_index (words_of (start_in w.share a)) 0)
        (no_object (value_of (slice_index (words_of (start_in w.share a)) 0)) plain.0)) (ap (with_sweep s) plain.1)
    car_done now (inr kept) =
        waits w 0 (omega arith) begun on.pair.0 on.pair.1 on.pair.2 now kept.0 kept.1 kept.2 kept.3

    pub car_swept : (now : Sweep) → IsCarSwept g w now a q → IsPairTo h (with_sweep s now) d a 1
    car_swept now car =
        pair_more h a q its (with_sweep s w) d 0 begun (omega arith) (with_sweep s now) (car_done now car)

    -- which left the pair as it was
    there_on : (now : Sweep) → IsCarSwept g w now a q → start_in now.share a ≡ start_in w.share a
    there_on now car =
        there_same h (with_sweep s now) a q 1 ready_on (hand_next (with_sweep s w) a q) (car_swept now car).done

    -- where the cdr asks for nothing, the pair that waits last is in hand next, and nothing else is done
    last_taken : (now new : Sweep) (b r : ℕ) → IsCarSwept g w now a q → followed.IsTaken g now new a b r
        → FieldDone (with_sweep s now) (in_hand (with_sweep s new) b r) a q 1
    last_taken now new b r car last =
        let u = with_sweep s now in
        let its_cdr = slice_index (words_of (start_in now.share a)) 1 in
        IsPlain (asks_pair now.places.directory (start_in now.share a) on.pair.0 1 (there_on now car ∙ on.pair.1)
        on.pair.2
        ∙ refers_not now.places.directory its_cdr (no_object (value_of its_cdr) last.nothing))
        (ap (λ x. in_hand (record s { share = x; places = new.places }) b r) last.share
        ∙ hand_back u u new.places (b, r) refl last.unswept last.places)

    -- and then the cdr: it leads to the pair that is swept next, or asks for nothing, and that one is taken
    cdr_done : (now new : Sweep) (b r : ℕ) → IsCarSwept g w now a q → IsCdrSwept g now new a q b r
        → FieldDone (with_sweep s now) (in_hand (with_sweep s new) b r) a q 1
    cdr_done now new b r car (inl kept) =
        next now 1 (omega arith) (car_swept now car) on.pair.0 (there_on now car ∙ on.pair.1) on.pair.2 new b r kept.0
        kept.1
    cdr_done now new b r car (inr last) = last_taken now new b r car last

    -- so that one is in hand then
    cdr_swept : (now new : Sweep) (b r : ℕ) → IsCarSwept g w now a q → IsCdrSwept g now new a q b r → IsOn new b r
    cdr_swept now new b r car cdr =
        let one = car_swept now car in
        let both = pair_more h a q its (with_sweep s now) d 1 one (omega arith) (in_hand (with_sweep s new) b r)
        (cdr_done now new b r car cdr) in
        let runs = pair_runs h a q its (in_hand (with_sweep s new) b r) d both in
        let same_next : start_in new.share b ≡ start_in now.share b =
        hand_same h (with_sweep s now) (with_sweep s new) a q 1 b r ready_on (hand_next (with_sweep s w) a q) one.done
        runs in
        let beside = next_beside g now new a q b r cdr in
        record {
          runs = runs_on (in_hand s first copy) h (in_hand (with_sweep s new) b r) on.runs runs;
          same = both.directory;
          thread = beside.thread ∙ on.thread;
          segment = beside.segment ∙ on.segment;
          pair = (beside.start, same_next ∙ beside.has, beside.pair);
          most = omega (arith, both.left, on.most);
        }

  -- so many pairs
  pub followed_on : (n : ℕ) (w : Sweep) (a q : ℕ) (new : Sweep) (b r : ℕ)
      → AreFollowed (IsCarSwept g) (IsCdrSwept g) n w a q new b r → IsOn w a q → IsOn new b r
  followed_on zero w a q new b r are on =
      subst (λ z. IsOn z b r) (sym are.0) (subst (λ z. IsOn w z r) (sym are.1) (subst (IsOn w a) (sym are.2) on))
  followed_on (suc n) w a q new b r are on =
      let before = followed_on n w a q are.0 are.1 are.2 are.4 on in
      cdr_swept are.0 are.1 are.2 before are.3 new b r are.5 are.6
