-- Pairs that a share copies in one go, and the sweeper's table.
use Rattle.std.proofs.Common.{◌≡◌, ℕ, zero, suc, ◌+◌, ◌*◌, ◌-◌, ◌/◌, ◌%◌, ◌^◌, ◌<◌, ◌≤◌, true, false, Bool, List, [], ◌∷◌, ◌++◌, length, get_or, set, drop, Option, IfSome, if◌then◌else◌, ◌==◌, Some, None, Result, Ok, Err, IfOk, refl, sym, ap, subst, ◌∙◌, inl, inr, arith}
use Rattle.std.proofs.lemmas.Bool.Decides.{nat_tests}
use Rattle.std.proofs.lemmas.List.{length-set, length_push, length-take-le, length-drop}
use Rattle.std.proofs.lemmas.Nat.{div-mul-add}
use Rattle.gc_words.specs.declared.value.Value.TheVariants.{Object}
use Rattle.gc_words.specs.declared.address.TheConstants.{SEGMENTS, OFFSETS}
use Rattle.gc_words.specs.Word.{value_of}
use Rattle.gc_words.specs.Layout.{offset_of, segment_of, thread_of}
use Rattle.segment.specs.Segments.{Start}
use Rattle.territory.specs.Following.{AreFollowed, IfSwept}
use Rattle.directory.specs.declared.table.FromSegment.{FromSegment}
use Rattle.directory.specs.Tables.{entry_at, word_at}
use Rattle.directory.specs.Directories.{DirectoryView, from_at, sweeper_count, with_offset, word_in, word_or_0}
use Rattle.sweep_model.specs.Hands.{IsAbsent}
use Rattle.sweep_share.specs.Shares.{ShareView}
use Rattle.sweep_share.specs.Following as share
use Rattle.sweep_share.specs.Following.{ShareTrail, share_trail}
use Rattle.sweep_places.specs.Places.{ArePlaces, IsOwnStart, PlacesView}
use Rattle.sweep_places.specs.Following.{CanReach, HasTrail, IsCarSwept, IsCdrSwept, IsOneSweep, IsReached, IsTaken, IsTrail, IsTrailEnd, Sweep, part_at, sweep_of, with_part}
use Rattle.sweep_places.proofs.Entries.{first_below, is_absent, is_zero, noted, zero_is}
use Rattle.sweep_places.proofs.Parts.{entry_is, entry_set, same_part}

-- what a word refers to lies at an even offset
even_place : (w b : ℕ) → value_of w ≡ Some (Object b) → b % 2 ≡ 0
unfolding value_of
even_place w b e = grind (arith, nat_tests)

even_offset : (b : ℕ) → b % 2 ≡ 0 → offset_of b % 2 ≡ 0
unfolding offset_of
even_offset b e = omega arith

offset_lies : (from : FromSegment) (offset : ℕ) → offset < from.size → with_offset (Some from) offset ≡ Some from
offset_lies from offset below = grind (arith, nat_tests, below)

-- what has a from-segment lies within its size
offset_below : (from found : FromSegment) (offset : ℕ) → with_offset (Some from) offset ≡ Some found → offset < from.size
offset_below from found offset e = grind (arith, nat_tests, e)

shared_word : (from : FromSegment) (offset : ℕ) → from.size ≡ 512 → word_at from offset ≡ from.first_word + offset / 2
shared_word from offset e = grind (arith, nat_tests, e)

-- the address at an offset of a segment
pub at_offset : ℕ → ℕ → ℕ
at_offset a offset = a / OFFSETS * OFFSETS + offset

thread_there : (a offset : ℕ) → offset < OFFSETS → thread_of (at_offset a offset) ≡ thread_of a
unfolding thread_of at_offset
thread_there a offset below = ap (λ n. n / SEGMENTS) (div-mul-add (a / OFFSETS) OFFSETS offset below)

segment_there : (a offset : ℕ) → offset < OFFSETS → segment_of (at_offset a offset) ≡ segment_of a
unfolding segment_of at_offset
segment_there a offset below = ap (λ n. n % SEGMENTS) (div-mul-add (a / OFFSETS) OFFSETS offset below)

offset_there : (a offset : ℕ) → offset < OFFSETS → offset_of (at_offset a offset) ≡ offset
unfolding offset_of at_offset
offset_there a offset below = omega arith

-- what a sweeper has where the share has this
abbrev pub sweep_in : DirectoryView → ℕ → ShareTrail → Sweep
sweep_in d number t = sweep_of t.share (record { number = number; directory = d; own = t.own; unswept = t.waiting })

-- What the share did from old to new is so for the sweeper, whose places were v, and whose table is `after` now: the trail
-- and its end; and on Err, too, what was followed, and then the table and the list of pairs say the same.
pub record IsTold (g : ℕ) (v : PlacesView) (d : DirectoryView) (number first : ℕ) (old : ShareTrail) (a q : ℕ) (new : ShareTrail)
    (after : List ℕ) : Type 0 where
  pub trail : (b r : ℕ) (car_swept : Bool) → share.IsTrail g old a q new b r car_swept
      → IsTrail g (sweep_of old.share v) a q (sweep_in d number new) b r car_swept
  pub ends : (b r : ℕ) (car_swept : Bool) → share.IsTrail g old a q new b r car_swept → share.IsTrailEnd new b car_swept
      → IsTrailEnd (sweep_in d number new) b car_swept
  pub anyhow : share.HasTrail g old a q new
      → HasTrail g (sweep_of old.share v) a q (sweep_in d number new) × ArePlaces d number first after new.own

module _ (d : DirectoryView) (number thread segment : ℕ) (from : FromSegment)
    (is_from : entry_at d.tables thread segment ≡ Some from) (shared : from.size ≡ 512)
    (its : thread % sweeper_count d ≡ number) where
  -- what is told of an address in it
  from_there : (b : ℕ) → thread_of b ≡ thread → segment_of b ≡ segment → from_at d b ≡ with_offset (Some from) (offset_of b)
  from_there b t s =
      ap (λ x. with_offset (entry_at d.tables x (segment_of b)) (offset_of b)) t
      ∙ (ap (λ x. with_offset (entry_at d.tables thread x) (offset_of b)) s
      ∙ ap (λ o. with_offset o (offset_of b)) is_from)

  lies : (b : ℕ) → thread_of b ≡ thread → segment_of b ≡ segment → offset_of b < 512 → from_at d b ≡ Some from
  lies b t s below = from_there b t s ∙ offset_lies from (offset_of b) (omega (arith, shared, below))

  -- what may start there lies in it
  start_below : (b : ℕ) → thread_of b ≡ thread → segment_of b ≡ segment → IsOwnStart d number b → offset_of b < 512
  start_below b t s own =
      omega (arith, shared, offset_below from own.start.from (offset_of b) (sym (from_there b t s) ∙ own.start.lies))

  -- an object may start at each even offset
  pub own_start : (b : ℕ) → thread_of b ≡ thread → segment_of b ≡ segment → offset_of b < 512 → offset_of b % 2 ≡ 0
      → IsOwnStart d number b
  own_start b t s below even = record {
    start = record { from = from; lies = lies b t s below; offset = inl (shared, even) };
    own = ap (λ x. x % sweeper_count d) t ∙ its;
  }

  -- ... and this is its word
  pub word_is : (b : ℕ) → thread_of b ≡ thread → segment_of b ≡ segment → offset_of b < 512
      → word_in d b ≡ from.first_word + offset_of b / 2
  word_is b t s below =
      ap (λ o. word_or_0 o (offset_of b)) (lies b t s below) ∙ shared_word from (offset_of b) shared

  -- all entries of the from-segment lie in the table
  pub part_inside : (first : ℕ) (table : List ℕ) (own : List (ℕ × ℕ)) (a : ℕ) → ArePlaces d number first table own
      → thread_of a ≡ thread → segment_of a ≡ segment
      → (first ≤ from.first_word) × (from.first_word + 256 ≤ first + length table)
  part_inside first table own a places t s =
      let own_there : (k : ℕ) → k < 512 → k % 2 ≡ 0 → IsOwnStart d number (at_offset a k) = λ k below even.
      own_start (at_offset a k) (thread_there a k (omega arith) ∙ t) (segment_there a k (omega arith) ∙ s)
      (omega (arith, offset_there a k (omega arith))) (ap (λ x. x % 2) (offset_there a k (omega arith)) ∙ even) in
      let word_there : (k : ℕ) → k < 512 → word_in d (at_offset a k) ≡ from.first_word + k / 2 = λ k below.
      word_is (at_offset a k) (thread_there a k (omega arith) ∙ t) (segment_there a k (omega arith) ∙ s)
      (omega (arith, offset_there a k (omega arith))) ∙ ap (λ x. from.first_word + x / 2) (offset_there a k (omega arith)) in
      let low = first_below d number first table own places (at_offset a 0) (own_there 0 (omega arith) refl) (at_offset a 0) (own_there 0 (omega arith) refl) in
      let high = first_below d number first table own places (at_offset a 510) (own_there 510 (omega arith) refl) (at_offset a 510) (own_there 510 (omega arith) refl) in
      (omega (arith, low.0, word_there 0 (omega arith)), omega (arith, high.1, word_there 510 (omega arith)))

  -- ---- from one state to the next

  module _ (first entry : ℕ) (table : List ℕ) (entry_at_is : first + entry ≡ from.first_word)
      (inside : entry + 256 ≤ length table) where
    abbrev sweep : ShareTrail → Sweep
    sweep = sweep_in d number

    -- the table and the list of pairs say the same, and the pair that is swept next lies in the from-segment
    pub record IsState (t : ShareTrail) (a : ℕ) : Type 0 where
      pub places : ArePlaces d number first (with_part table entry t.places) t.own
      pub size : length t.places ≡ 256
      pub its_thread : thread_of a ≡ thread
      pub its_segment : segment_of a ≡ segment

    -- the share's entry of a pair stands in the sweeper's table
    its_entry : (b : ℕ) → thread_of b ≡ thread → segment_of b ≡ segment → offset_of b < 512
        → word_in d b - first ≡ entry + offset_of b / 2
    its_entry b t s below = omega (arith, word_is b t s below, entry_at_is)

    -- ... with the same word
    same_word : (t : ShareTrail) (a b : ℕ) → IsState t a → thread_of b ≡ thread → segment_of b ≡ segment → offset_of b < 512
        → get_or (with_part table entry t.places) (word_in d b - first) 0 ≡ get_or t.places (offset_of b / 2) 0
    same_word t a b state th s below =
        ap (λ i. get_or (with_part table entry t.places) i 0) (its_entry b th s below)
        ∙ entry_is table t.places entry (offset_of b / 2) (omega arith) (omega (arith, below, state.size))

    -- a pair was reached and copied
    reached : (g : ℕ) (old new : ShareTrail) (a q index b r : ℕ) → IsState old a → length new.own < 2 ^ 64
        → share.IsReached g old new a q index b r → IsReached g (sweep old) (sweep new) a q index b r × IsState new b
    reached g old new a q index b r state few x =
        let t : thread_of b ≡ thread = x.thread ∙ state.its_thread in
        let s : segment_of b ≡ segment = x.segment ∙ state.its_segment in
        let start : IsOwnStart d number b = own_start b t s x.inside (even_offset b (even_place _ b x.refers)) in
        let e : word_in d b - first ≡ entry + offset_of b / 2 = its_entry b t s x.inside in
        let below : offset_of b / 2 < length old.places = omega (arith, x.inside, state.size) in
        let unplaced : get_or (with_part table entry old.places) (word_in d b - first) 0 ≡ 0 =
        same_word old a b state t s x.inside ∙ x.unplaced in
        let absent : IsAbsent old.own b =
        is_absent d number first (with_part table entry old.places) old.own state.places b start
        (λ p h. zero_is p (ap value_of (sym unplaced) ∙ h)) in
        let after : with_part table entry new.places ≡ set (with_part table entry old.places) (word_in d b - first) x.word =
        ap (with_part table entry) x.places
        ∙ (entry_set table old.places entry (offset_of b / 2) x.word (omega arith) below
        ∙ ap (λ i. set (with_part table entry old.places) i x.word) (sym e)) in (
          record {
            refers = x.refers;
            thread = x.thread;
            segment = x.segment;
            own = start;
            absent = absent;
            few = omega (arith, few, ap length x.own, length_push old.own (b, r));
            start = x.start;
            has = x.has;
            pair = x.pair;
            mid = x.mid;
            copied = x.copied;
            word = x.word;
            word_is = x.word_is;
            put = x.put;
          },
          record {
            places = subst (λ l. ArePlaces d number first l new.own) (sym after)
                (subst (ArePlaces d number first (set (with_part table entry old.places) (word_in d b - first) x.word)) (sym x.own)
                (noted d number first (with_part table entry old.places) old.own state.places b start r x.word absent x.word_is));
            size = ap length x.places ∙ (length-set old.places (offset_of b / 2) x.word ∙ state.size);
            its_thread = t;
            its_segment = s;
          },
        )

    -- the state of another pair of the from-segment
    moved : (t : ShareTrail) (a b : ℕ) → IsState t b → thread_of a ≡ thread → segment_of a ≡ segment → IsState t a
    moved t a b state th seg = record { places = state.places; size = state.size; its_thread = th; its_segment = seg }

    -- a list is no longer before a pair was put on
    longer : (g : ℕ) (old new : ShareTrail) (a q index b r : ℕ) → share.IsReached g old new a q index b r
        → length new.own ≡ length old.own + 1
    longer g old new a q index b r x = ap length x.own ∙ length_push old.own (b, r)

    -- ... and by a car or a cdr it gets no shorter
    car_longer : (g : ℕ) (old new : ShareTrail) (a q : ℕ) → share.IsCarSwept g old new a q → length old.own ≤ length new.own
    car_longer g old new a q (inl x) = omega (arith, ap (λ (t : ShareTrail). length t.own) x.1)
    car_longer g old new a q (inr x) = omega (arith, longer g old new a q 0 x.0 x.1 x.2)

    cdr_longer : (g : ℕ) (old new : ShareTrail) (a q b r : ℕ) → share.IsCdrSwept g old new a q b r
        → length old.own ≤ length new.own
    cdr_longer g old new a q b r (inl x) = omega (arith, longer g old new a q 1 b r x.0)
    cdr_longer g old new a q b r (inr x) = omega (arith, ap (λ (t : ShareTrail). length t.own) x.others)

    places_are : (old new : ShareTrail) (own waiting : List (ℕ × ℕ)) → new.own ≡ own → new.waiting ≡ waiting
        → (sweep new).places ≡ record (sweep old).places { own = own; unswept = waiting }
    places_are old new own waiting e f =
        ap (λ l. record { number = number; directory = d; own = l; unswept = new.waiting }) e
        ∙ ap (λ l. record { number = number; directory = d; own = own; unswept = l }) f

    -- the car was swept
    car : (g : ℕ) (old new : ShareTrail) (a q : ℕ) → IsState old a → length new.own < 2 ^ 64 → share.IsCarSwept g old new a q
        → IsCarSwept g (sweep old) (sweep new) a q × IsState new a
    car g old new a q state few (inl x) =
        (inl (x.0, ap sweep x.1), subst (λ t. IsState t a) (sym x.1) state)
    car g old new a q state few (inr x) =
        let done = reached g old new a q 0 x.0 x.1 state few x.2 in (
          inr (x.0, x.1, done.0, places_are old new (old.own ++ (x.0, x.1) ∷ []) (old.waiting ++ (x.0, x.1) ∷ []) x.2.own x.3),
          moved new a x.0 done.1 state.its_thread state.its_segment,
        )

    -- the pair that waited last was taken
    taken : (g : ℕ) (old new : ShareTrail) (a b r : ℕ) → IsState old a → share.IsTaken g old new a b r
        → IsTaken g (sweep old) (sweep new) a b r × IsState new b
    taken g old new a b r state x = (
      record {
        nothing = x.nothing;
        thread = x.thread;
        segment = x.segment;
        pair = x.pair;
        copy_thread = x.copy_thread;
        copy = x.copy;
        has = x.has;
        copy_pair = x.copy_pair;
        generation = x.generation;
        share = ap (λ (t : ShareTrail). t.share) x.others;
        unswept = x.waited;
        places = places_are old new old.own new.waiting (ap (λ (t : ShareTrail). t.own) x.others) refl;
      },
      subst (λ t. IsState t b) (sym x.others)
          (record {
            places = state.places;
            size = state.size;
            its_thread = x.thread ∙ state.its_thread;
            its_segment = x.segment ∙ state.its_segment;
          }),
    )

    -- the cdr was swept
    cdr : (g : ℕ) (old new : ShareTrail) (a q b r : ℕ) → IsState old a → length new.own < 2 ^ 64
        → share.IsCdrSwept g old new a q b r → IsCdrSwept g (sweep old) (sweep new) a q b r × IsState new b
    cdr g old new a q b r state few (inl x) =
        let done = reached g old new a q 1 b r state few x.0 in
        (inl (done.0, places_are old new (old.own ++ (b, r) ∷ []) old.waiting x.0.own x.1), done.1)
    cdr g old new a q b r state few (inr x) =
        let done = taken g old new a b r state x in (inr done.0, done.1)

    -- so many pairs were followed
    followed : (g n : ℕ) (old : ShareTrail) (a q : ℕ) (new : ShareTrail) (b r : ℕ) → IsState old a → length new.own < 2 ^ 64
        → AreFollowed (share.IsCarSwept g) (share.IsCdrSwept g) n old a q new b r
        → AreFollowed (IsCarSwept g) (IsCdrSwept g) n (sweep old) a q (sweep new) b r × IsState new b
    followed g zero old a q new b r state few x = (
      (ap sweep x.0, x.1, x.2),
      subst (λ t. IsState t b) (sym x.0)
          (moved old b a state (ap thread_of x.1 ∙ state.its_thread) (ap segment_of x.1 ∙ state.its_segment)),
    )
    followed g (suc n) old a q new b r state few (mid, c, p, now, before, car_swept, cdr_swept) =
        let last = cdr_longer g now new c p b r cdr_swept in
        let first_part = followed g n old a q mid c p state
        (omega (arith, few, last, car_longer g mid now c p car_swept)) before in
        let on = car g mid now c p first_part.1 (omega (arith, few, last)) car_swept in
        let end = cdr g now new c p b r on.1 few cdr_swept in
        ((sweep mid, c, p, sweep now, first_part.0, on.0, end.0), end.1)

    car_if : (g : ℕ) (car_swept : Bool) (old new : ShareTrail) (a q : ℕ) → IsState old a → length new.own < 2 ^ 64
        → IfSwept car_swept (share.IsCarSwept g) old new a q
        → IfSwept car_swept (IsCarSwept g) (sweep old) (sweep new) a q × IsState new a
    car_if g true old new a q state few x = car g old new a q state few x
    car_if g false old new a q state few x = (ap sweep x, subst (λ t. IsState t a) (sym x) state)

    car_if_longer : (g : ℕ) (car_swept : Bool) (old new : ShareTrail) (a q : ℕ)
        → IfSwept car_swept (share.IsCarSwept g) old new a q → length old.own ≤ length new.own
    car_if_longer g true old new a q x = car_longer g old new a q x
    car_if_longer g false old new a q x = omega (arith, ap (λ (t : ShareTrail). length t.own) x)

    -- pairs were followed
    trail_is : (g : ℕ) (old : ShareTrail) (a q : ℕ) (new : ShareTrail) (b r : ℕ) (car_swept : Bool) → IsState old a
        → length new.own < 2 ^ 64 → share.IsTrail g old a q new b r car_swept
        → IsTrail g (sweep old) a q (sweep new) b r car_swept × IsState new b
    trail_is g old a q new b r car_swept state few x =
        let before = followed g x.count old a q x.mid b r state
        (omega (arith, few, car_if_longer g car_swept x.mid new b r x.car)) x.followed in
        let end = car_if g car_swept x.mid new b r before.1 few x.car in
        (record { count = x.count; mid = sweep x.mid; followed = before.0; car = end.0 }, end.1)

    -- where the sweeper can go on, the share can
    can_reach : (t : ShareTrail) (a index : ℕ) → IsState t a → CanReach (sweep t) a index → share.CanReach t a index
    can_reach t a index state x =
        let b : ℕ = x.object in
        let th : thread_of b ≡ thread = x.unplaced.thread ∙ state.its_thread in
        let s : segment_of b ≡ segment = x.unplaced.segment ∙ state.its_segment in
        let inside : offset_of b < 512 = start_below b th s x.unplaced.own in
        record {
          object = b;
          unplaced = record {
            refers = x.unplaced.refers;
            segment = x.unplaced.segment;
            thread = x.unplaced.thread;
            inside = inside;
            unplaced = sym (same_word t a b state th s inside)
                ∙ is_zero d number first (with_part table entry t.places) t.own state.places b x.unplaced.own x.unplaced.absent;
            pair = x.unplaced.pair;
          };
        }

    -- it ends where the share ends
    end_is : (t : ShareTrail) (b : ℕ) (car_swept : Bool) → IsState t b → share.IsTrailEnd t b car_swept
        → IsTrailEnd (sweep t) b car_swept
    end_is t b true state none = λ x. none (can_reach t b 1 state x)
    end_is t b false state (c, refers, none) = (c, refers, λ x. none (can_reach t b 0 state x))

    -- what was followed, where a copy may have been refused
    any_trail : (g : ℕ) (old : ShareTrail) (a q : ℕ) (new : ShareTrail) → IsState old a → length new.own < 2 ^ 64
        → share.HasTrail g old a q new
        → HasTrail g (sweep old) a q (sweep new) × ArePlaces d number first (with_part table entry new.places) new.own
    any_trail g old a q new state few x =
        let all = trail_is g old a q x.mid x.object x.copy x.car_swept state (omega (arith, few, ap length x.left.own)) x.trail_is in (
          record {
            mid = sweep x.mid;
            object = x.object;
            copy = x.copy;
            car_swept = x.car_swept;
            trail_is = all.0;
            left = record {
              alike = x.left.alike;
              starts = x.left.starts;
              places = places_are x.mid new x.mid.own x.mid.waiting x.left.own x.left.waiting;
            };
          },
          subst (λ l. ArePlaces d number first (with_part table entry l) new.own) (sym x.left.places)
              (subst (ArePlaces d number first (with_part table entry x.mid.places)) (sym x.left.own) all.1.places),
        )

    -- all of it
    pub all_told : (g : ℕ) (old : ShareTrail) (a q : ℕ) (new : ShareTrail) → IsState old a → length new.own < 2 ^ 64
        → IsTold g (sweep old).places d number first old a q new (with_part table entry new.places)
    all_told g old a q new state few = record {
      trail = λ b r car_swept x. (trail_is g old a q new b r car_swept state few x).0;
      ends = λ b r car_swept x. end_is new b car_swept (trail_is g old a q new b r car_swept state few x).1;
      anyhow = any_trail g old a q new state few;
    }

-- ---- all that a call of the share's `follow` does

what_starts : (o : Option Start) (t n : ℕ) (x : Start) → (if t == n then o else None) ≡ Some x → t ≡ n
what_starts o t n x e = grind (arith, nat_tests, e)

pub if_some : (o : Option Start) (P : Start → Type 0) (x : Start) → o ≡ Some x → IfSome o P → P x
if_some None P x e h = absurd (let c : None ≡ Some x = e in cc)
if_some (Some y) P x e h = subst P (let c : Some y ≡ Some x = e in cc) h

pub ok_each : {T E : Type 0} (o : Result T E) (P Q R : T → Type 0) → ((x : T) → P x → Q x → R x) → IfOk o P → IfOk o Q
    → IfOk o R
ok_each (Ok x) P Q R f h i = f x h i
ok_each (Err e) P Q R f h i = tt

module _ (s : ShareView) (p v : PlacesView) (first : ℕ) (table : List ℕ) (a : ℕ) (from : FromSegment) (view : p ≡ v)
    (places : ArePlaces p.directory p.number first table p.own) (one : IsOneSweep s v)
    (is_from : entry_at v.directory.tables (thread_of a) (segment_of a) ≡ Some from) (shared : from.size ≡ 512)
    (pair : share.IsPairIn s a) where
  its_from : entry_at p.directory.tables (thread_of a) (segment_of a) ≡ Some from
  its_from = ap (λ (x : PlacesView). entry_at x.directory.tables (thread_of a) (segment_of a)) view ∙ is_from

  its_own : thread_of a % sweeper_count p.directory ≡ p.number
  its_own =
      ap (λ (x : PlacesView). thread_of a % sweeper_count x.directory) view
      ∙ (ap (λ n. thread_of a % n) one.sweepers
      ∙ (what_starts _ (thread_of a % s.sweepers) s.number pair.0 pair.1
      ∙ (sym one.number ∙ sym (ap (λ (x : PlacesView). x.number) view))))

  -- the entries of the from-segment lie in the table
  pub lies_inside : (first ≤ from.first_word) × (from.first_word + 256 ≤ first + length table)
  lies_inside =
      part_inside p.directory p.number (thread_of a) (segment_of a) from its_from shared its_own first table p.own a places refl refl

  abbrev entry : ℕ
  entry = from.first_word - first

  -- what the share did, said of the sweeper
  pub told : (g q : ℕ) (now : ShareView) (after : List ℕ) (own waiting : List (ℕ × ℕ))
      → after ≡ with_part table entry (part_at after entry) → length own < 2 ^ 64
      → IsTold g v p.directory p.number first (share_trail s (part_at table entry) p.own p.unswept) a q
      (share_trail now (part_at after entry) own waiting) after
  told g q now after own waiting around few =
      let old : ShareTrail = share_trail s (part_at table entry) p.own p.unswept in
      let new : ShareTrail = share_trail now (part_at after entry) own waiting in
      let at : first + entry ≡ from.first_word = omega (arith, lies_inside.0) in
      let inside : entry + 256 ≤ length table = omega (arith, lies_inside.0, lies_inside.1) in
      let all =
      all_told p.directory p.number (thread_of a) (segment_of a) from its_from shared its_own first entry table at inside g old a q new
      (record {
        places = subst (λ l. ArePlaces p.directory p.number first l p.own) (sym (same_part table entry)) places;
        size = length-take-le 256 (drop entry table) (omega (arith, length-drop entry table, inside));
        its_thread = refl;
        its_segment = refl;
      }) few in
      subst (λ y. IsTold g y p.directory p.number first old a q new after) view
      (subst (IsTold g p p.directory p.number first old a q new) (sym around) all)
