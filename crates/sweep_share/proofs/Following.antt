-- Pairs that are followed in one territory of a share.
use Rattle.std.proofs.Common.{◌≡◌, ℕ, zero, suc, ◌/◌, ◌%◌, ◌*◌, ◌+◌, ◌<◌, Bool, true, false, length, get_or, set, slice_index, Option, None, Some, IfSome, refl, sym, ap, subst, ◌∙◌, inl, inr, None, IsSome, if◌then◌else◌, ◌==◌, arith}
use Rattle.std.proofs.lemmas.Bool.{cases_eq}
use Rattle.std.proofs.lemmas.List.{get_or_read, length-set, set-get_or, set-set}
use Rattle.std.proofs.lemmas.Option.{same_Some}
use Rattle.std.specs.FinMap.{get}
use Rattle.gc_words.specs.declared.value.Value.TheVariants as value
use Rattle.gc_words.specs.Layout.{thread_of}
use Rattle.gc_words.specs.Word.{value_of}
use Rattle.gc_mail.specs.Recipients.{owner}
use Rattle.segment.specs.Segments.{Start}
use Rattle.territory.specs.Following as territory
use Rattle.territory.specs.Territories.{TerritoryView, no_territory, segment_at, words_of}
use Rattle.sweep_share.specs.Following as share
use Rattle.sweep_share.specs.Shares.{AreShareOf, IsAlike, IsCopied, IsPut, ShareView, is_from_one, start_in, territory_of}
use Rattle.sweep_share.proofs.Places.{if_there, own_of, own_start, read_is, some_start, thread_is}
use Rattle.sweep_share.proofs.Putting.{alike, index_is, index_other, is_put, with_territory}
use Rattle.sweep_share.proofs.Copying.{IsCopiedThere, is_copied}

-- ---- whatever is changed

-- Where each sweep, in states of which something is made, is a sweep in what is made of them, and Holds goes on to hold
-- of the state and of the pair that is swept next: then all of them are followed there.
module _ (S T : Type 0) (made : S → T) (Holds : S → ℕ → ℕ → Type 0)
    (Car : S → S → ℕ → ℕ → Type 0) (Cdr : S → S → ℕ → ℕ → ℕ → ℕ → Type 0)
    (CarMade : T → T → ℕ → ℕ → Type 0) (CdrMade : T → T → ℕ → ℕ → ℕ → ℕ → Type 0)
    (car : (old new : S) (a q : ℕ) → Holds old a q → Car old new a q → CarMade (made old) (made new) a q × Holds new a q)
    (cdr : (old new : S) (a q b r : ℕ) → Holds old a q → Cdr old new a q b r
    → CdrMade (made old) (made new) a q b r × Holds new b r) where
  are_followed : (n : ℕ) (old : S) (a q : ℕ) (new : S) (b r : ℕ) → Holds old a q
      → territory.AreFollowed Car Cdr n old a q new b r
      → territory.AreFollowed CarMade CdrMade n (made old) a q (made new) b r × Holds new b r
  are_followed zero old a q new b r holds h = (
    (ap made h.0, h.1, h.2),
    subst (λ z. Holds z b r) (sym h.0) (subst (λ z. Holds old z r) (sym h.1) (subst (Holds old a) (sym h.2) holds)),
  )
  are_followed (suc n) old a q new b r holds h =
      let before = are_followed n old a q h.0 h.1 h.2 holds h.4 in
      let first = car h.0 h.3 h.1 h.2 before.1 h.5 in
      let second = cdr h.3 new h.1 h.2 b r first.1 h.6 in
      ((made h.0, h.1, h.2, made h.3, before.0, first.0, second.0), second.1)

  if_swept : (swept : Bool) (old new : S) (b r : ℕ) → Holds old b r → territory.IfSwept swept Car old new b r
      → territory.IfSwept swept CarMade (made old) (made new) b r × Holds new b r
  if_swept true old new b r holds h = car old new b r holds h
  if_swept false old new b r holds h = (ap made h, subst (λ z. Holds z b r) (sym h) holds)

  is_followed_to : (old : S) (a q : ℕ) (new : S) (b r : ℕ) (swept : Bool) → Holds old a q
      → territory.IsFollowedTo Car Cdr old a q new b r swept
      → territory.IsFollowedTo CarMade CdrMade (made old) a q (made new) b r swept × Holds new b r
  is_followed_to old a q new b r swept holds h =
      let before = are_followed h.count old a q h.mid b r holds h.followed in
      let last = if_swept swept h.mid new b r before.1 h.car in (
        record { count = h.count; mid = made h.mid; followed = before.0; car = last.0 },
        last.1,
      )

-- ---- in a share

-- the territory, the pair that is swept and its copy are of this thread
record AreOfThread (thread : ℕ) (t : territory.Trail) (a q : ℕ) : Type 0 where
  pub territory : t.territory.thread ≡ thread
  pub object : thread_of a ≡ thread
  pub copy : thread_of q ≡ thread

module _ (s : ShareView) (i thread : ℕ) (all : AreShareOf s.number s.sweepers s.territories) (small : thread < 64)
    (index : i ≡ thread / s.sweepers) (within : i < length s.territories) (own : thread % s.sweepers ≡ s.number) where
  -- the share where its territory is as in this state
  abbrev shared : territory.Trail → share.ShareTrail
  shared t = share.share_trail (with_territory s i t.territory) t.places t.own t.waiting

  -- ... is a share again
  still_share : (t : TerritoryView) → t.thread ≡ thread → AreShareOf s.number s.sweepers (set s.territories i t)
  still_share t e = record {
    number_in = all.number_in;
    most = all.most;
    threads = λ j h. elim (cases_eq j i) [
      | inl same ↦
          let some : 0 < s.sweepers = omega (arith, all.number_in) in
          let divided : thread ≡ s.number + thread / s.sweepers * s.sweepers = omega (arith, own, some) in
          ap (λ (z : TerritoryView). z.thread) (index_is s i t within j same)
          ∙ (e ∙ (divided ∙ ap (λ n. s.number + n * s.sweepers) (sym (same ∙ index))))
      | inr ne ↦ ap (λ (z : TerritoryView). z.thread) (index_other s i t within j ne)
          ∙ all.threads j (omega (arith, h, length-set s.territories i t))
    ];
    covers = λ m low is. omega (arith, all.covers m low is, length-set s.territories i t);
  }

  index_of_own : (a : ℕ) → thread_of a ≡ thread → i ≡ thread_of a / s.sweepers
  index_of_own a e = index ∙ ap (λ n. n / s.sweepers) (sym e)

  owned : (a : ℕ) → thread_of a ≡ thread → owner s.sweepers a ≡ s.number
  owned a e = ap (λ n. n % s.sweepers) e ∙ own

  there : (t : TerritoryView) (a : ℕ) → thread_of a ≡ thread → t ≡ territory_of (with_territory s i t) a
  there t a e = sym (index_is s i t within (thread_of a / s.sweepers) (sym (index_of_own a e)))

  -- the share has what the territory has
  start_there : (t : TerritoryView) (a : ℕ) → thread_of a ≡ thread → start_in (with_territory s i t) a ≡ get t.starts a
  start_there t a e =
      own_start (with_territory s i t) a (owned a e) ∙ ap (λ (z : TerritoryView). get z.starts a) (sym (there t a e))

  twice : (t u : TerritoryView) → with_territory (with_territory s i t) i u ≡ with_territory s i u
  twice t u = ap (λ l. record s { territories = l }) (set-set s.territories i t u)

  within_changed : (t : TerritoryView) → i < length (set s.territories i t)
  within_changed t = omega (arith, within, length-set s.territories i t)

  copied_there : (old new : TerritoryView) (b g r : ℕ) (start x : Start) → territory.IsCopyOf old new b g r start
      → get old.starts b ≡ Some start → get old.starts b ≡ Some x → IsCopiedThere old new b g r x
  copied_there old new b g r start x h has found =
      subst (IsCopiedThere old new b g r) (same_Some start x (sym has ∙ found)) (record {
        address = h.address;
        in_thread = h.thread_is;
        free = h.free;
        starts = h.starts;
        placed = h.placed;
        sound = h.sound;
        thread = h.thread;
        targets = h.targets;
      })

  -- a pair that is reached in the territory is reached in the share
  reached : (g : ℕ) (old new : territory.Trail) (a q field b r : ℕ) → AreOfThread thread old a q
      → territory.IsReached g old new a q field b r → share.IsReached g (shared old) (shared new) a q field b r
  reached g old new a q field b r holds h =
      let thread_b : thread_of b ≡ thread = h.thread ∙ holds.territory in record {
        refers = subst (λ o. value_of (slice_index (words_of o) field) ≡ Some (value.Object b))
            (sym (start_there old.territory a holds.object)) h.refers;
        segment = h.segment;
        thread = thread_b ∙ sym holds.object;
        inside = h.inside;
        unplaced = h.unplaced;
        start = h.start;
        has = start_there old.territory b thread_b ∙ h.has;
        pair = h.pair;
        mid = with_territory s i h.mid;
        copied = subst (λ z. IsCopied (with_territory s i old.territory) z b g r) (twice old.territory h.mid)
            (is_copied (with_territory s i old.territory) b i g r old.territory h.mid
            (still_share old.territory holds.territory) (subst (λ n. n < 64) (sym thread_b) small)
            (index_of_own b thread_b) (within_changed old.territory) (owned b thread_b)
            (there old.territory b thread_b)
            (λ x found. copied_there old.territory h.mid b g r h.start x h.copied h.has found) h.start h.has);
        word = h.word;
        word_is = h.word_is;
        put = subst (λ z. IsPut (with_territory s i h.mid) z q field h.word g) (twice h.mid new.territory)
            (is_put (with_territory s i h.mid) q i field h.word g h.mid new.territory (index_of_own q holds.copy)
            (within_changed h.mid) (owned q holds.copy) (there h.mid q holds.copy) h.put.after h.put.sound);
        places = h.places;
        own = h.own;
      }

  thread_stays : (g : ℕ) (old new : territory.Trail) (a q field b r : ℕ)
      → territory.IsReached g old new a q field b r → new.territory.thread ≡ old.territory.thread
  thread_stays g old new a q field b r h = ap (λ (z : TerritoryView). z.thread) h.put.after ∙ h.copied.thread

  car_swept : (g : ℕ) (old new : territory.Trail) (a q : ℕ) → AreOfThread thread old a q
      → territory.IsCarSwept g old new a q
      → share.IsCarSwept g (shared old) (shared new) a q × AreOfThread thread new a q
  car_swept g old new a q holds (inl h) = (
    inl (
      λ b refers. h.0 b (subst (λ o. value_of (slice_index (words_of o) 0) ≡ Some (value.Object b))
          (start_there old.territory a holds.object) refers),
      ap shared h.1,
    ),
    subst (λ z. AreOfThread thread z a q) (sym h.1) holds,
  )
  car_swept g old new a q holds (inr h) = (
    inr (h.0, h.1, reached g old new a q 0 h.0 h.1 holds h.2, h.3),
    record {
      territory = thread_stays g old new a q 0 h.0 h.1 h.2 ∙ holds.territory;
      object = holds.object;
      copy = holds.copy;
    },
  )

  -- a pair that is taken in the territory is taken in the share
  taken : (g : ℕ) (old new : territory.Trail) (a q b r : ℕ) → AreOfThread thread old a q
      → territory.IsTaken g old new a b r → share.IsTaken g (shared old) (shared new) a b r
  taken g old new a q b r holds h =
      let thread_b : thread_of b ≡ thread = h.thread ∙ holds.territory in
      let thread_r : thread_of r ≡ thread = h.copy_thread ∙ holds.territory in record {
        nothing = λ c refers. h.nothing c (subst (λ o. value_of (slice_index (words_of o) 1) ≡ Some (value.Object c))
            (start_there old.territory a holds.object) refers);
        segment = h.segment;
        thread = thread_b ∙ sym holds.object;
        pair = (h.pair.0, start_there old.territory b thread_b ∙ h.pair.1, h.pair.2);
        copy_thread = thread_r ∙ sym holds.object;
        copy = h.copy;
        has = start_there old.territory r thread_r ∙ h.has;
        copy_pair = h.copy_pair;
        generation = h.generation;
        waited = h.waited;
        others = ap shared h.others;
      }

  cdr_swept : (g : ℕ) (old new : territory.Trail) (a q b r : ℕ) → AreOfThread thread old a q
      → territory.IsCdrSwept g old new a q b r
      → share.IsCdrSwept g (shared old) (shared new) a q b r × AreOfThread thread new b r
  cdr_swept g old new a q b r holds (inl h) = (
    inl (reached g old new a q 1 b r holds h.0, h.1),
    record {
      territory = thread_stays g old new a q 1 b r h.0 ∙ holds.territory;
      object = h.0.thread ∙ holds.territory;
      copy = h.0.copied.thread_is ∙ holds.territory;
    },
  )
  cdr_swept g old new a q b r holds (inr h) = (
    inr (taken g old new a q b r holds h),
    record {
      territory = ap (λ (t : territory.Trail). t.territory.thread) h.others ∙ holds.territory;
      object = h.thread ∙ holds.territory;
      copy = h.copy_thread ∙ holds.territory;
    },
  )

  -- what is followed in the territory is followed in the share
  is_trail : (g : ℕ) (old : territory.Trail) (a q : ℕ) (new : territory.Trail) (b r : ℕ) (swept : Bool)
      → AreOfThread thread old a q → territory.IsTrail g old a q new b r swept
      → share.IsTrail g (shared old) a q (shared new) b r swept × AreOfThread thread new b r
  is_trail g =
      is_followed_to territory.Trail share.ShareTrail shared (AreOfThread thread) (territory.IsCarSwept g)
      (territory.IsCdrSwept g) (share.IsCarSwept g) (share.IsCdrSwept g) (car_swept g) (cdr_swept g)

  -- ---- how far it goes

  reach_there : (t : territory.Trail) (a q index : ℕ) → AreOfThread thread t a q → share.CanReach (shared t) a index
      → territory.CanReach t a index
  reach_there t a q index holds h =
      let b : ℕ = h.object in
      let thread_b : thread_of b ≡ thread = h.unplaced.thread ∙ holds.object in record {
        object = b;
        unplaced = record {
          refers = subst (λ o. value_of (slice_index (words_of o) index) ≡ Some (value.Object b))
              (start_there t.territory a holds.object) h.unplaced.refers;
          segment = h.unplaced.segment;
          thread = thread_b ∙ sym holds.territory;
          inside = h.unplaced.inside;
          unplaced = h.unplaced.unplaced;
          pair = (
            h.unplaced.pair.0,
            sym (start_there t.territory b thread_b) ∙ h.unplaced.pair.1,
            h.unplaced.pair.2,
          );
        };
      }

  -- where it ends in the territory it ends in the share
  is_end : (t : territory.Trail) (b r : ℕ) (swept : Bool) → AreOfThread thread t b r → territory.IsTrailEnd t b swept
      → share.IsTrailEnd (shared t) b swept
  is_end t b r true holds h = λ can. h (reach_there t b r 1 holds can)
  is_end t b r false holds h = (
    h.0,
    subst (λ o. value_of (slice_index (words_of o) 0) ≡ Some (value.Object h.0))
        (sym (start_there t.territory b holds.object)) h.1,
    λ can. h.2 (reach_there t b r 0 holds can),
  )

  -- ---- where memory is refused

  starts_as_before : (old new : TerritoryView) (a : ℕ) → new.starts ≡ old.starts
      → start_in (with_territory s i new) a ≡ start_in (with_territory s i old) a
  starts_as_before old new a same =
      ap (λ o. if owner s.sweepers a == s.number then o else None) (elim (cases_eq (thread_of a / s.sweepers) i) [
        | inl e ↦ ap (λ (z : TerritoryView). get z.starts a) (index_is s i new within (thread_of a / s.sweepers) e)
            ∙ (ap (λ m. get m a) same
            ∙ sym (ap (λ (z : TerritoryView). get z.starts a) (index_is s i old within (thread_of a / s.sweepers) e)))
        | inr ne ↦ ap (λ (z : TerritoryView). get z.starts a) (index_other s i new within (thread_of a / s.sweepers) ne
            ∙ sym (index_other s i old within (thread_of a / s.sweepers) ne))
      ])

  is_left : (old new : territory.Trail) → territory.IsLeft old new → share.IsLeft (shared old) (shared new)
  is_left old new h =
      let at : get_or (set s.territories i old.territory) i (no_territory 0) ≡ old.territory =
      index_is s i old.territory within i refl in record {
        alike = subst (IsAlike (with_territory s i old.territory)) (twice old.territory new.territory)
            (alike (with_territory s i old.territory) i new.territory (within_changed old.territory) (record {
              thread = h.thread ∙ ap (λ (z : TerritoryView). z.thread) (sym at);
              targets = h.targets ∙ ap (λ (z : TerritoryView). z.targets) (sym at);
              aside = λ n. ap is_from_one (h.as_before.segments n)
                  ∙ ap (λ (z : TerritoryView). is_from_one (segment_at z n)) (sym at);
            }));
        starts = λ a. starts_as_before old.territory new.territory a h.as_before.starts;
        places = h.places;
        own = h.own;
        waiting = h.waiting;
      }

  -- what is followed in the territory until memory is refused is followed in the share
  has_trail : (g : ℕ) (old : territory.Trail) (a q : ℕ) (new : territory.Trail) → AreOfThread thread old a q
      → territory.HasTrail g old a q new
      → share.HasTrail g (shared old) a q (shared new) × (new.territory.thread ≡ thread)
  has_trail g old a q new holds h =
      let done = is_trail g old a q h.mid h.object h.copy h.car_swept holds h.trail_is in (
        record {
          mid = shared h.mid;
          object = h.object;
          copy = h.copy;
          car_swept = h.car_swept;
          trail_is = done.0;
          left = is_left h.mid new h.left;
        },
        h.left.thread ∙ done.1.territory,
      )

-- the share where its territory is as it was
same_share : (s : ShareView) (i : ℕ) (t : TerritoryView) → t ≡ get_or s.territories i (no_territory 0)
    → with_territory s i t ≡ s
same_share s i t is =
    ap (with_territory s i) is ∙ ap (λ l. record s { territories = l }) (set-get_or s.territories i (no_territory 0))

if_so : (o : Option Start) (P Q : Start → Type 0) → ((y : Start) → P y → Q y) → IfSome o P → IfSome o Q
if_so None P Q each h = h
if_so (Some y) P Q each h = each y h

-- the territory at index i, which is that of a and of its copy q, follows pairs
module _ (s : ShareView) (i a q : ℕ) (old new : territory.Trail)
    (all : AreShareOf s.number s.sweepers s.territories) (small : thread_of a < 64) (index : i ≡ thread_of a / s.sweepers)
    (within : i < length s.territories) (own : owner s.sweepers a ≡ s.number) (thread : thread_of q ≡ thread_of a)
    (read : old.territory ≡ get_or s.territories i old.territory) where
  unchanged : with_territory s i old.territory ≡ s
  unchanged = same_share s i old.territory (get_or_read s.territories i old.territory within read (no_territory 0))

  holds : AreOfThread (thread_of a) old a q
  holds = record {
    territory = ap (λ (z : TerritoryView). z.thread) (read_is s a i old.territory index within read)
        ∙ thread_is s a all small own;
    object = refl;
    copy = thread;
  }

  start_is : start_in s q ≡ get old.territory.starts q
  start_is = subst (λ z. start_in z q ≡ get old.territory.starts q) unchanged
      (start_there s i (thread_of a) all small index within own old.territory q thread)

  -- what holds of the copy and of the share where its territory is as it was, holds of the share
  in_share : (P : Start → Type 0) (Q : Start → ShareView → Type 0) → ((y : Start) → P y → Q y (with_territory s i old.territory))
      → IfSome (get old.territory.starts q) P → IfSome (start_in s q) (λ y. Q y s)
  in_share P Q each h =
      subst (λ o. IfSome o (λ y. Q y s)) (sym start_is)
      (if_so (get old.territory.starts q) P (λ y. Q y s) (λ y p. subst (Q y) unchanged (each y p)) h)

  -- ... so they are followed in the share
  followed_there : (b r : ℕ) (swept : Bool)
      → IfSome (get old.territory.starts q) (λ y. territory.IsTrail y.generation old a q new b r swept)
      → IfSome (start_in s q) (λ y. share.IsTrail y.generation (share.share_trail s old.places old.own old.waiting) a q
      (share.share_trail (with_territory s i new.territory) new.places new.own new.waiting) b r swept)
  followed_there b r swept =
      in_share (λ y. territory.IsTrail y.generation old a q new b r swept)
      (λ y z. share.IsTrail y.generation (share.share_trail z old.places old.own old.waiting) a q
      (share.share_trail (with_territory s i new.territory) new.places new.own new.waiting) b r swept)
      (λ y h. (is_trail s i (thread_of a) all small index within own y.generation old a q new b r swept holds h).0)

  -- ... and memory is refused there
  left_there : IfSome (get old.territory.starts q) (λ y. territory.HasTrail y.generation old a q new)
      → IfSome (start_in s q) (λ y. share.HasTrail y.generation (share.share_trail s old.places old.own old.waiting) a q
      (share.share_trail (with_territory s i new.territory) new.places new.own new.waiting))
  left_there =
      in_share (λ y. territory.HasTrail y.generation old a q new)
      (λ y z. share.HasTrail y.generation (share.share_trail z old.places old.own old.waiting) a q
      (share.share_trail (with_territory s i new.territory) new.places new.own new.waiting))
      (λ y h. (has_trail s i (thread_of a) all small index within own y.generation old a q new holds h).0)

  -- a copy starts in the territory
  copy_there : IsSome (start_in s q) → (y : Start) × (get old.territory.starts q ≡ Some y)
  copy_there some = some_start (get old.territory.starts q) (subst IsSome start_is some)

  -- they end there
  ends_there : (b r : ℕ) (swept : Bool) → IsSome (start_in s q)
      → IfSome (get old.territory.starts q) (λ y. territory.IsTrail y.generation old a q new b r swept)
      → territory.IsTrailEnd new b swept
      → share.IsTrailEnd (share.share_trail (with_territory s i new.territory) new.places new.own new.waiting) b swept
  ends_there b r swept some trail end =
      let y = copy_there some in
      is_end s i (thread_of a) all small index within own new b r swept
      (is_trail s i (thread_of a) all small index within own y.0.generation old a q new b r swept holds
      (if_there (get old.territory.starts q) (λ y. territory.IsTrail y.generation old a q new b r swept) y.0 y.1 trail)).1 end

  -- the words of the pair at which they end are told
  words_there : (b r car cdr : ℕ) (swept : Bool) → IsSome (start_in s q)
      → IfSome (get old.territory.starts q) (λ y. territory.IsTrail y.generation old a q new b r swept)
      → territory.AreItsWords new.territory b car cdr → share.AreItsWords (with_territory s i new.territory) b car cdr
  words_there b r car cdr swept some trail words =
      let y = copy_there some in
      let end : AreOfThread (thread_of a) new b r =
      (is_trail s i (thread_of a) all small index within own y.0.generation old a q new b r swept holds
      (if_there (get old.territory.starts q) (λ y. territory.IsTrail y.generation old a q new b r swept) y.0 y.1 trail)).1 in
      subst (λ o. (car ≡ slice_index (words_of o) 0) × (cdr ≡ slice_index (words_of o) 1))
      (sym (start_there s i (thread_of a) all small index within own new.territory b end.object)) words

  -- it is a share again
  share_after : IsSome (start_in s q)
      → IfSome (get old.territory.starts q) (λ y. territory.HasTrail y.generation old a q new)
      → AreShareOf s.number s.sweepers (set s.territories i new.territory)
  share_after some anyhow =
      let y = copy_there some in
      still_share s i (thread_of a) all small index within own new.territory
      (has_trail s i (thread_of a) all small index within own y.0.generation old a q new holds
      (if_there (get old.territory.starts q) (λ y. territory.HasTrail y.generation old a q new) y.0 y.1 anyhow)).1

-- where the fields of the struct show the share
module _ (p s : ShareView) (view : p ≡ s) (i a q : ℕ) (old new : territory.Trail) (all : AreShareOf p.number p.sweepers p.territories)
    (small : thread_of a < 64) (index : i ≡ thread_of a / s.sweepers) (within : i < length s.territories)
    (object : share.IsPairIn s a) (copy : share.IsPairIn s q) (thread : thread_of q ≡ thread_of a)
    (read : old.territory ≡ get_or p.territories i old.territory) where
  its_all : AreShareOf s.number s.sweepers s.territories
  its_all = subst (λ (z : ShareView). AreShareOf z.number z.sweepers z.territories) view all

  its_read : old.territory ≡ get_or s.territories i old.territory
  its_read = subst (λ (z : ShareView). old.territory ≡ get_or z.territories i old.territory) view read

  its_owner : owner s.sweepers a ≡ s.number
  its_owner = own_of s a (subst IsSome (sym object.1) refl)

  its_copy : IsSome (start_in s q)
  its_copy = subst IsSome (sym copy.1) refl

  pub shown_share : IfSome (get old.territory.starts q) (λ y. territory.HasTrail y.generation old a q new)
      → AreShareOf p.number p.sweepers (set p.territories i new.territory)
  shown_share anyhow =
      subst (λ (z : ShareView). AreShareOf z.number z.sweepers (set z.territories i new.territory)) (sym view)
      (share_after s i a q old new its_all small index within its_owner thread its_read its_copy anyhow)

  pub shown_left : IfSome (get old.territory.starts q) (λ y. territory.HasTrail y.generation old a q new)
      → IfSome (start_in s q) (λ y. share.HasTrail y.generation (share.share_trail s old.places old.own old.waiting) a q
      (share.share_trail (with_territory p i new.territory) new.places new.own new.waiting))
  shown_left anyhow =
      subst (λ (z : ShareView). IfSome (start_in s q) (λ y. share.HasTrail y.generation
      (share.share_trail s old.places old.own old.waiting) a q
      (share.share_trail (with_territory z i new.territory) new.places new.own new.waiting))) (sym view)
      (left_there s i a q old new its_all small index within its_owner thread its_read anyhow)

  pub shown_trail : (b r : ℕ) (swept : Bool)
      → IfSome (get old.territory.starts q) (λ y. territory.IsTrail y.generation old a q new b r swept)
      → IfSome (start_in s q) (λ y. share.IsTrail y.generation (share.share_trail s old.places old.own old.waiting) a q
      (share.share_trail (with_territory p i new.territory) new.places new.own new.waiting) b r swept)
  shown_trail b r swept trail =
      subst (λ (z : ShareView). IfSome (start_in s q) (λ y. share.IsTrail y.generation
      (share.share_trail s old.places old.own old.waiting) a q
      (share.share_trail (with_territory z i new.territory) new.places new.own new.waiting) b r swept)) (sym view)
      (followed_there s i a q old new its_all small index within its_owner thread its_read b r swept trail)

  pub shown_end : (b r : ℕ) (swept : Bool)
      → IfSome (get old.territory.starts q) (λ y. territory.IsTrail y.generation old a q new b r swept)
      → territory.IsTrailEnd new b swept
      → share.IsTrailEnd (share.share_trail (with_territory p i new.territory) new.places new.own new.waiting) b swept
  shown_end b r swept trail end =
      subst (λ (z : ShareView). share.IsTrailEnd
      (share.share_trail (with_territory z i new.territory) new.places new.own new.waiting) b swept) (sym view)
      (ends_there s i a q old new its_all small index within its_owner thread its_read b r swept its_copy trail end)

  pub shown_words : (b r car cdr : ℕ) (swept : Bool)
      → IfSome (get old.territory.starts q) (λ y. territory.IsTrail y.generation old a q new b r swept)
      → territory.AreItsWords new.territory b car cdr → share.AreItsWords (with_territory p i new.territory) b car cdr
  shown_words b r car cdr swept trail words =
      subst (λ (z : ShareView). share.AreItsWords (with_territory z i new.territory) b car cdr) (sym view)
      (words_there s i a q old new its_all small index within its_owner thread its_read b r car cdr swept its_copy trail words)
