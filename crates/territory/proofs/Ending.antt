-- Runs of pairs that are joined, and what stays as it is along a run.
use Rattle.std.proofs.Common.{IfNone, is_some, ◌≡◌, ◌≢◌, ℕ, zero, suc, ◌/◌, ◌<◌, ◌≤◌, Bool, true, false, List, [], ◌∷◌, length, get_or, set, Option, Some, None, IsSome, IfSome, refl, sym, ◌∙◌, ap, subst, arith, inl, inr, ◌++◌}
use Rattle.std.proofs.lemmas.Bool.{cases_eq}
use Rattle.std.specs.FinMap.{FinMap, get, insert}
use Rattle.std.specs.Ordering.{nat_cmp}
use Rattle.gc_words.specs.declared.value.Value.TheVariants as value
use Rattle.gc_words.specs.Layout.{offset_of, IsAddress, thread_of, segment_of}
use Rattle.gc_words.specs.Word.{value_of}
use Rattle.trace_types.specs.declared.kind.Kind.TheVariants.{Pair}
use Rattle.segment.specs.Layout.{words_after}
use Rattle.segment.specs.Segments.{Start}
use Rattle.territory.specs.declared.territory.Targets.{Targets}
use Rattle.territory.specs.Copies.{copy_in, IsPlacedLike, RefersToNoneBelow}
use Rattle.territory.specs.Territories.{IsShaped, TerritoryView, put_start, words_of, AreCardsSound}
use Rattle.territory.specs.Pools.{IsSettled, PoolView, territory_view}
use Rattle.territory.specs.Following.{HasTrail, IsLeft, word_at, CanReach, IsTrailEnd, AreFollowed, IsCarSwept, IsCdrSwept, IsCopyOf, IsPairAt, IsReached, IsSweptNow, IsTaken, IsTrail, IsWordPut, Trail, RefersToUnplaced, trail}
use Rattle.territory.proofs.Present.{present}
use Rattle.territory.proofs.Trailing.{trail_none}
use Rattle.territory.proofs.Slots.{get_here, get_other}
use Rattle.territory.proofs.Reading.{all_shaped, if_some}

-- ---- a pair and its words

pub pair_some : (t : TerritoryView) (a : ℕ) → IsPairAt t a → IsSome (get t.starts a)
pair_some t a (x, has, kind) = subst IsSome (sym has) refl

two_words : (x : Start) → IsShaped x → x.kind ≡ Pair → length x.words ≡ 2
two_words x s e = s.its_words ∙ ap (λ k. words_after k x.length) e

-- a pair has two words
pub pair_index : (thread : ℕ) (pool : PoolView) (targets : Targets) (now : TerritoryView) (a index : ℕ) → IsSettled pool → territory_view thread pool targets ≡ now → IsPairAt now a → index < 2 → index < length (words_of (get now.starts a))
pair_index thread pool targets now a index s e (x, has, kind) i =
    subst (λ o. index < length (words_of o)) (sym has) (omega (arith, two_words x (all_shaped thread pool targets now s e a x has) kind))

-- a pair of a territory is of its thread
pub pair_thread : (thread : ℕ) (pool : PoolView) (targets : Targets) (now : TerritoryView) (a : ℕ) → IsSettled pool → territory_view thread pool targets ≡ now → IsPairAt now a → thread_of a ≡ now.thread
pair_thread thread pool targets now a s e (x, has, kind) =
    (present thread pool a x s (ap (λ (v : TerritoryView). get v.starts a) e ∙ has)).thread_is ∙ ap (λ (v : TerritoryView). v.thread) e

-- ---- pairs that stay

-- a pair of a generation starts there
pub record HasPair (g : ℕ) (t : TerritoryView) (a : ℕ) : Type 0 where
  pub start : Start
  pub has : get t.starts a ≡ Some start
  pub pair : start.kind ≡ Pair
  pub generation : start.generation ≡ g

pub at_pair : (g : ℕ) (t : TerritoryView) (a : ℕ) → HasPair g t a → IsPairAt t a
at_pair g t a h = (h.start, h.has, h.pair)

pub pair_at : (t : TerritoryView) (a : ℕ) → IsPairAt t a → (g : ℕ) × HasPair g t a
pair_at t a (x, has, kind) = (x.generation, record { start = x; has = has; pair = kind; generation = refl })

pair_moved : (g : ℕ) (s t : TerritoryView) (a : ℕ) → get t.starts a ≡ get s.starts a → HasPair g s a → HasPair g t a
pair_moved g s t a e h = record { start = h.start; has = e ∙ h.has; pair = h.pair; generation = h.generation }

-- with another word, a pair is still one
put_pair : (m : FinMap nat_cmp Start) (q index word a : ℕ) (o : Option Start) (y : Start) → get m q ≡ o → get m a ≡ Some y → y.kind ≡ Pair
    → (z : Start) × (get (put_start m q o index word) a ≡ Some z) × (z.kind ≡ Pair) × (z.generation ≡ y.generation)
put_pair m q index word a None y e has kind = (y, has, kind, refl)
put_pair m q index word a (Some x) y e has kind =
    let x' : Start = record x { words = set x.words index word } in
    elim (cases_eq a q) [
      | inl same ↦
          let both : Some x ≡ Some y = sym e ∙ (ap (get m) (sym same) ∙ has) in
          let is : x ≡ y = subst (λ o. IfSome o (λ v. x ≡ v)) both refl in
          (x', ap (get (insert m q x')) same ∙ get_here m q x', ap (λ (v : Start). v.kind) is ∙ kind, ap (λ (v : Start). v.generation) is)
      | inr ne ↦ (y, get_other m q x' a ne ∙ has, kind, refl)
    ]

-- what starts where something is copied to did not before
pub not_free : (m : FinMap nat_cmp Start) (r c : ℕ) (y : Start) → get m r ≡ None → get m c ≡ Some y → c ≢ r
not_free m r c y free has = λ e. let bad : None ≡ Some y = sym free ∙ (ap (get m) (sym e) ∙ has) in grind (arith, bad)

pub put_kept : (old new : TerritoryView) (q index word g h c : ℕ) → IsWordPut old new q index word g → HasPair h old c → HasPair h new c
put_kept old new q index word g h c x p =
    let put = put_pair old.starts q index word c (get old.starts q) p.start refl p.has p.pair in
    record { start = put.0; has = ap (λ (v : TerritoryView). get v.starts c) x.after ∙ put.1; pair = put.2; generation = put.3 ∙ p.generation }

pub copied_start : (old new : TerritoryView) (b g r c : ℕ) (x y : Start) → IsCopyOf old new b g r x → get old.starts c ≡ Some y → get new.starts c ≡ Some y
copied_start old new b g r c x y i has =
    ap (λ m. get m c) i.starts ∙ (get_other old.starts r (copy_in g x) c (not_free old.starts r c y i.free has) ∙ has)

pub copied_kept : (old new : TerritoryView) (b g r h c : ℕ) (x : Start) → IsCopyOf old new b g r x → HasPair h old c → HasPair h new c
copied_kept old new b g r h c x i p =
    record { start = p.start; has = copied_start old new b g r c x p.start i p.has; pair = p.pair; generation = p.generation }

pub copied_new : (old new : TerritoryView) (b g r : ℕ) (x : Start) → IsCopyOf old new b g r x → x.kind ≡ Pair → HasPair g new r
copied_new old new b g r x i kind =
    record { start = copy_in g x; has = ap (λ m. get m r) i.starts ∙ get_here old.starts r (copy_in g x); pair = kind; generation = refl }

reached_kept : (g : ℕ) (s t : Trail) (a q index b r h c : ℕ) → IsReached g s t a q index b r → HasPair h s.territory c → HasPair h t.territory c
reached_kept g s t a q index b r h c x p =
    put_kept x.mid t.territory q index x.word g h c x.put (copied_kept s.territory x.mid b g r h c x.start x.copied p)

reached_new : (g : ℕ) (s t : Trail) (a q index b r : ℕ) → IsReached g s t a q index b r → HasPair g t.territory r
reached_new g s t a q index b r x =
    put_kept x.mid t.territory q index x.word g g r x.put (copied_new s.territory x.mid b g r x.start x.copied x.pair)

pair_kept : (g : ℕ) (s t : Trail) (a q index b r c : ℕ) → IsReached g s t a q index b r → IsPairAt s.territory c → IsPairAt t.territory c
pair_kept g s t a q index b r c x at_c =
    let p = pair_at s.territory c at_c in at_pair p.0 t.territory c (reached_kept g s t a q index b r p.0 c x p.1)

-- ---- how many places are not known

abbrev pub zeros : List ℕ → ℕ
zeros [] = 0
zeros (zero ∷ xs) = suc (zeros xs)
zeros (suc n ∷ xs) = zeros xs

zeros_kept : (xs : List ℕ) (k w : ℕ) → (w ≡ 0 → ⊥) → zeros (set xs k w) ≤ zeros xs
zeros_kept [] k w ne = omega arith
zeros_kept (x ∷ xs) zero zero ne = absurd (ne refl)
zeros_kept (zero ∷ xs) zero (suc w) ne = omega arith
zeros_kept (suc n ∷ xs) zero (suc w) ne = omega arith
zeros_kept (zero ∷ xs) (suc k) w ne = omega (arith, zeros_kept xs k w ne)
zeros_kept (suc n ∷ xs) (suc k) w ne = zeros_kept xs k w ne

zeros_less : (xs : List ℕ) (k w : ℕ) → k < length xs → get_or xs k 0 ≡ 0 → (w ≡ 0 → ⊥) → zeros (set xs k w) < zeros xs
zeros_less [] k w i e ne = omega (arith, i)
zeros_less (x ∷ xs) zero zero i e ne = absurd (ne refl)
zeros_less (zero ∷ xs) zero (suc w) i e ne = omega arith
zeros_less (suc n ∷ xs) zero (suc w) i e ne = omega (arith, e)
zeros_less (zero ∷ xs) (suc k) w i e ne = omega (arith, zeros_less xs k w (omega (arith, i)) e ne)
zeros_less (suc n ∷ xs) (suc k) w i e ne = zeros_less xs k w (omega (arith, i)) e ne

-- no word of an object or cell is 0
object_word : (w r : ℕ) → value_of w ≡ Some (value.Object r) → w ≡ 0 → ⊥
unfolding value_of
object_word w r e z = let bad : value_of 0 ≡ Some (value.Object r) = ap value_of (sym z) ∙ e in grind (arith, bad)

reached_zeros : (g : ℕ) (s t : Trail) (a q index b r : ℕ) → IsReached g s t a q index b r → zeros t.places ≤ zeros s.places
reached_zeros g s t a q index b r x =
    subst (λ v. zeros v ≤ zeros s.places) (sym x.places) (zeros_kept s.places (offset_of b / 2) x.word (object_word x.word r x.word_is))

-- each pair that was reached has a place then
pub reached_less : (g : ℕ) (s t : Trail) (a q index b r : ℕ) → length s.places ≡ 256 → IsReached g s t a q index b r → zeros t.places < zeros s.places
reached_less g s t a q index b r long x =
    subst (λ v. zeros v < zeros s.places) (sym x.places)
    (zeros_less s.places (offset_of b / 2) x.word (omega (arith, long, x.inside)) x.unplaced (object_word x.word r x.word_is))

-- ---- along a run

-- a pair and its copy of generation g are there, and no more places than so many are not known
pub record IsKept (g most : ℕ) (t : Trail) (a q : ℕ) : Type 0 where
  pub object : IsPairAt t.territory a
  pub copy : HasPair g t.territory q
  pub few : zeros t.places ≤ most

pub kept_here : (g most : ℕ) (s t : Trail) (a q index b r : ℕ) → IsReached g s t a q index b r → IsKept g most s a q → IsKept g most t a q
kept_here g most s t a q index b r x k = record {
  object = pair_kept g s t a q index b r a x k.object;
  copy = reached_kept g s t a q index b r g q x k.copy;
  few = omega (arith, reached_zeros g s t a q index b r x, k.few);
}

pub kept_there : (g most : ℕ) (s t : Trail) (a q index b r : ℕ) → IsReached g s t a q index b r → IsKept g most s a q → IsKept g most t b r
kept_there g most s t a q index b r x k = record {
  object = pair_kept g s t a q index b r b x (x.start, x.has, x.pair);
  copy = reached_new g s t a q index b r x;
  few = omega (arith, reached_zeros g s t a q index b r x, k.few);
}

pub car_kept : (g most : ℕ) (s t : Trail) (a q : ℕ) → IsCarSwept g s t a q → IsKept g most s a q → IsKept g most t a q
car_kept g most s t a q (inl (none, same)) k = subst (λ v. IsKept g most v a q) (sym same) k
car_kept g most s t a q (inr (b, r, x, waits)) k = kept_here g most s t a q 0 b r x k

taken_kept : (g most : ℕ) (s t : Trail) (a b r : ℕ) → IsTaken g s t a b r → zeros s.places ≤ most → IsKept g most t b r
taken_kept g most s t a b r x few = subst (λ v. IsKept g most v b r) (sym x.others) (record {
  object = x.pair;
  copy = record { start = x.copy; has = x.has; pair = x.copy_pair; generation = x.generation };
  few = few;
})

cdr_kept : (g most : ℕ) (s t : Trail) (a q b r : ℕ) → IsCdrSwept g s t a q b r → IsKept g most s a q → IsKept g most t b r
cdr_kept g most s t a q b r (inl x) k = kept_there g most s t a q 1 b r x.0 k
cdr_kept g most s t a q b r (inr x) k = taken_kept g most s t a b r x k.few

followed_kept : (g most n : ℕ) (s t : Trail) (a q b r : ℕ) → IsKept g most s a q → AreFollowed (IsCarSwept g) (IsCdrSwept g) n s a q t b r → IsKept g most t b r
followed_kept g most zero s t a q b r k (e, eb, er) =
    subst (λ v. IsKept g most t b v) (sym er) (subst (λ v. IsKept g most t v q) (sym eb) (subst (λ v. IsKept g most v a q) (sym e) k))
followed_kept g most (suc n) s t a q b r k (mid, c, p, now, before, car, cdr) =
    cdr_kept g most now t c p b r cdr (car_kept g most mid now c p car (followed_kept g most n s mid a q c p k before))

pub trail_kept : (g most : ℕ) (s t : Trail) (a q b r : ℕ) (swept : Bool) → IsTrail g s a q t b r swept → IsKept g most s a q → IsKept g most t b r
trail_kept g most s t a q b r true x k = car_kept g most x.mid t b r x.car (followed_kept g most x.count s x.mid a q b r k x.followed)
trail_kept g most s t a q b r false x k = subst (λ v. IsKept g most v b r) (sym x.car) (followed_kept g most x.count s x.mid a q b r k x.followed)

pub swept_kept : (g most : ℕ) (s t : Trail) (a q : ℕ) (swept : Bool) → IsSweptNow g swept s t a q → IsKept g most s a q → IsKept g most t a q
swept_kept g most s t a q true e k = subst (λ v. IsKept g most v a q) (sym e) k
swept_kept g most s t a q false x k = car_kept g most s t a q x k

-- ---- runs that are joined

join : {S : Type 0} (Car : S → S → ℕ → ℕ → Type 0) (Cdr : S → S → ℕ → ℕ → ℕ → ℕ → Type 0) (n m : ℕ) (s t u : S) (a q b r c p : ℕ)
    → AreFollowed Car Cdr n s a q t b r → AreFollowed Car Cdr m t b r u c p → (k : ℕ) × AreFollowed Car Cdr k s a q u c p
join Car Cdr n zero s t u a q b r c p x (e, ec, ep) =
    (n, subst (λ v. AreFollowed Car Cdr n s a q u c v) (sym ep) (subst (λ v. AreFollowed Car Cdr n s a q u v r) (sym ec) (subst (λ v. AreFollowed Car Cdr n s a q v b r) (sym e) x)))
join Car Cdr n (suc m) s t u a q b r c p x (mid, d, o, now, before, car, cdr) =
    let j = join Car Cdr n m s t mid a q b r d o x before in (suc j.0, (mid, d, o, now, j.1, car, cdr))

pub trail_join : (g : ℕ) (s t u : Trail) (a q b r c p : ℕ) (swept : Bool) → IsTrail g s a q t b r false → IsTrail g t b r u c p swept → IsTrail g s a q u c p swept
trail_join g s t u a q b r c p swept x y =
    let j = join (IsCarSwept g) (IsCdrSwept g) x.count y.count s x.mid y.mid a q b r c p x.followed (subst (λ v. AreFollowed (IsCarSwept g) (IsCdrSwept g) y.count v b r y.mid c p) x.car y.followed) in
    record { count = j.0; mid = y.mid; followed = j.1; car = y.car }

pub trail_swept : (g : ℕ) (s t u : Trail) (a q b r : ℕ) (swept : Bool) → IsTrail g s a q t b r swept → IsSweptNow g swept t u b r → IsTrail g s a q u b r true
trail_swept g s t u a q b r true x e = subst (λ v. IsTrail g s a q v b r true) (sym e) x
trail_swept g s t u a q b r false x car =
    record { count = x.count; mid = x.mid; followed = x.followed; car = subst (λ v. IsCarSwept g v u b r) x.car car }

pub trail_more : (g : ℕ) (s t u : Trail) (a q b r c p : ℕ) → IsTrail g s a q t b r true → IsCdrSwept g t u b r c p → IsTrail g s a q u c p false
trail_more g s t u a q b r c p x cdr =
    record { count = suc x.count; mid = u; followed = (x.mid, b, r, t, x.followed, x.car, cdr); car = refl }

-- ---- for the answers

pub of_some : (o : Option Start) (x : Start) (P : Start → Type 0) → o ≡ Some x → IfSome o P → P x
of_some o x P e p = subst (λ v. IfSome v P) e p

-- what `copy` says
pub copy_told : (old new : TerritoryView) (b g r : ℕ) (x : Start) → get old.starts b ≡ Some x → IsAddress r × (thread_of r ≡ old.thread) → get old.starts r ≡ None
    → IfSome (get old.starts b) (λ y. new.starts ≡ insert old.starts r (copy_in g y)) → IfSome (get old.starts b) (λ y. IsPlacedLike old new b y g (segment_of r))
    → IfSome (get old.starts b) (λ y. (generation_at : ℕ → Option ℕ) → RefersToNoneBelow generation_at y g → AreCardsSound generation_at old → AreCardsSound generation_at new)
    → new.thread ≡ old.thread → new.dirty ≡ old.dirty → new.targets ≡ old.targets → IsCopyOf old new b g r x
copy_told old new b g r x has address free starts placed sound thread dirty targets = record {
  address = address.0;
  thread_is = address.1;
  free = free;
  starts = of_some (get old.starts b) x _ has starts;
  placed = of_some (get old.starts b) x _ has placed;
  sound = of_some (get old.starts b) x _ has sound;
  thread = thread;
  dirty = dirty;
  targets = targets;
}

-- the copy in hand still has two words
pub word_fits : (old new : TerritoryView) (b g r q index : ℕ) (x : Start) → IsCopyOf old new b g r x → IsPairAt old q → IfSome (get old.starts q) IsShaped → index < 2 → index < length (words_of (get new.starts q))
word_fits old new b g r q index x i (y, has, kind) shaped small =
    subst (λ o. index < length (words_of o)) (sym (copied_start old new b g r q x y i has))
    (omega (arith, small, two_words y (of_some (get old.starts q) y IsShaped has shaped) kind))

-- what `reach` says
pub reached_told : (now mid then : TerritoryView) (places places' : List ℕ) (own own' waiting waiting' : List (ℕ × ℕ)) (a q index b r g word entry : ℕ) → IsPairAt now q → (u : RefersToUnplaced now places a index b)
    → IfSome (get now.starts q) (λ y. g ≡ y.generation) → IsCopyOf now mid b g r u.pair.0 → value_of word ≡ Some (value.Object r) → IsWordPut mid then q index word g
    → entry ≡ offset_of b → places' ≡ set places (entry / 2) word → own' ≡ own ++ (b, r) ∷ []
    → IfSome (get now.starts q) (λ y. IsReached y.generation (trail now places own waiting) (trail then places' own' waiting') a q index b r)
reached_told now mid then places places' own own' waiting waiting' a q index b r g word entry (y, has, kind) u generation copied word_is put entry_is places_are own_is =
    let same : g ≡ y.generation = of_some (get now.starts q) y (λ v. g ≡ v.generation) has generation in
    if_some (get now.starts q) y (λ v. IsReached v.generation (trail now places own waiting) (trail then places' own' waiting') a q index b r) has
    (subst (λ h. IsReached h (trail now places own waiting) (trail then places' own' waiting') a q index b r) same
    (record {
      refers = u.refers;
      segment = u.segment;
      thread = u.thread;
      inside = u.inside;
      unplaced = u.unplaced;
      start = u.pair.0;
      has = u.pair.1;
      pair = u.pair.2;
      mid = mid;
      copied = copied;
      word = word;
      word_is = word_is;
      put = put;
      places = places_are ∙ ap (λ v. set places (v / 2) word) entry_is;
      own = own_is;
    }))

-- it makes no difference to a pair that was reached what waits
rewaited : (g : ℕ) (now then : TerritoryView) (places places' : List ℕ) (own own' w w' v v' : List (ℕ × ℕ)) (a q index b r : ℕ)
    → IsReached g (trail now places own w) (trail then places' own' w') a q index b r → IsReached g (trail now places own v) (trail then places' own' v') a q index b r
rewaited g now then places places' own own' w w' v v' a q index b r x = record {
  refers = x.refers;
  segment = x.segment;
  thread = x.thread;
  inside = x.inside;
  unplaced = x.unplaced;
  start = x.start;
  has = x.has;
  pair = x.pair;
  mid = x.mid;
  copied = x.copied;
  word = x.word;
  word_is = x.word_is;
  put = x.put;
  places = x.places;
  own = x.own;
}

-- the car was swept now, and what it refers to waits
pub car_told : (now then : TerritoryView) (places places' : List ℕ) (own own' w w' v v' : List (ℕ × ℕ)) (a q : ℕ) (swept : Bool) (o : Option (ℕ × ℕ)) (e : ℕ × ℕ)
    → IsPairAt now q → IfSome o (λ f. IfSome (get now.starts q) (λ y. IsReached y.generation (trail now places own w) (trail then places' own' w') a q 0 f.0 f.1)) → o ≡ Some e → swept ≡ false
    → w ≡ v → w' ≡ w → v' ≡ w' ++ e ∷ []
    → IfSome (get now.starts q) (λ y. IsSweptNow y.generation swept (trail now places own v) (trail then places' own' v') a q)
car_told now then places places' own own' w w' v v' a q swept o e (y, has, kind) reached is not_yet w_is kept pushed =
    let x : IsReached y.generation (trail now places own w) (trail then places' own' w') a q 0 e.0 e.1 = of_some (get now.starts q) y (λ z. IsReached z.generation (trail now places own w) (trail then places' own' w') a q 0 e.0 e.1) has (subst (λ u. IfSome u (λ f. IfSome (get now.starts q) (λ z. IsReached z.generation (trail now places own w) (trail then places' own' w') a q 0 f.0 f.1))) is reached) in
    if_some (get now.starts q) y (λ z. IsSweptNow z.generation swept (trail now places own v) (trail then places' own' v') a q) has
    (subst (λ u. IsSweptNow y.generation u (trail now places own v) (trail then places' own' v') a q) (sym not_yet)
    (inr (e.0, e.1, rewaited y.generation now then places places' own own' w w' v v' a q 0 e.0 e.1 x, pushed ∙ ap (λ u. u ++ e ∷ []) (kept ∙ w_is))))

-- the car refers to an object that can't be reached
pub stuck : (s t : Trail) (a word : ℕ) (o : Option ℕ) (p : Option (ℕ × ℕ)) → is_some o ≡ true → IfSome o (λ b. value_of word ≡ Some (value.Object b)) → word ≡ word_at s.territory a 0
    → IfNone p (t ≡ s) → IfNone p (CanReach s a 0 → ⊥) → p ≡ None → IsTrailEnd t a false
stuck s t a word None p some refers word_is same none is = grind (arith, some)
stuck s t a word (Some b) p some refers word_is same none is =
    subst (λ u. IsTrailEnd u a false) (sym (subst (λ u. IfNone u (t ≡ s)) is same))
    (b, ap value_of (sym word_is) ∙ refers, subst (λ u. IfNone u (CanReach s a 0 → ⊥)) is none)

-- ---- the whole run

-- pairs were followed, and no more places than so many are not known
pub record IsUnder (most : ℕ) (old : Trail) (a q : ℕ) (new : Trail) (b r : ℕ) (swept : Bool) : Type 0 where
  pub first : Start
  pub has : get old.territory.starts q ≡ Some first
  pub trail_is : IsTrail first.generation old a q new b r swept
  pub kept : IsKept first.generation most new b r

pub under_start : (old : Trail) (a q : ℕ) → IsPairAt old.territory a → IsPairAt old.territory q → IsUnder (zeros old.places) old a q old a q false
under_start old a q object (x, has, kind) = record {
  first = x;
  has = has;
  trail_is = trail_none x.generation old old a q refl;
  kept = record { object = object; copy = record { start = x; has = has; pair = kind; generation = refl }; few = omega arith };
}

pub under_copy : (most : ℕ) (old t : Trail) (a q b r : ℕ) (swept : Bool) → IsUnder most old a q t b r swept → IsPairAt t.territory r
under_copy most old t a q b r swept u = at_pair u.first.generation t.territory r u.kept.copy

-- what is said of the generation of the copy in hand is said of the first one's
in_hand : (P : ℕ → Type 0) (most : ℕ) (old t : Trail) (a q b r : ℕ) (swept : Bool) → (u : IsUnder most old a q t b r swept) → IfSome (get t.territory.starts r) (λ y. P y.generation) → P u.first.generation
in_hand P most old t a q b r swept u e =
    subst P u.kept.copy.generation (of_some (get t.territory.starts r) u.kept.copy.start (λ y. P y.generation) u.kept.copy.has e)

pub under_open : (most : ℕ) (old t v : Trail) (a q b r c p : ℕ) (swept : Bool) → IsUnder most old a q t b r false → IfSome (get t.territory.starts r) (λ y. IsTrail y.generation t b r v c p swept) → IsUnder most old a q v c p swept
under_open most old t v a q b r c p swept u e =
    let more : IsTrail u.first.generation t b r v c p swept = in_hand (λ g. IsTrail g t b r v c p swept) most old t a q b r false u e in
    record {
      first = u.first;
      has = u.has;
      trail_is = trail_join u.first.generation old t v a q b r c p swept u.trail_is more;
      kept = trail_kept u.first.generation most t v b r c p swept more u.kept;
    }

pub under_swept : (most : ℕ) (old t v : Trail) (a q b r : ℕ) (swept : Bool) → IsUnder most old a q t b r swept → IfSome (get t.territory.starts r) (λ y. IsSweptNow y.generation swept t v b r) → IsUnder most old a q v b r true
under_swept most old t v a q b r swept u e =
    let car : IsSweptNow u.first.generation swept t v b r = in_hand (λ g. IsSweptNow g swept t v b r) most old t a q b r swept u e in
    record {
      first = u.first;
      has = u.has;
      trail_is = trail_swept u.first.generation old t v a q b r swept u.trail_is car;
      kept = swept_kept u.first.generation most t v b r swept car u.kept;
    }

pub under_more : (most : ℕ) (old t v : Trail) (a q b r c p : ℕ) → IsUnder most old a q t b r true → IfSome (get t.territory.starts r) (λ y. IsReached y.generation t v b r 1 c p) → v.waiting ≡ t.waiting → IsUnder (zeros v.places) old a q v c p false
under_more most old t v a q b r c p u e waits =
    let x : IsReached u.first.generation t v b r 1 c p = in_hand (λ g. IsReached g t v b r 1 c p) most old t a q b r true u e in
    let kept : IsKept u.first.generation most v c p = kept_there u.first.generation most t v b r 1 c p x u.kept in
    record {
      first = u.first;
      has = u.has;
      trail_is = trail_more u.first.generation old t v a q b r c p u.trail_is (inl (x, waits));
      kept = record { object = kept.object; copy = kept.copy; few = omega arith };
    }

pub under_less : (most : ℕ) (old t v : Trail) (a q b r c p : ℕ) → IsUnder most old a q t b r true → length t.places ≡ 256 → IfSome (get t.territory.starts r) (λ y. IsReached y.generation t v b r 1 c p) → zeros v.places < most
under_less most old t v a q b r c p u long e =
    let x : IsReached u.first.generation t v b r 1 c p = in_hand (λ g. IsReached g t v b r 1 c p) most old t a q b r true u e in
    omega (arith, reached_less u.first.generation t v b r 1 c p long x, u.kept.few)

pub under_trail : (most : ℕ) (old t : Trail) (a q b r : ℕ) (swept : Bool) → IsUnder most old a q t b r swept → IfSome (get old.territory.starts q) (λ y. IsTrail y.generation old a q t b r swept)
under_trail most old t a q b r swept u =
    if_some (get old.territory.starts q) u.first (λ y. IsTrail y.generation old a q t b r swept) u.has u.trail_is

pub under_left : (most : ℕ) (old t v : Trail) (a q b r : ℕ) (swept : Bool) → IsUnder most old a q t b r swept → IsLeft t v → IfSome (get old.territory.starts q) (λ y. HasTrail y.generation old a q v)
under_left most old t v a q b r swept u left =
    if_some (get old.territory.starts q) u.first (λ y. HasTrail y.generation old a q v) u.has
    (record { mid = t; object = b; copy = r; car_swept = swept; trail_is = u.trail_is; left = left })

pub left_same : (t v : Trail) → v ≡ t → IsLeft t v
left_same t v e = subst (IsLeft t) (sym e) (record {
  as_before = record { starts = refl; segments = λ n. refl; areas = refl };
  thread = refl;
  dirty = refl;
  targets = refl;
  places = refl;
  own = refl;
  waiting = refl;
})

pub under_same : (most : ℕ) (old t v : Trail) (a q b r : ℕ) (swept : Bool) → v ≡ t → IsUnder most old a q t b r swept → IsUnder most old a q v b r swept
under_same most old t v a q b r swept e u = subst (λ w. IsUnder most old a q w b r swept) (sym e) u
