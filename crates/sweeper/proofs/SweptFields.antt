-- The fields of the object that is swept, as the code counts and handles them.
use Rattle.std.proofs.Common.{◌≡◌, ℕ, ◌+◌, ◌-◌, ◌^◌, ◌<◌, ◌≤◌, true, false, List, [], ◌∷◌, ◌++◌, take, length, Option, Some, IsSome, IfSome, refl, sym, ap, subst, ◌∙◌, arith, length-append}
use Rattle.std.proofs.Math.Seq.{take-append_seam}
use Rattle.trace_types.specs.declared.kind.Kind.{Kind}
use Rattle.segment.specs.Layout.{words_after}
use Rattle.segment.specs.Segments.{Start}
use Rattle.territory.specs.Territories.{IsShaped, words_of}
use Rattle.sweep_model.specs.World.{is_strong}
use Rattle.sweep_share.specs.Shares.{ShareView, start_in}
use Rattle.sweep_places.specs.Places.{PlacesView}
use Rattle.sweeper.specs.Sweepers.{AreStrong, AskNothing, FieldDone, IsForeign, IsKept, IsKeptNow, IsOwn, IsPlain, SweeperView, WasKept, asked_in, left_of}
use Rattle.sweeper.specs.Ready.{Ready}
use Rattle.sweeper.proofs.StrongFields.{AreCounted, before_asks_none, counted_of, end_within, length_in, strong_from}
use Rattle.sweeper.proofs.WorldReady.{with_rest}
use Rattle.sweeper.proofs.WorldSwept.{IsNext, IsSweptTo, next_is, one_swept, rest_of, swept_there, swept_to_none, swept_up_to, there_words}

-- ---- the object

-- what is before the last
front : (l : List (ℕ × ℕ)) (f : ℕ × ℕ) → take (length (l ++ f ∷ []) - 1) (l ++ f ∷ []) ≡ l
front l f =
    let e : length (l ++ f ∷ []) - 1 ≡ length l = omega (arith, length-append l (f ∷ [])) in
    ap (λ n. take n (l ++ f ∷ [])) e ∙ take-append_seam l (f ∷ [])

rest_is : (v : SweeperView) (l : List (ℕ × ℕ)) (f : ℕ × ℕ) → v.places.unswept ≡ l ++ f ∷ [] → rest_of v ≡ l
rest_is v l f e = ap (λ u. take (length u - 1) u) e ∙ front l f

-- the last one was taken
module _ (s v : SweeperView) (places : PlacesView) (f : ℕ × ℕ) (e : s ≡ v)
    (taken : s.places.unswept ≡ places.unswept ++ f ∷ []) where
  pub is_next : IsNext v f.0 f.1
  is_next = subst (λ (z : SweeperView). z.places.unswept ≡ rest_of z ++ f ∷ []) e
      (taken ∙ ap (λ l. l ++ f ∷ []) (sym (rest_is s places.unswept f taken)))

  pub popped : places ≡ record s.places { unswept = places.unswept } → record s { places = places } ≡ one_swept v
  popped rest =
      ap (λ (q : PlacesView). record s { places = q }) rest
      ∙ ap (with_rest s) (sym (rest_is s places.unswept f taken)) ∙ ap one_swept e

  -- less is left
  pub popped_left : left_of (one_swept v) < left_of v
  popped_left = subst (λ (z : SweeperView). left_of (one_swept z) < left_of z) e (omega (arith, one, all))
    where
      one : length (rest_of s) ≡ length places.unswept
      one = ap length (rest_is s places.unswept f taken)

      all : length s.places.unswept ≡ length places.unswept + 1
      all = ap length taken ∙ length-append places.unswept (f ∷ [])

-- it starts there, with the shape of its kind
pub next_start : (v : SweeperView) (x p : ℕ) → Ready v → IsNext v x p
    → (s : Start) × (start_in v.share x ≡ Some s) × IsShaped s
next_start v x p r next =
    let n = next_is r.0 v x p r.3 next in
    (n.0, n.4, r.3.is_world.shaped x n.0 n.1)

is_some_at : (o : Option Start) (s : Start) → o ≡ Some s → IsSome o
is_some_at o s e = subst IsSome (sym e) refl

pub next_there : (share : ShareView) (v : SweeperView) (x p : ℕ) → share ≡ v.share → Ready v → IsNext v x p
    → IsSome (start_in share x)
next_there share v x p e r next =
    let n = next_start v x p r next in
    is_some_at (start_in share x) n.0 (ap (λ (z : ShareView). start_in z x) e ∙ n.1)

-- and stays as it is while its fields are handled
pub there_same : (v u : SweeperView) (x p i : ℕ) → Ready v → IsNext v x p → IsSweptTo v u x i
    → start_in u.share x ≡ start_in v.share x
there_same v u x p i r next done =
    let n = next_is r.0 v x p r.3 next in
    let f = (done r.0 r.1 n.0 r.2 r.3 n.1).follows in
    f.ready.ready.tied.frozen x n.0 n.1 (n.3 ∙ sym f.steady.alike.number) n.2 ∙ sym n.4

-- ---- its fields

pub length_fits : (share : ShareView) (v : SweeperView) (x p len : ℕ) → share ≡ v.share → Ready v → IsNext v x p
    → IfSome (start_in share x) (λ y. len ≡ y.length) → len ≤ 4000000
length_fits share v x p len e r next is =
    let n = next_start v x p r next in
    length_in (start_in share x) n.0 len (ap (λ (z : ShareView). start_in z x) e ∙ n.1) n.2 is

-- of the object at x these fields are strong and no others
abbrev pub IsCounted : SweeperView → ℕ → ℕ → ℕ → Type 0
IsCounted v x first end = AreCounted (start_in v.share x) first end

pub counted : (share : ShareView) (v : SweeperView) (x p len first end : ℕ) (k : Kind) → share ≡ v.share → Ready v → IsNext v x p
    → IfSome (start_in share x) (λ y. k ≡ y.kind) → IfSome (start_in share x) (λ y. len ≡ y.length)
    → first ≤ end → end ≤ words_after k len
    → ((i : ℕ) → first ≤ i → i < end → is_strong k i ≡ true) → ((i : ℕ) → i < first → is_strong k i ≡ false)
    → ((i : ℕ) → end ≤ i → i < words_after k len → is_strong k i ≡ false) → IsCounted v x first end
counted share v x p len first end k e r next kind_is length_is order within strong before after =
    let n = next_start v x p r next in
    let here : start_in share x ≡ start_in v.share x = ap (λ (z : ShareView). start_in z x) e in
    subst (λ o. AreCounted o first end) here
    (counted_of (start_in share x) n.0 len first end k (here ∙ n.1) n.2 kind_is length_is order within strong before after)

some_is : (s t : Start) → Some s ≡ Some t → s ≡ t
some_is s t e = cc

module _ (v : SweeperView) (x first end : ℕ) (c : IsCounted v x first end) where
  -- what the end of the loop needs
  pub counted_rest : (s : Start) → start_in v.share x ≡ Some s
      → (end ≤ length s.words) × ((j : ℕ) → end ≤ j → j < length s.words → is_strong s.kind j ≡ false)
  counted_rest s e =
      subst (λ (z : Start). (end ≤ length z.words) × ((j : ℕ) → end ≤ j → j < length z.words → is_strong z.kind j ≡ false))
      (some_is c.start s (sym c.here ∙ e)) (c.within, c.after)

  pub counted_within : (i : ℕ) → i ≤ end → (s : Start) → start_in v.share x ≡ Some s → i ≤ length s.words
  counted_within i h s e = let w : end ≤ length s.words = (counted_rest s e).0 in omega (arith, w, h)

  pub counted_inside : (i : ℕ) → i < end → (s : Start) → start_in v.share x ≡ Some s → i < length s.words
  counted_inside i h s e = let w : end ≤ length s.words = (counted_rest s e).0 in omega (arith, w, h)

  -- what no strong field is asks for nothing
  pub before_asks : (u : SweeperView) → start_in u.share x ≡ start_in v.share x → AskNothing u x 0 first
  before_asks u same i a b =
      ap (λ o. asked_in u.places.directory o i) same ∙ before_asks_none u.places.directory (start_in v.share x) first end c i b

  pub counted_strong : (u : SweeperView) (from : ℕ) → start_in u.share x ≡ start_in v.share x → first ≤ from
      → AreStrong (start_in u.share x) from end
  counted_strong u from same h =
      subst (λ o. AreStrong o from end) (sym same) (strong_from u.places.directory (start_in v.share x) first end c from h)

  pub counted_end : (u : SweeperView) → start_in u.share x ≡ start_in v.share x → end ≤ length (words_of (start_in u.share x))
  counted_end u same =
      subst (λ o. end ≤ length (words_of o)) (sym same) (end_within u.places.directory (start_in v.share x) first end c)

-- the object that was taken, and its strong fields
pub record IsTaken (v : SweeperView) (x p first end : ℕ) : Type 0 where
  pub ready : Ready v
  pub next : IsNext v x p
  pub all : IsCounted v x first end

pub taken : (s v : SweeperView) (places : PlacesView) (f : ℕ × ℕ) (len first end : ℕ) (k : Kind) → s ≡ v
    → s.places.unswept ≡ places.unswept ++ f ∷ [] → Ready v
    → IfSome (start_in s.share f.0) (λ y. k ≡ y.kind) → IfSome (start_in s.share f.0) (λ y. len ≡ y.length)
    → first ≤ end → end ≤ words_after k len
    → ((i : ℕ) → first ≤ i → i < end → is_strong k i ≡ true) → ((i : ℕ) → i < first → is_strong k i ≡ false)
    → ((i : ℕ) → end ≤ i → i < words_after k len → is_strong k i ≡ false) → IsTaken v f.0 f.1 first end
taken s v places f len first end k e is ready kind_is length_is order within strong before after =
    let next = is_next s v places f e is in
    record {
      ready = ready;
      next = next;
      all = counted s.share v f.0 f.1 len first end k (ap (λ (z : SweeperView). z.share) e) ready next kind_is length_is order within
          strong before after;
    }

-- before its first strong field nothing is to be done
pub taken_first : (v : SweeperView) (x p first end : ℕ) → IsTaken v x p first end → IsSweptTo v (one_swept v) x first
taken_first v x p first end t =
    swept_up_to v (one_swept v) x p 0 first t.next (swept_to_none v x p t.next) (omega arith)
    (counted_within v x first end t.all first t.all.order) (before_asks v x first end t.all (one_swept v) refl)

pub copy_word : (v u : SweeperView) (x p i j first end : ℕ) → Ready v → IsNext v x p → IsSweptTo v u x i
    → IsCounted v x first end → j < end → j < length (words_of (start_in u.share p))
copy_word v u x p i j first end r next done c h =
    let a = swept_there v u x p i r next done in
    let w : length (words_of (start_in u.share p)) ≡ length a.start.words = there_words u x p a in
    let f : end ≤ length (words_of (start_in u.share x)) = counted_end v x first end c u (there_same v u x p i r next done) in
    let s : length (words_of (start_in u.share x)) ≡ length a.start.words = ap (λ o. length (words_of o)) a.here in
    omega (arith, w, f, s, h)

-- ---- what a field leaves

pub record IsLeft (u u' : SweeperView) : Type 0 where
  pub left : left_of u' ≡ left_of u
  pub inbox : u'.inbox ≡ u.inbox
  pub directory : u'.places.directory ≡ u.places.directory

kept_left : (u mid : SweeperView) (t q : ℕ) → IsKept u mid t q → IsLeft u mid
kept_left u mid t q (WasKept pair same) = record {
  left = ap left_of same;
  inbox = ap (λ (z : SweeperView). z.inbox) same;
  directory = ap (λ (z : SweeperView). z.places.directory) same;
}
kept_left u mid t q (IsKeptNow c) = record {
  left = omega (arith, c.few, own, unswept);
  inbox = c.copied.inbox;
  directory = c.steady.directory;
}
  where
    own : length mid.places.own ≡ length u.places.own + 1
    own = ap length c.copied.own ∙ length-append u.places.own ((t, q) ∷ [])

    unswept : length mid.places.unswept ≡ length u.places.unswept + 1
    unswept = ap length c.copied.unswept ∙ length-append u.places.unswept ((t, q) ∷ [])

pub field_left : (u u' : SweeperView) (x p i : ℕ) → FieldDone u u' x p i → IsLeft u u'
field_left u u' x p i (IsPlain none same) = record {
  left = ap left_of same;
  inbox = ap (λ (z : SweeperView). z.inbox) same;
  directory = ap (λ (z : SweeperView). z.places.directory) same;
}
field_left u u' x p i (IsOwn t q mid c asked kept put) =
    let k = kept_left u mid t q kept in
    record {
      left = ap (λ n. 2 ^ 64 - n + length u'.places.unswept) (ap length put.put.own)
          ∙ ap (λ n. 2 ^ 64 - length mid.places.own + n) (ap length put.put.unswept) ∙ k.left;
      inbox = put.put.inbox ∙ k.inbox;
      directory = put.steady.directory ∙ k.directory;
    }
field_left u u' x p i (IsForeign t asked other same) = record {
  left = ap left_of same;
  inbox = ap (λ (z : SweeperView). z.inbox) same;
  directory = ap (λ (z : SweeperView). z.places.directory) same;
}
