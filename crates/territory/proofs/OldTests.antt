-- Whether a start is an old one: the test says what the fact says, and the segment says it too.
use Rattle.std.proofs.Common.{◌≡◌, ℕ, zero, suc, ◌+◌, ◌*◌, ◌/◌, ◌%◌, ◌<◌, ◌≤◌, ◌&&◌, ◌||◌, Bool, true, false, cond, eqb, nat_lt, Option, Some, None, refl, sym, ◌∙◌, ap, subst, arith, inl, inr}
use Rattle.std.proofs.lemmas.Bool.{cases_eq}
use Rattle.std.proofs.lemmas.Bool.Decides.{nat_tests}
use Rattle.std.specs.List.{list_any, range_with_len}
use Rattle.std.specs.FinMap.{get}
use Rattle.gc_words.specs.declared.address.TheConstants.{SEGMENTS, OFFSETS}
use Rattle.gc_words.specs.Layout.{address_of, segment_of, offset_of}
use Rattle.cards.specs.Cards.{card_of, IsDirty}
use Rattle.trace_types.specs.declared.kind.Kind.{Kind}
use Rattle.trace_types.specs.declared.kind.Kind.TheVariants as kind
use Rattle.segment.specs.declared.space.Space.{Space}
use Rattle.segment.specs.declared.space.Space.TheVariants as space
use Rattle.segment.specs.declared.segment.Role.TheVariants.{Free, Current, From}
use Rattle.segment.specs.Layout.{space_of, skip_of, kind_of_code, kind_of, length_of, count_of, size_of}
use Rattle.segment.specs.Segments.{Segment, Start, IsStart, is_free, object_at, size_at, first_at, spot}
use Rattle.segment.proofs.Spots.{spot_is, spot_start}
use Rattle.territory.specs.declared.territory.Targets.{Targets}
use Rattle.territory.specs.Territories.{SegmentView, TerritoryView, segment_at, size_for}
use Rattle.territory.specs.Pools.{PoolView, IsSettled, numbered, seen, starts_of, territory_view}
use Rattle.territory.specs.Olds.{IsMarkedAt, IsOld, is_marked_at, is_old_start, is_old, IsOldAt}
use Rattle.territory.proofs.Numbers.{seen_at}
use Rattle.territory.proofs.Entries.{get-starts}
use Rattle.territory.proofs.Slots.{all_small, start_here}

-- ---- the tests
marked_told : (cg : ℕ) (s : Option SegmentView) (word : ℕ) → is_marked_at cg s word ≡ true → IsMarkedAt cg s word
marked_told cg None word e = cc
marked_told cg (Some s) word e = (grind (arith, nat_tests, e), grind (arith, nat_tests, e))

marked_test : (cg : ℕ) (s : Option SegmentView) (word : ℕ) → IsMarkedAt cg s word → is_marked_at cg s word ≡ true
marked_test cg None word h = absurd h
marked_test cg (Some s) word h = let a = h.0 in let b = h.1 in grind (arith, nat_tests, a, b)

any_told : (test : ℕ → Bool) (from count : ℕ) → list_any test (range_with_len from count) ≡ true → (w : ℕ) × (from ≤ w) × (w < from + count) × (test w ≡ true)
any_told test from zero e = cc
any_told test from (suc count) e =
    elim (test from) as (λ b. test from ≡ b → (b || list_any test (range_with_len (from + 1) count)) ≡ true → (w : ℕ) × (from ≤ w) × (w < from + suc count) × (test w ≡ true)) [
      | true ↦ λ t h. (from, omega arith, omega arith, t)
      | false ↦ λ t h. let r : (w : ℕ) × (from + 1 ≤ w) × (w < from + 1 + count) × (test w ≡ true) = any_told test (from + 1) count h in (r.0, omega (arith, r.1), omega (arith, r.2), r.3)
    ] refl e

any_test : (test : ℕ → Bool) (from count w : ℕ) → from ≤ w → w < from + count → test w ≡ true → list_any test (range_with_len from count) ≡ true
any_test test from zero w a b t = absurd (omega arith)
any_test test from (suc count) w a b t =
    elim (cases_eq w from) [
      | inl e ↦ ap (λ v. v || list_any test (range_with_len (from + 1) count)) (ap test (sym e) ∙ t)
      | inr ne ↦
          let rest : list_any test (range_with_len (from + 1) count) ≡ true = any_test test (from + 1) count w (omega arith) (omega arith) t in
          elim (test from) as (λ v. (v || list_any test (range_with_len (from + 1) count)) ≡ true) [ true ↦ refl | false ↦ rest ]
    ]

both : (a b : Bool) → a && b ≡ true → (a ≡ true) × (b ≡ true)
both true true e = (refl, refl)
both true false e = cc
both false b e = cc

both_true : (a b : Bool) → a ≡ true → b ≡ true → a && b ≡ true
both_true true true e f = refl
both_true true false e f = cc
both_true false b e f = cc

pub has_old : (t : TerritoryView) (cg a : ℕ) → is_old t cg a ≡ true → (x : Start) × (get t.starts a ≡ Some x)
unfolding is_old
has_old t cg a e = elim (get t.starts a) as (λ o. is_old_start cg a (segment_at t (segment_of a)) o ≡ true → (x : Start) × (o ≡ Some x)) [ None ↦ λ h. cc | Some x ↦ λ h. (x, refl) ] e

pub old_told : (t : TerritoryView) (cg a : ℕ) (x : Start) → get t.starts a ≡ Some x → is_old t cg a ≡ true → IsOld t cg a x
unfolding is_old
old_told t cg a x has e =
    let s : Option SegmentView = segment_at t (segment_of a) in
    let h : (nat_lt cg x.generation ≡ true) × (list_any (is_marked_at cg s) (range_with_len (offset_of a) (size_for x.kind x.length)) ≡ true) =
    both (nat_lt cg x.generation) (list_any (is_marked_at cg s) (range_with_len (offset_of a) (size_for x.kind x.length))) (sym (ap (is_old_start cg a s) has) ∙ e) in
    let w : (w : ℕ) × (offset_of a ≤ w) × (w < offset_of a + size_for x.kind x.length) × (is_marked_at cg s w ≡ true) = any_told (is_marked_at cg s) (offset_of a) (size_for x.kind x.length) h.1 in
    record { older = (let older = h.0 in grind (arith, nat_tests, older)); marked = (w.0, w.1, w.2, marked_told cg s w.0 w.3) }

pub old_test : (t : TerritoryView) (cg a : ℕ) (x : Start) → get t.starts a ≡ Some x → IsOld t cg a x → is_old t cg a ≡ true
unfolding is_old
old_test t cg a x has h =
    let s : Option SegmentView = segment_at t (segment_of a) in
    let w : (word : ℕ) × (offset_of a ≤ word) × (word < offset_of a + size_for x.kind x.length) × IsMarkedAt cg s word = h.marked in
    let older : nat_lt cg x.generation ≡ true = (let b : cg < x.generation = h.older in grind (arith, nat_tests, b)) in
    ap (is_old_start cg a s) has
    ∙ both_true (nat_lt cg x.generation) (list_any (is_marked_at cg s) (range_with_len (offset_of a) (size_for x.kind x.length))) older (any_test (is_marked_at cg s) (offset_of a) (size_for x.kind x.length) w.0 w.1 w.2 (marked_test cg s w.0 w.3))

-- ---- sizes: what has a header is of a kind that has one
headed : (b : Bool) (k l : Kind) → skip_of (space_of k) ≡ 1 → skip_of (space_of l) ≡ 1 → skip_of (space_of (cond b k l)) ≡ 1
headed true k l h i = h
headed false k l h i = i

code_headed : (code : ℕ) → skip_of (space_of (kind_of_code code)) ≡ 1
code_headed code =
    headed (eqb code 0) kind.Boxed _ refl (headed (eqb code 1) kind.Vector _ refl (headed (eqb code 2) kind.Bytes _ refl (headed (eqb code 3) kind.ImmVector _ refl (headed (eqb code 4) kind.ImmBytes _ refl (headed (eqb code 5) kind.Guard kind.OrderedGuard refl refl)))))

pub skip_same : (s : Space) (first : ℕ) → skip_of (space_of (kind_of s first)) ≡ skip_of s
unfolding kind_of
skip_same space.Pair first = refl
skip_same space.Weak first = refl
skip_same space.Ephemeron first = refl
skip_same space.Cell first = refl
skip_same space.Typed first = code_headed (first / 8 % 32)
skip_same space.Raw first = code_headed (first / 8 % 32)
skip_same space.Immobile first = code_headed (first / 8 % 32)
skip_same space.ImmobileRaw first = code_headed (first / 8 % 32)

size_told : (s : Space) (first : ℕ) → size_for (kind_of s first) (length_of s first) ≡ size_of s first
unfolding size_of count_of
size_told s first = ap (λ v. (v + count_of s first + 1) / 2 * 2) (skip_same s first)

-- ---- the place of an address
place_told : (thread n k : ℕ) → n < SEGMENTS → 2 * k < OFFSETS → (segment_of (address_of thread n (2 * k)) ≡ n) × (offset_of (address_of thread n (2 * k)) ≡ 2 * k)
unfolding address_of segment_of offset_of
place_told thread n k small low = (omega arith, omega arith)

address_is : (thread n o : ℕ) → address_of thread n o ≡ (thread * SEGMENTS + n) * OFFSETS + o
unfolding address_of
address_is thread n o = refl

get_told : (thread : ℕ) (p : PoolView) (n k : ℕ) → IsSettled p → 2 * k < OFFSETS → get (starts_of (thread * SEGMENTS) p.segments) (address_of thread n (2 * k)) ≡ spot (numbered p.segments n) k
get_told thread p n k s low = get-starts (thread * SEGMENTS) p.segments (all_small p.segments s.sound) (address_of thread n (2 * k)) ∙ start_here (thread * SEGMENTS) p.segments n k (address_of thread n (2 * k)) low (address_is thread n (2 * k))

-- ---- what the segment says
seen_marked : (cg word : ℕ) (q : Segment) → is_free q.role ≡ false → IsDirty q.cards cg (card_of word) → IsMarkedAt cg (seen q) word
seen_marked cg word q used d = elim q.role as (λ r. is_free r ≡ false → IsMarkedAt cg (seen (record q { role = r })) word) [ Free ↦ λ h. cc | Current ↦ λ h. d | From ↦ λ h. d ] used

marked_seen : (cg word : ℕ) (q : Segment) → IsMarkedAt cg (seen q) word → IsDirty q.cards cg (card_of word)
marked_seen cg word q m = elim q.role as (λ r. IsMarkedAt cg (seen (record q { role = r })) word → IsDirty q.cards cg (card_of word)) [ Free ↦ λ h. absurd h | Current ↦ λ h. h | From ↦ λ h. h ] m

pub old_seen : (thread : ℕ) (p : PoolView) (targets : Targets) (cg n k : ℕ) → IsSettled p → n < SEGMENTS → 2 * k < OFFSETS → IsOldAt p.segments cg n k → is_old (territory_view thread p targets) cg (address_of thread n (2 * k)) ≡ true
old_seen thread p targets cg n k s small low h =
    let t : TerritoryView = territory_view thread p targets in
    let a : ℕ = address_of thread n (2 * k) in
    let q : Segment = numbered p.segments n in
    let x : Start = object_at q k in
    let place : (segment_of a ≡ n) × (offset_of a ≡ 2 * k) = place_told thread n k small low in
    let has : get t.starts a ≡ Some x = get_told thread p n k s low ∙ spot_start q k h.1.0 in
    let size : size_for x.kind x.length ≡ size_at q k = size_told q.space (first_at q k) in
    let w : (word : ℕ) × (2 * k ≤ word) × (word < 2 * k + size_at q k) × IsDirty q.cards cg (card_of word) = h.1.1 in
    let at : segment_at t (segment_of a) ≡ seen q = ap (segment_at t) place.0 ∙ seen_at p.segments n in
    old_test t cg a x has (record {
      older = h.0;
      marked = (w.0, omega (arith, place.1, w.1), omega (arith, place.1, size, w.2), subst (λ o. IsMarkedAt cg o w.0) (sym at) (seen_marked cg w.0 q h.1.0.0 w.3));
    })

pub seen_old : (thread : ℕ) (p : PoolView) (targets : Targets) (cg n k : ℕ) → IsSettled p → n < SEGMENTS → 2 * k < OFFSETS → is_old (territory_view thread p targets) cg (address_of thread n (2 * k)) ≡ true → IsOldAt p.segments cg n k
seen_old thread p targets cg n k s small low e =
    let t : TerritoryView = territory_view thread p targets in
    let a : ℕ = address_of thread n (2 * k) in
    let q : Segment = numbered p.segments n in
    let place : (segment_of a ≡ n) × (offset_of a ≡ 2 * k) = place_told thread n k small low in
    let x : (x : Start) × (get t.starts a ≡ Some x) = has_old t cg a e in
    let old : IsOld t cg a x.0 = old_told t cg a x.0 x.1 e in
    let is : IsStart q k × (x.0 ≡ object_at q k) = spot_is q k x.0 (sym (get_told thread p n k s low) ∙ x.1) in
    let w : (word : ℕ) × (offset_of a ≤ word) × (word < offset_of a + size_for x.0.kind x.0.length) × IsMarkedAt cg (segment_at t (segment_of a)) word = old.marked in
    let size : size_for x.0.kind x.0.length ≡ size_at q k = ap (λ (v : Start). size_for v.kind v.length) is.1 ∙ size_told q.space (first_at q k) in
    let at : segment_at t (segment_of a) ≡ seen q = ap (segment_at t) place.0 ∙ seen_at p.segments n in (
      subst (λ (v : Start). cg < v.generation) is.1 old.older,
      (is.0, (w.0, omega (arith, place.1, w.1), omega (arith, place.1, size, w.2), marked_seen cg w.0 q (subst (λ o. IsMarkedAt cg o w.0) at w.3))),
    )

pub not_old : (thread : ℕ) (p : PoolView) (targets : Targets) (cg n k : ℕ) → IsSettled p → n < SEGMENTS → 2 * k < OFFSETS → (IsOldAt p.segments cg n k → ⊥) → is_old (territory_view thread p targets) cg (address_of thread n (2 * k)) ≡ false
not_old thread p targets cg n k s small low never =
    elim (is_old (territory_view thread p targets) cg (address_of thread n (2 * k))) as (λ b. is_old (territory_view thread p targets) cg (address_of thread n (2 * k)) ≡ b → b ≡ false) [
      | true ↦ λ e. absurd (never (seen_old thread p targets cg n k s small low e))
      | false ↦ λ e. refl
    ] refl
