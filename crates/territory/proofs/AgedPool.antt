-- A pool raises the cards of a dirty segment.
use Rattle.std.proofs.Common.{◌≡◌, ℕ, ◌<◌, ◌≤◌, Bool, true, false, cond, nat_lt, List, length, get_or, set, Contains, refl, sym, ◌∙◌, ap, subst, arith, inl, inr, get_or-set_same}
use Rattle.std.proofs.lemmas.Bool.{cases_eq}
use Rattle.std.proofs.lemmas.Bool.Decides.{nat_tests}
use Rattle.std.proofs.lemmas.List.{length-set, get_or_read, set-get_or}
use Rattle.seg_chain.specs.Lists.{chain_of, link_count, times, without, moved, EachOnce}
use Rattle.seg_chain.proofs.Laws.{length-moved, chain_of-moved_from, times_of, times-without}
use Rattle.segment.specs.Segments.{Segment, IsSound, is_free, vacant}
use Rattle.segment.specs.Aging.{raised}
use Rattle.segment.proofs.Aging.{IsSound-raised}
use Rattle.territory.specs.Pools.{PoolView, IsSettled, AreDirty, numbered, shows_dirty}
use Rattle.territory.specs.Olds.{byte_above, aged, if_dirty}
use Rattle.territory.proofs.Numbers.{numbered-set_same, numbered-set_other, each_set, spot_set, used_within}
use Rattle.territory.proofs.Listing.{listed_same, times_without_self}
use Rattle.territory.proofs.Dirtying.{dirty_same}
use Rattle.territory.proofs.Opening.{open_changed}
use Rattle.territory.proofs.Counting.{counted_changed}

-- ---- the dirty segment
pub record IsDirtyHere (p : PoolView) (n : ℕ) : Type 0 where
  pub settled : IsSettled p
  pub within : n < length p.segments
  pub shows : shows_dirty (numbered p.segments n) ≡ true
  pub used : is_free (numbered p.segments n).role ≡ false

shows_used : (p : Segment) → shows_dirty p ≡ true → is_free p.role ≡ false
shows_used p h = elim (is_free p.role) as (λ b. cond b false p.is_dirty ≡ true → b ≡ false) [ true ↦ λ e. cc | false ↦ λ e. refl ] h

pub in_chain : (p : PoolView) (n : ℕ) → IsSettled p → 0 < times n (chain_of p.dirty 1) → IsDirtyHere p n
in_chain p n s i =
    let shows : shows_dirty (numbered p.segments n) ≡ true = s.dirty.shown n i in
    let used : is_free (numbered p.segments n).role ≡ false = shows_used (numbered p.segments n) shows in
    record { settled = s; within = used_within p.segments n used; shows = shows; used = used }

pub dirty_here : (p now : PoolView) (n : ℕ) → p ≡ now → IsSettled now → Contains (chain_of now.dirty 1) n → IsDirtyHere p n
dirty_here p now n e s i = subst (λ (v : PoolView). IsDirtyHere v n) (sym e) (in_chain now n s (times_of (chain_of now.dirty 1) n i))

pub read_is : (p : PoolView) (n : ℕ) (q : Segment) → IsDirtyHere p n → q ≡ get_or p.segments n q → q ≡ numbered p.segments n
read_is p n q h read = get_or_read p.segments n q h.within read vacant

pub read_used : (p : PoolView) (n : ℕ) (q : Segment) → IsDirtyHere p n → q ≡ get_or p.segments n q → is_free q.role ≡ false
read_used p n q h read = subst (λ (v : Segment). is_free v.role ≡ false) (sym (read_is p n q h read)) h.used

-- ---- older than cg, or not
pub aged_older : (cg : ℕ) (p : Segment) → cg < p.generation → aged cg p ≡ raised cg (byte_above cg p.generation) p
aged_older cg p h = let t : nat_lt cg p.generation ≡ true = grind (arith, nat_tests, h) in ap (λ b. cond b (raised cg (byte_above cg p.generation) p) p) t

pub aged_young : (cg : ℕ) (p : Segment) → p.generation ≤ cg → aged cg p ≡ p
aged_young cg p h = let t : nat_lt cg p.generation ≡ false = grind (arith, nat_tests, h) in ap (λ b. cond b (raised cg (byte_above cg p.generation) p) p) t

pub still_young : (p now : PoolView) (n cg g : ℕ) (q : Segment) → p ≡ now → IsDirtyHere p n → q ≡ get_or p.segments n q → g ≡ q.generation → g ≤ cg
    → (now.segments ≡ set now.segments n (aged cg (numbered now.segments n))) × (chain_of now.dirty 1 ≡ if_dirty (shows_dirty (aged cg (numbered now.segments n))) n (chain_of now.dirty 1))
still_young p now n cg g q e h read eg low =
    let old : Segment = numbered p.segments n in
    let young : aged cg old ≡ old = aged_young cg old (omega (arith, low, eg, ap (λ (v : Segment). v.generation) (read_is p n q h read))) in
    subst (λ (v : PoolView). (v.segments ≡ set v.segments n (aged cg (numbered v.segments n))) × (chain_of v.dirty 1 ≡ if_dirty (shows_dirty (aged cg (numbered v.segments n))) n (chain_of v.dirty 1))) e (
      sym (ap (set p.segments n) young ∙ set-get_or p.segments n vacant),
      sym (ap (λ v. if_dirty v n (chain_of p.dirty 1)) (ap shows_dirty young ∙ h.shows)),
    )

-- what the segment is after its cards were raised
pub record IsRaised (p : PoolView) (n cg to : ℕ) (q' : Segment) : Type 0 where
  pub here : IsDirtyHere p n
  pub is : q' ≡ raised cg to (numbered p.segments n)
  pub older : aged cg (numbered p.segments n) ≡ q'

pub raised_here : (p : PoolView) (n cg g to : ℕ) (r q q' : Segment) → IsDirtyHere p n → r ≡ get_or p.segments n r → g ≡ r.generation → cg < g → to ≡ byte_above cg g → q ≡ get_or p.segments n q → q' ≡ raised cg to q → IsRaised p n cg to q'
raised_here p n cg g to r q q' h read eg older et read' is =
    let old : Segment = numbered p.segments n in
    let g_is : g ≡ old.generation = eg ∙ ap (λ (v : Segment). v.generation) (read_is p n r h read) in
    let q_is : q' ≡ raised cg to old = is ∙ ap (raised cg to) (read_is p n q h read') in
    record {
      here = h;
      is = q_is;
      older = aged_older cg old (omega arith) ∙ (ap (λ v. raised cg v old) (sym (et ∙ ap (byte_above cg) g_is)) ∙ sym q_is);
    }

-- ---- the pool with it
pub settled_raised : (p : PoolView) (n cg to : ℕ) (q' : Segment) (dirty : List (List ℕ)) → IsRaised p n cg to q' → AreDirty (set p.segments n q') dirty → IsSettled (record p { segments = set p.segments n q'; dirty = dirty })
settled_raised p n cg to q' dirty r d =
    let t : IsSettled p = r.here.settled in
    let old : Segment = numbered p.segments n in
    let m : Segment = raised cg to old in
    subst (λ v. AreDirty (set p.segments n v) dirty → IsSettled (record p { segments = set p.segments n v; dirty = dirty })) (sym r.is) (λ d'. record {
      count = omega (arith, length-set p.segments n m, t.count);
      sound = each_set IsSound p.segments n m t.sound (IsSound-raised old cg to (t.sound n) r.here.used);
      generations = each_set (λ (v : Segment). v.generation < 9) p.segments n m t.generations (t.generations n);
      lengths = spot_set p.segments n m t.lengths (λ j x e. t.lengths n j x e);
      listed = listed_same p.segments p.lists n m t.listed refl;
      open_areas = open_changed p.segments p.areas n m t.open_areas r.here.within (λ k o. record { current = o.current; space_is = o.space_is; generation_is = o.generation_is; never_held = o.never_held });
      dirty = d';
      counted = counted_changed p.segments p.areas p.counts p.counts n m 0 0 t.counted r.here.within (omega arith) refl (omega arith) (omega arith) refl refl (omega arith);
    }) d

-- whether it is dirty still, as it is read
pub shows_read : (p : PoolView) (n cg to : ℕ) (q' q : Segment) (b : Bool) → IsRaised p n cg to q' → q ≡ get_or (set p.segments n q') n q → b ≡ q.is_dirty → shows_dirty q' ≡ b
shows_read p n cg to q' q b r read is =
    let q_is : q ≡ q' = read ∙ get_or-set_same p.segments n q' q r.here.within in
    let used : is_free q'.role ≡ false = subst (λ (v : Segment). is_free v.role ≡ false) (sym r.is) r.here.used in
    ap (λ v. cond v false q'.is_dirty) used ∙ sym (is ∙ ap (λ (v : Segment). v.is_dirty) q_is)

pub dirty_kept : (p : PoolView) (n cg to : ℕ) (q' : Segment) → IsRaised p n cg to q' → shows_dirty q' ≡ true → AreDirty (set p.segments n q') p.dirty
dirty_kept p n cg to q' r s = dirty_same p.segments p.dirty n q' r.here.settled.dirty (s ∙ sym r.here.shows)

-- a segment is clean from now on
dirty_cleaned : (segments : List Segment) (dirty : List (List ℕ)) (n : ℕ) (p : Segment) → AreDirty segments dirty → n < length segments → shows_dirty p ≡ false → link_count (moved dirty 1 0 n) ≡ link_count dirty → EachOnce (moved dirty 1 0 n)
    → AreDirty (set segments n p) (moved dirty 1 0 n)
dirty_cleaned segments dirty n p d b clean k once =
    let chain : chain_of (moved dirty 1 0 n) 1 ≡ without n (chain_of dirty 1) = chain_of-moved_from dirty 1 0 n (omega (arith, d.chains)) (omega arith) in
    record {
      chains = length-moved dirty 1 0 n ∙ d.chains;
      known = omega (arith, k, d.known, length-set segments n p);
      each_once = once;
      shown = λ m i.
          let i' : 0 < times m (without n (chain_of dirty 1)) = subst (λ v. 0 < times m v) chain i in
          elim (cases_eq m n) [
            | inl same ↦ absurd (times_without_self n m (chain_of dirty 1) same i')
            | inr other ↦ ap shows_dirty (numbered-set_other segments n m p other) ∙ d.shown m (omega (arith, times-without n m (chain_of dirty 1) other))
          ];
      listed = λ m t. subst (λ v. 0 < times m v) (sym chain) (elim (cases_eq m n) [
        | inl same ↦ absurd (let c : true ≡ false = sym t ∙ (ap (λ v. shows_dirty (numbered (set segments n p) v)) same ∙ (ap shows_dirty (numbered-set_same segments n p b) ∙ clean)) in cc)
        | inr other ↦ omega (arith, times-without n m (chain_of dirty 1) other, d.listed m (sym (ap shows_dirty (numbered-set_other segments n m p other)) ∙ t))
      ]);
    }

pub dirty_out : (p : PoolView) (n cg to : ℕ) (q' : Segment) (dirty : List (List ℕ)) → IsRaised p n cg to q' → shows_dirty q' ≡ false → dirty ≡ moved p.dirty 1 0 n → link_count dirty ≡ link_count p.dirty → EachOnce dirty → AreDirty (set p.segments n q') dirty
dirty_out p n cg to q' dirty r clean is links once =
    subst (AreDirty (set p.segments n q')) (sym is) (dirty_cleaned p.segments p.dirty n q' r.here.settled.dirty r.here.within clean (ap link_count (sym is) ∙ links) (subst EachOnce is once))

-- ---- what the contract says
pub segments_raised : (p now : PoolView) (n cg to : ℕ) (q' : Segment) → p ≡ now → IsRaised p n cg to q' → set p.segments n q' ≡ set now.segments n (aged cg (numbered now.segments n))
segments_raised p now n cg to q' e r = ap (set p.segments n) (sym r.older) ∙ ap (λ (v : PoolView). set v.segments n (aged cg (numbered v.segments n))) e

pub chain_kept : (p now : PoolView) (n cg to : ℕ) (q' : Segment) → p ≡ now → IsRaised p n cg to q' → shows_dirty q' ≡ true → chain_of p.dirty 1 ≡ if_dirty (shows_dirty (aged cg (numbered now.segments n))) n (chain_of now.dirty 1)
chain_kept p now n cg to q' e r s =
    sym (ap (λ v. if_dirty v n (chain_of p.dirty 1)) (ap shows_dirty r.older ∙ s)) ∙ ap (λ (v : PoolView). if_dirty (shows_dirty (aged cg (numbered v.segments n))) n (chain_of v.dirty 1)) e

pub chain_out : (p now : PoolView) (n cg to : ℕ) (q' : Segment) (dirty : List (List ℕ)) → p ≡ now → IsRaised p n cg to q' → shows_dirty q' ≡ false → dirty ≡ moved p.dirty 1 0 n → chain_of dirty 1 ≡ if_dirty (shows_dirty (aged cg (numbered now.segments n))) n (chain_of now.dirty 1)
chain_out p now n cg to q' dirty e r s is =
    ap (λ v. chain_of v 1) is
    ∙ (chain_of-moved_from p.dirty 1 0 n (omega (arith, r.here.settled.dirty.chains)) (omega arith)
    ∙ (sym (ap (λ v. if_dirty v n (chain_of p.dirty 1)) (ap shows_dirty r.older ∙ s))
    ∙ ap (λ (v : PoolView). if_dirty (shows_dirty (aged cg (numbered v.segments n))) n (chain_of v.dirty 1)) e))
