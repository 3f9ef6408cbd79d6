-- What `copy_pair` leaves of a territory: a copy of a pair, start k of segment `from`, in segment n; `mid` is the pool in
-- which there is room for it.
use Rattle.std.proofs.Common.{◌≡◌, ℕ, ◌+◌, ◌*◌, ◌/◌, ◌<◌, false, cond, length, List, Option, IsSome, IfSome, refl, sym, ◌∙◌, ap, subst, arith}
use Rattle.std.proofs.lemmas.List.{get_or_default}
use Rattle.std.proofs.lemmas.Option.{same_Some}
use Rattle.std.specs.FinMap.{get}
use Rattle.gc_words.specs.declared.address.TheConstants.{SEGMENTS, OFFSETS}
use Rattle.gc_words.specs.Layout.{IsAddress, IsMadeOf, address_of, offset_of, segment_of}
use Rattle.seg_chain.specs.Lists.{chain_of}
use Rattle.trace_types.specs.declared.kind.Kind.TheVariants as kind
use Rattle.segment.specs.declared.space.Space.{Space}
use Rattle.segment.specs.declared.space.Space.TheVariants as space
use Rattle.segment.specs.Layout.{kind_of, skip_of, space_of}
use Rattle.segment.specs.Segments.{HasRoom, IsStart, Segment, Start, first_at, is_free, object_at, size_at, vacant}
use Rattle.territory.specs.declared.territory.Targets.{Targets}
use Rattle.territory.specs.Territories.{AreCardsSound, TerritoryView}
use Rattle.territory.specs.Pools.{IsSettled, PoolView, is_cell_space, numbered, territory_view}
use Rattle.territory.specs.Copies.{IsPlacedLike, RefersToNoneBelow, with_copied}
use Rattle.territory.specs.Following.{IsCopyOf, IsPairAt}
use Rattle.territory.proofs.Allocated.{address_is}
use Rattle.territory.proofs.Copied.{settled_copied}
use Rattle.territory.proofs.Copying.{IsCopied, IsRead, no_start, told_place, told_sound, told_start}
use Rattle.territory.proofs.OldTests.{skip_same}
use Rattle.territory.proofs.Reading.{IsReached, if_some, reach}
use Rattle.territory.proofs.Reeling.{size_pair}

-- ---- a pair lies in the space of pairs

-- no pair has a header
headed : (s : Space) (first : ℕ) → kind_of s first ≡ kind.Pair → skip_of s ≡ 1 → s ≡ space.Pair
headed s first e one = absurd (let none : skip_of s ≡ 0 = sym (skip_same s first) ∙ ap (λ k. skip_of (space_of k)) e in omega arith)

kind_pair : (s : Space) (first : ℕ) → kind_of s first ≡ kind.Pair → s ≡ space.Pair
unfolding kind_of
kind_pair space.Pair first e = refl
kind_pair space.Weak first e = cc
kind_pair space.Ephemeron first e = cc
kind_pair space.Typed first e = headed space.Typed first e refl
kind_pair space.Raw first e = headed space.Raw first e refl
kind_pair space.Immobile first e = headed space.Immobile first e refl
kind_pair space.ImmobileRaw first e = headed space.ImmobileRaw first e refl
kind_pair space.Cell first e = cc

-- ---- the pair that is copied

pub two_words : (segments : List Segment) (from k : ℕ) → (numbered segments from).space ≡ space.Pair → 2 ≡ size_at (numbered segments from) k
two_words segments from k e = sym (size_pair (numbered segments from) (first_at (numbered segments from) k) e)

pub read_pair : (thread : ℕ) (p : PoolView) (targets : Targets) (now : TerritoryView) (at from k : ℕ) → IsSettled p → territory_view thread p targets ≡ now → IsPairAt now at → from ≡ segment_of at → k ≡ offset_of at / 2
    → IsRead thread now p at from k 2 space.Pair
read_pair thread p targets now at from k t e (x, has, pair) es ek =
    let q : Segment = numbered p.segments from in
    let r : IsReached thread p now at = reach thread p targets now at t e (subst IsSome (sym has) refl) in
    let object : r.start ≡ object_at q k = r.present.object ∙ (ap (λ v. object_at (numbered p.segments v) (offset_of at / 2)) (sym es) ∙ ap (object_at q) (sym ek)) in
    let same : x ≡ r.start = same_Some _ _ (sym has ∙ r.has) in
    let in_space : q.space ≡ space.Pair = kind_pair q.space (first_at q k) (ap (λ (v : Start). v.kind) (sym (same ∙ object)) ∙ pair) in
    record {
      reached = r;
      object = object;
      start = subst (IsStart q) (sym ek) (subst (λ v. IsStart (numbered p.segments v) (offset_of at / 2)) (sym es) r.present.starts);
      size_is = two_words p.segments from k in_space;
      space_is = sym in_space;
      segment = sym es;
    }

-- ---- the pool stays settled

pub settled_pair : (p now : PoolView) (from k n : ℕ) (segments : List Segment) → p ≡ now → IsSettled now → IsStart (numbered now.segments from) k → n < length now.segments → is_free (numbered now.segments n).role ≡ false
    → (numbered now.segments from).space ≡ space.Pair → (numbered now.segments n).space ≡ space.Pair → HasRoom (numbered now.segments n) 2 → segments ≡ with_copied p.segments from k n → IsSettled (record p { segments = segments })
settled_pair p now from k n segments e done start within used from_space to_space room is =
    let to : Segment = numbered p.segments n in
    let zero : p.counts.cells + 0 ≡ p.counts.cells = omega arith in
    let none : 0 ≡ cond (is_cell_space to.space) 1 0 = sym (ap (λ v. cond (is_cell_space v) 1 0) (ap (λ (v : PoolView). (numbered v.segments n).space) e ∙ to_space)) in
    subst (λ v. IsSettled (record p { segments = segments; counts = record p.counts { cells = v } })) zero
    (settled_copied p now from k n 2 0 segments to e done start (two_words now.segments from k from_space) within used (from_space ∙ sym to_space) room is
    (get_or_default p.segments n vacant to (subst (λ (v : PoolView). n < length v.segments) (sym e) within)) none)

-- ---- all that is told of the copy

pub told_copy : (thread : ℕ) (targets : Targets) (now : TerritoryView) (old mid new : PoolView) (at from k g size n o a : ℕ) (s : Space) → territory_view thread old targets ≡ now → IsRead thread now old at from k size s → IsCopied old mid new from k g size n
    → new.areas ≡ mid.areas → new.lists ≡ mid.lists → new.dirty ≡ mid.dirty → a ≡ address_of thread n o → IsAddress a → IsMadeOf a thread n o → o ≡ (numbered mid.segments n).top
    → IfSome (get now.starts at) (IsCopyOf now (territory_view thread new targets) at g a)
told_copy thread targets now old mid new at from k g size n o a s e r d areas lists dirty is valid made top =
    let t : TerritoryView = territory_view thread new targets in
    let x : Start = r.reached.start in
    let here : a ≡ (thread * SEGMENTS + n) * OFFSETS + (numbered mid.segments n).top = address_is a thread n o (numbered mid.segments n).top is top in
    let told : (P : Start → Type 0) → IfSome (get now.starts at) P → P x = λ P h. subst (λ v. IfSome v P) r.reached.has h in
    if_some (get now.starts at) x (IsCopyOf now t at g a) r.reached.has (record {
      address = valid;
      thread_is = made.its_thread ∙ ap (λ (v : TerritoryView). v.thread) e;
      free = ap (λ (v : TerritoryView). get v.starts a) (sym e) ∙ no_start (thread * SEGMENTS) old mid new from k g size n a d here;
      starts = told_start thread targets now old mid new at from k g size n a s e r d here;
      placed = told (λ y. IsPlacedLike now t at y g (segment_of a)) (told_place thread targets now old mid new at from k g size n (segment_of a) s e r d areas lists (sym made.its_segment));
      sound = told (λ y. (generation_at : ℕ → Option ℕ) → RefersToNoneBelow generation_at y g → AreCardsSound generation_at now → AreCardsSound generation_at t) (told_sound thread targets now old mid new at from k g size n a s e r d here);
      thread = ap (λ (v : TerritoryView). v.thread) e;
      dirty = ap (λ v. chain_of v 1) dirty ∙ (d.room.dirty ∙ ap (λ (v : TerritoryView). v.dirty) e);
      targets = ap (λ (v : TerritoryView). v.targets) e;
    })
