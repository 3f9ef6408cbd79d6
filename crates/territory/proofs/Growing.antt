-- A pool gets a number more.
use Rattle.std.proofs.Common.{◌≡◌, ◌⊎◌, ℕ, zero, suc, ◌+◌, ◌<◌, ◌≤◌, true, false, cond, nat_lt, List, [], ◌∷◌, ◌++◌, length, replicate, Option, Some, None, is_some, refl, sym, ◌∙◌, ap, subst, arith, inl, inr}
use Rattle.std.proofs.lemmas.List.{length_push, length-replicate}
use Rattle.std.proofs.lemmas.Bool.Decides.{nat_tests}
use Rattle.std.proofs.lemmas.Option.{slice_get_within, get_or_from_slice_get, same_Some}
use Rattle.std.proofs.lemmas.List.Sums.{sum_by-cons}
use Rattle.std.specs.List.{last_or, slice_get, sum_by, count_by}
use Rattle.gc_words.specs.declared.address.TheConstants.{SEGMENTS}
use Rattle.seg_chain.specs.Lists.{chain_of, link_count, times, with_last, EachOnce}
use Rattle.seg_chain.proofs.Counts.{here_in, later_in, times_from_index}
use Rattle.seg_chain.proofs.Calls.{link_count-replicate}
use Rattle.seg_chain.proofs.Laws.{chain_of-replicate, chain_of-with_last}
use Rattle.segment.specs.Segments.{Segment, IsSound, spot, vacant}
use Rattle.segment.proofs.Collected.{IsSound-vacant, spot_vacant}
use Rattle.territory.specs.declared.counts.SegmentCounts.{SegmentCounts}
use Rattle.territory.specs.Territories.{with_number}
use Rattle.territory.specs.Pools.{PoolView, numbered, list_of, IsIn, AreListed, IsSettled, used_words, is_held, cells_in, shows_dirty}
use Rattle.territory.specs.Changes.{IsTaken}
use Rattle.territory.proofs.Numbers.{numbered_push, numbered_past}
use Rattle.territory.proofs.Listing.{listed_push, listed_more, linked_below, is_last}
use Rattle.territory.proofs.Dirtying.{dirty_push, dirty_linked}
use Rattle.territory.proofs.Opening.{open_push}
use Rattle.territory.proofs.Counting.{counted_push}

-- a vacant segment more
pub settled_push : (p now : PoolView) (dirty : List (List ℕ)) (segments : List Segment) (s : Segment) → p ≡ now → IsSettled now → link_count now.lists < SEGMENTS → length p.segments ≤ link_count p.lists
    → length dirty ≡ 2 → link_count p.dirty ≤ link_count dirty → EachOnce dirty → chain_of dirty 1 ≡ chain_of p.dirty 1 → length p.segments < link_count dirty → segments ≡ p.segments ++ s ∷ [] → s ≡ vacant
    → IsSettled (record p { segments = segments; dirty = dirty })
settled_push p now dirty segments s e done room all two links once same more is v =
    let t : IsSettled p = subst IsSettled (sym e) done in
    let b : link_count p.lists < SEGMENTS = subst (λ (q : PoolView). link_count q.lists < SEGMENTS) (sym e) room in
    let is' : p.segments ++ vacant ∷ [] ≡ segments = sym (is ∙ ap (λ q. p.segments ++ q ∷ []) v) in
    subst (λ w. IsSettled (record p { segments = w; dirty = dirty })) is' (record {
      count = omega (arith, length_push p.segments vacant);
      sound = λ n. subst IsSound (sym (numbered_push p.segments n)) (t.sound n);
      generations = λ n. subst (λ (q : Segment). q.generation < 9) (sym (numbered_push p.segments n)) (t.generations n);
      lengths = λ n k x h. t.lengths n k x (ap (λ q. spot q k) (sym (numbered_push p.segments n)) ∙ h);
      listed = listed_push p.segments p.lists t.listed;
      open_areas = open_push p.segments p.areas t.open_areas;
      dirty = dirty_push p.segments dirty (dirty_linked p.segments p.dirty dirty t.dirty two links once same) more;
      counted = counted_push p.segments p.areas p.counts t.counted;
    })

-- links more
pub settled_links : (p now : PoolView) (dirty : List (List ℕ)) → p ≡ now → IsSettled now → length dirty ≡ 2 → link_count p.dirty ≤ link_count dirty → EachOnce dirty → chain_of dirty 1 ≡ chain_of p.dirty 1 → IsSettled (record p { dirty = dirty })
settled_links p now dirty e done two links once same =
    let t : IsSettled p = subst IsSettled (sym e) done in
    record { count = t.count; sound = t.sound; generations = t.generations; lengths = t.lengths; listed = t.listed; open_areas = t.open_areas; dirty = dirty_linked p.segments p.dirty dirty t.dirty two links once same; counted = t.counted }

-- the next number is free
pub settled_more : (p now : PoolView) (lists : List (List ℕ)) (n : ℕ) → p ≡ now → IsSettled now → n ≡ link_count p.lists → link_count now.lists < length now.segments → lists ≡ with_last p.lists 0 n → link_count lists ≡ link_count p.lists + 1 → EachOnce lists → IsSettled (record p { lists = lists })
settled_more p now lists n eq done i b' e k once =
    let t : IsSettled p = subst IsSettled (sym eq) done in
    let b : n < length p.segments = omega (arith, ap (λ (v : PoolView). length v.segments) eq, ap (λ (v : PoolView). link_count v.lists) eq) in
    record {
      count = t.count;
      sound = t.sound;
      generations = t.generations;
      lengths = t.lengths;
      listed = subst (AreListed p.segments) (sym e) (listed_more p.segments p.lists n t.listed i b (ap link_count (sym e) ∙ k) (subst EachOnce e once));
      open_areas = t.open_areas;
      dirty = t.dirty;
      counted = t.counted;
    }

-- what stands at some place of a list stands in the list
pub in_at : (xs : List ℕ) (k n : ℕ) → slice_get xs k ≡ Some n → 0 < times n xs
in_at xs k n e = times_from_index xs n k (slice_get_within xs k n e) (get_or_from_slice_get xs k n n e)

pub no_first : (xs : List ℕ) (o : Option ℕ) → o ≡ slice_get xs 0 → (o ≡ None) → xs ≡ []
no_first [] o e f = refl
no_first (x ∷ xs) o e f = absurd (let g : None ≡ Some x = sym f ∙ e in cc)

-- the last number of a list stands in it
last_in : (o : Option ℕ) (xs : List ℕ) (n : ℕ) → last_or o xs ≡ Some n → (o ≡ Some n) ⊎ (0 < times n xs)
last_in o [] n e = inl e
last_in o (x ∷ xs) n e =
    elim (last_in (Some x) xs n e) [
      | inl same ↦ inr (subst (λ v. 0 < times v (x ∷ xs)) (same_Some _ _ same) (here_in x xs))
      | inr later ↦ inr (later_in n x xs later)
    ]

in_last : (xs : List ℕ) (n : ℕ) → last_or None xs ≡ Some n → 0 < times n xs
in_last xs n e = elim (last_in None xs n e) [ inl none ↦ absurd (cc) | inr k ↦ k ]

some_last : (x : ℕ) (xs : List ℕ) → last_or (Some x) xs ≡ None → ⊥
some_last x [] e = absurd (cc)
some_last x (y ∷ xs) e = some_last y xs e

no_last : (xs : List ℕ) (o : Option ℕ) → o ≡ last_or None xs → (o ≡ None) → xs ≡ []
no_last [] o e f = refl
no_last (x ∷ xs) o e f = absurd (some_last x xs (sym e ∙ f))

below_same : (lists : List (List ℕ)) (n : ℕ) → n < link_count lists → with_number lists n ≡ lists
below_same lists n b = let t : nat_lt n (link_count lists) ≡ true = grind (arith, nat_tests, b) in ap (λ w. cond w lists (with_last lists 0 n)) t

at_end : (lists : List (List ℕ)) (n : ℕ) → n ≡ link_count lists → with_number lists n ≡ with_last lists 0 n
at_end lists n e = let t : nat_lt n (link_count lists) ≡ false = grind (arith, nat_tests, e) in ap (λ w. cond w lists (with_last lists 0 n)) t

-- a free number is taken
pub taken_last : (p now : PoolView) (r : Option ℕ) (n : ℕ) → p ≡ now → IsSettled now → r ≡ last_or None (chain_of p.lists 0) → r ≡ Some n → IsTaken now now n
taken_last p now r n e t f is =
    let last : last_or None (chain_of now.lists 0) ≡ Some n = ap (λ (q : PoolView). last_or None (chain_of q.lists 0)) (sym e) ∙ (sym f ∙ is) in
    let i : IsIn now.lists 0 n = in_last (chain_of now.lists 0) n last in
    let b : n < link_count now.lists = linked_below now.lists 0 n t.listed.each_once i in
    record {
      next = inl last;
      lists = sym (below_same now.lists n b);
      within = omega (arith, t.listed.known);
      loose = i;
    }

-- a number that was never used is taken
pub taken_more : (old mid p : PoolView) (lists : List (List ℕ)) (r : Option ℕ) (n : ℕ) (q : PoolView) → q ≡ old → r ≡ last_or None (chain_of q.lists 0) → r ≡ None → mid.lists ≡ old.lists → p ≡ mid → IsSettled mid
    → n ≡ link_count p.lists → link_count mid.lists < length mid.segments → lists ≡ with_last p.lists 0 n
    → IsTaken old (record p { lists = lists }) n
taken_more old mid p lists r n q eq f none same e t i b is =
    let l : p.lists ≡ old.lists = ap (λ (v : PoolView). v.lists) e ∙ same in
    let i' : n ≡ link_count old.lists = i ∙ ap link_count l in
    let chains : length p.lists ≡ 19 = ap (λ (v : PoolView). length v.lists) e ∙ t.listed.chains in
    record {
      next = inr (no_last (chain_of old.lists 0) r (f ∙ ap (λ (v : PoolView). last_or None (chain_of v.lists 0)) eq) none, i');
      lists = is ∙ (ap (λ v. with_last v 0 n) l ∙ sym (at_end old.lists n i'));
      within = omega (arith, ap (λ (v : PoolView). length v.segments) e, ap (λ (v : PoolView). link_count v.lists) e);
      loose = subst (λ v. 0 < times n v) (sym (ap (λ v. chain_of v 0) is ∙ chain_of-with_last p.lists 0 n (omega arith))) (is_last n (chain_of p.lists 0));
    }

none_at : (n k m : ℕ) → slice_get (replicate {A = Option ℕ} n None) k ≡ Some (Some m) → ⊥
none_at zero k m e = cc
none_at (suc n) zero m e = let f : None ≡ Some m = same_Some _ _ e in cc
none_at (suc n) (suc k) m e = none_at n k m e

none_in : (n c m : ℕ) → 0 < times m (chain_of (replicate n []) c) → ⊥
none_in n c m h = omega (arith, h, ap (times m) (chain_of-replicate n c))

none_counted : (n : ℕ) → count_by is_some (replicate {A = Option ℕ} n None) ≡ 0
none_counted zero = refl
none_counted (suc n) = omega (arith, sum_by-cons (λ (o : Option ℕ). cond (is_some o) 1 0) None (replicate {A = Option ℕ} n None), none_counted n)

pub settled_new : (segments : List Segment) (areas : List (Option ℕ)) (lists dirty : List (List ℕ)) (counts : SegmentCounts) → segments ≡ [] → areas ≡ replicate 72 None → lists ≡ replicate 19 [] → EachOnce lists → dirty ≡ replicate 2 [] → EachOnce dirty
    → counts ≡ record { segment_words = 0; open_areas = 0; held_segments = 0; cells = 0 }
    → IsSettled (record { segments = segments; areas = areas; lists = lists; dirty = dirty; counts = counts })
settled_new segments areas lists dirty counts e f g once h once' c =
    let l : length segments ≡ 0 = ap length e in
    let at : (n : ℕ) → vacant ≡ numbered segments n = λ n. sym (numbered_past segments n (omega arith)) in
    record {
      count = omega arith;
      sound = λ n. subst IsSound (at n) IsSound-vacant;
      generations = λ n. subst (λ (q : Segment). q.generation < 9) (at n) (omega arith);
      lengths = λ n k x h. absurd (let z : None ≡ Some x = sym (spot_vacant k) ∙ (ap (λ q. spot q k) (at n) ∙ h) in cc);
      listed = record {
        chains = ap length g ∙ length-replicate {A = List ℕ} 19 [];
        known = omega (arith, ap link_count g, link_count-replicate 19);
        each_once = once;
        fits = λ b n i. absurd (none_in 19 b n (subst (λ v. 0 < times n (chain_of v b)) g i));
        unlisted = λ n b. ap list_of (sym (at n));
      };
      open_areas = record {
        count = ap length f ∙ length-replicate {A = Option ℕ} 72 None;
        fits = λ k n i. absurd (none_at 72 k n (ap (λ v. slice_get v k) (sym f) ∙ i));
      };
      dirty = record {
        chains = ap length h ∙ length-replicate {A = List ℕ} 2 [];
        known = omega arith;
        each_once = once';
        shown = λ n i. absurd (none_in 2 1 n (subst (λ v. 0 < times n (chain_of v 1)) h i));
        listed = λ n t. let z : shows_dirty (numbered segments n) ≡ false = ap shows_dirty (sym (at n)) in cc;
      };
      counted = record {
        words = ap (λ (v : SegmentCounts). v.segment_words) c ∙ sym (ap (sum_by used_words) e);
        open_areas = ap (λ (v : SegmentCounts). v.open_areas) c ∙ sym (ap (count_by is_some) f ∙ none_counted 72);
        held = ap (λ (v : SegmentCounts). v.held_segments) c ∙ sym (ap (count_by is_held) e);
        cells = ap (λ (v : SegmentCounts). v.cells) c ∙ sym (ap (sum_by cells_in) e);
      };
    }
