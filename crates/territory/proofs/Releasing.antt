-- A from-segment is given back, or kept with what is held in it.
use Rattle.std.proofs.Common.{◌≡◌, ◌≢◌, ℕ, ◌+◌, ◌-◌, ◌*◌, ◌<◌, ◌≤◌, Bool, true, false, cond, eqb, List, length, get_or, set, Option, Some, None, Contains, refl, sym, ◌∙◌, ap, subst, arith, inl, inr}
use Rattle.std.proofs.lemmas.Bool.{cases_eq, cases_lt}
use Rattle.std.proofs.lemmas.List.{length-set, get_or_read}
use Rattle.std.proofs.lemmas.Option.{same_Some}
use Rattle.gc_words.specs.declared.address.TheConstants.{SEGMENTS, OFFSETS}
use Rattle.seg_chain.specs.Lists.{chain_of, link_count, times, without, moved, EachOnce}
use Rattle.seg_chain.proofs.Laws.{times-without, contains_of, chain_of-moved_to}
use Rattle.segment.specs.declared.segment.Role.TheVariants.{Free, Current, From}
use Rattle.segment.specs.Layout.{HasLength}
use Rattle.segment.specs.Segments.{Segment, Start, IsSound, is_free, spot, emptied, given_back, kept_marked, kept_spot, in_generation, vacant}
use Rattle.segment.proofs.Collected.{IsSound-given_back, IsSound-kept, spot_given_back, spot_kept_all}
use Rattle.territory.specs.declared.counts.SegmentCounts.{SegmentCounts}
use Rattle.territory.specs.Pools.{PoolView, numbered, list_of, list_for, IsIn, AreListed, AreDirty, AreCounted, IsSettled, used_words, is_held, cells_in, shows_dirty}
use Rattle.territory.proofs.Numbers.{each_set, spot_set, sum_by-set, sum_by_part, numbered-set_same, numbered-set_other, used_within}
use Rattle.territory.proofs.Listing.{listed_at, in_use_linked, listed_moved, times_without_self, is_last}
use Rattle.territory.proofs.Dirtying.{dirty_same}
use Rattle.territory.proofs.Opening.{open_changed}
use Rattle.territory.proofs.Grown.{cells_fit, cells_small}
use Rattle.territory.proofs.Moving.{moved_twice}

-- the from-segment that is read
pub record IsAsideHere (p now : PoolView) (n : ℕ) (q : Segment) : Type 0 where
  pub settled : IsSettled p
  pub within : n < length p.segments
  pub is : q ≡ numbered p.segments n
  pub back : numbered p.segments n ≡ numbered now.segments n
  pub aside : (numbered p.segments n).role ≡ From

pub aside_here : (p now : PoolView) (n : ℕ) (q : Segment) → p ≡ now → IsSettled now → (numbered now.segments n).role ≡ From → q ≡ get_or p.segments n q → IsAsideHere p now n q
aside_here p now n q e done aside read =
    let back : numbered p.segments n ≡ numbered now.segments n = ap (λ (v : PoolView). numbered v.segments n) e in
    let aside' : (numbered p.segments n).role ≡ From = ap (λ (v : Segment). v.role) back ∙ aside in
    let b : n < length p.segments = used_within p.segments n (ap is_free aside') in
    record { settled = subst IsSettled (sym e) done; within = b; is = get_or_read p.segments n q b read vacant; back = back; aside = aside' }

pub its_list : (p now : PoolView) (n : ℕ) (q : Segment) (g list : ℕ) → IsAsideHere p now n q → g ≡ q.generation → list ≡ g → 10 + list ≡ list_of (numbered p.segments n)
its_list p now n q g list h eg el =
    let e : list ≡ (numbered p.segments n).generation = el ∙ (eg ∙ ap (λ (v : Segment). v.generation) h.is) in
    ap (λ v. 10 + v) e ∙ sym (ap (λ r. list_for r (numbered p.segments n).generation) h.aside)

aside_linked : (p now : PoolView) (n : ℕ) (q : Segment) → IsAsideHere p now n q → IsIn p.lists (list_of (numbered p.segments n)) n
aside_linked p now n q h =
    let l : list_of (numbered p.segments n) ≡ 10 + (numbered p.segments n).generation = ap (λ r. list_for r (numbered p.segments n).generation) h.aside in
    listed_at p.segments p.lists n h.settled.listed (in_use_linked p.segments p.lists n h.settled.listed (λ z. absurd (omega arith)))

pub linked_here : (p now : PoolView) (n : ℕ) (q : Segment) (g list : ℕ) → IsAsideHere p now n q → g ≡ q.generation → list ≡ g → Contains (chain_of p.lists (10 + list)) n
linked_here p now n q g list h eg el =
    contains_of n (chain_of p.lists (10 + list)) (subst (λ v. IsIn p.lists v n) (sym (its_list p now n q g list h eg el)) (aside_linked p now n q h))

-- ---- the chain of dirty segments
dirty_is : (p now : PoolView) (n : ℕ) (q : Segment) (b : Bool) → IsAsideHere p now n q → b ≡ q.is_dirty → shows_dirty (numbered p.segments n) ≡ b
dirty_is p now n q b h e = ap (λ r. cond (is_free r) false (numbered p.segments n).is_dirty) h.aside ∙ (ap (λ (v : Segment). v.is_dirty) (sym h.is) ∙ sym e)

pub dirty_there : (p now : PoolView) (n : ℕ) (q : Segment) (b : Bool) → IsAsideHere p now n q → b ≡ q.is_dirty → b ≡ true → Contains (chain_of p.dirty 1) n
dirty_there p now n q b h e t = contains_of n (chain_of p.dirty 1) (h.settled.dirty.listed n (dirty_is p now n q b h e ∙ t))

pub dirty_nowhere : (p now : PoolView) (n : ℕ) (q : Segment) (b : Bool) → IsAsideHere p now n q → b ≡ q.is_dirty → b ≡ false → times n (chain_of p.dirty 1) ≡ 0
dirty_nowhere p now n q b h e t =
    elim (cases_lt 0 (times n (chain_of p.dirty 1))) [
      | inl i ↦ absurd (let c : true ≡ false = sym (h.settled.dirty.shown n i) ∙ (dirty_is p now n q b h e ∙ t) in cc)
      | inr z ↦ omega arith
    ]

without_self : (n : ℕ) (xs : List ℕ) → times n (without n xs) ≡ 0
without_self n xs = elim (cases_lt 0 (times n (without n xs))) [ inl i ↦ absurd (times_without_self n n xs refl i) | inr z ↦ omega arith ]

-- a segment is dirty no more
dirty_cleared : (segments : List Segment) (dirty dirty' : List (List ℕ)) (n : ℕ) (q : Segment) → AreDirty segments dirty → n < length segments → shows_dirty q ≡ false
    → length dirty' ≡ 2 → link_count dirty' ≡ link_count dirty → EachOnce dirty' → chain_of dirty' 1 ≡ without n (chain_of dirty 1) → AreDirty (set segments n q) dirty'
dirty_cleared segments dirty dirty' n q d b clean two links once chain =
    let not_n : (m : ℕ) → IsIn dirty' 1 m → m ≢ n = λ m i same. absurd (omega (arith, subst (λ v. 0 < times v (without n (chain_of dirty 1))) same (subst (λ v. 0 < times m v) chain i), without_self n (chain_of dirty 1))) in
    record {
      chains = two;
      known = omega (arith, d.known, length-set segments n q);
      each_once = once;
      shown = λ m i. ap shows_dirty (numbered-set_other segments n m q (not_n m i)) ∙ d.shown m (omega (arith, subst (λ v. 0 < times m v) chain i, times-without n m (chain_of dirty 1) (not_n m i)));
      listed = λ m t. elim (cases_eq m n) [
        | inl same ↦ absurd (let c : true ≡ false = sym t ∙ (ap (λ v. shows_dirty (numbered (set segments n q) v)) same ∙ (ap shows_dirty (numbered-set_same segments n q b) ∙ clean)) in cc)
        | inr other ↦ subst (λ v. 0 < times m v) (sym chain) (omega (arith, times-without n m (chain_of dirty 1) other, d.listed m (sym (ap shows_dirty (numbered-set_other segments n m q other)) ∙ t)))
      ];
    }

-- ---- the counters
counted_by : (segments : List Segment) (areas : List (Option ℕ)) (counts counts' : SegmentCounts) (n : ℕ) (q : Segment) → AreCounted segments areas counts → n < length segments
    → counts'.segment_words + used_words (numbered segments n) ≡ counts.segment_words + used_words q → counts'.open_areas ≡ counts.open_areas
    → counts'.held_segments + cond (is_held (numbered segments n)) 1 0 ≡ counts.held_segments + cond (is_held q) 1 0 → counts'.cells + cells_in (numbered segments n) ≡ counts.cells + cells_in q
    → AreCounted (set segments n q) areas counts'
counted_by segments areas counts counts' n q c b iw io ih ic = record {
  words = omega (arith, c.words, sum_by-set used_words segments n q vacant b);
  open_areas = io ∙ c.open_areas;
  held = omega (arith, c.held, sum_by-set (λ p. cond (is_held p) 1 0) segments n q vacant b);
  cells = omega (arith, c.cells, sum_by-set cells_in segments n q vacant b);
}

-- ---- all together: segment n becomes q
settled_moved : (p now : PoolView) (n : ℕ) (r q : Segment) (lists dirty : List (List ℕ)) (counts : SegmentCounts) → IsAsideHere p now n r → IsSound q → q.generation < 9 → ((k : ℕ) (x : Start) → spot q k ≡ Some x → HasLength x.kind x.length)
    → list_of q < 19 → list_of (numbered p.segments n) ≢ list_of q → lists ≡ moved p.lists (list_of (numbered p.segments n)) (list_of q) n → link_count lists ≡ link_count p.lists → EachOnce lists
    → AreDirty (set p.segments n q) dirty → AreCounted (set p.segments n q) p.areas counts
    → IsSettled (record p { segments = set p.segments n q; lists = lists; dirty = dirty; counts = counts })
settled_moved p now n r q lists dirty counts h sound small lengths to_in ne is links once d c =
    let t : IsSettled p = h.settled in
    record {
      count = omega (arith, length-set p.segments n q, t.count);
      sound = each_set IsSound p.segments n q t.sound sound;
      generations = each_set (λ (v : Segment). v.generation < 9) p.segments n q t.generations small;
      lengths = spot_set p.segments n q t.lengths lengths;
      listed = subst (AreListed (set p.segments n q)) (sym is) (listed_moved p.segments p.lists n (list_of q) q t.listed (aside_linked p now n r h) h.within refl to_in ne (ap link_count (sym is) ∙ links) (subst EachOnce is once));
      open_areas = open_changed p.segments p.areas n q t.open_areas h.within (λ k o. absurd (let e : From ≡ Current = sym h.aside ∙ o.current in cc));
      dirty = d;
      counted = c;
    }

-- ---- given back
given_back_generation : (p : Segment) → (given_back p).generation ≡ p.generation
given_back_generation p = elim (eqb (length p.births) 1) as (λ t. (let q : Segment = cond t (emptied p) p in record q { role = Free; was_held = false; is_dirty = false }).generation ≡ p.generation) [ true ↦ refl | false ↦ refl ]

-- what a from-segment counts for
pub record CountsFor (p now : PoolView) (n : ℕ) (r : Segment) (words held cells : ℕ) : Type 0 where
  pub words_are : words ≡ used_words (numbered p.segments n)
  pub held_are : held ≡ cond (is_held (numbered p.segments n)) 1 0
  pub cells_are : cells ≡ cells_in (numbered p.segments n)
  pub words_most : words ≤ p.counts.segment_words
  pub held_most : held ≤ p.counts.held_segments
  pub cells_most : cells ≤ p.counts.cells

pub counts_for : (p now : PoolView) (n : ℕ) (r : Segment) (words held cells : ℕ) → IsAsideHere p now n r → words ≡ length r.words → held ≡ cond (is_held r) 1 0 → cells ≡ cells_in r → CountsFor p now n r words held cells
counts_for p now n r words held cells h ew eh ec =
    let o : Segment = numbered p.segments n in
    let c : AreCounted p.segments p.areas p.counts = h.settled.counted in
    let iw : words ≡ used_words o = ew ∙ (ap (λ (v : Segment). length v.words) h.is ∙ sym (ap (λ role. cond (is_free role) 0 (length o.words)) h.aside)) in
    let ih : held ≡ cond (is_held o) 1 0 = eh ∙ ap (λ v. cond (is_held v) 1 0) h.is in
    let ic : cells ≡ cells_in o = ec ∙ ap cells_in h.is in
    record {
      words_are = iw;
      held_are = ih;
      cells_are = ic;
      words_most = omega (arith, c.words, sum_by_part used_words p.segments n vacant h.within);
      held_most = omega (arith, c.held, sum_by_part (λ v. cond (is_held v) 1 0) p.segments n vacant h.within);
      cells_most = omega (arith, c.cells, sum_by_part cells_in p.segments n vacant h.within);
    }

pub settled_released : (p now : PoolView) (n : ℕ) (r q q' : Segment) (g list words held cells : ℕ) (lists dirty : List (List ℕ)) → IsAsideHere p now n r → CountsFor p now n r words held cells
    → q ≡ get_or p.segments n q → q' ≡ given_back q → g ≡ r.generation → list ≡ g → lists ≡ moved p.lists (10 + list) 0 n → link_count lists ≡ link_count p.lists → EachOnce lists
    → length dirty ≡ 2 → link_count dirty ≡ link_count p.dirty → EachOnce dirty → chain_of dirty 1 ≡ without n (chain_of p.dirty 1)
    → IsSettled (record p { segments = set p.segments n q'; lists = lists; dirty = dirty; counts = record p.counts { segment_words = p.counts.segment_words - words; held_segments = p.counts.held_segments - held; cells = p.counts.cells - cells } })
settled_released p now n r q q' g list words held cells lists dirty h f read is eg el moved_is links once two dlinks donce chain =
    let o : Segment = numbered p.segments n in
    let b : Segment = given_back o in
    let b_is : b ≡ q' = sym (is ∙ ap given_back (get_or_read p.segments n q h.within read vacant)) in
    let from : 10 + list ≡ list_of o = its_list p now n r g list h eg el in
    let counts : SegmentCounts = record p.counts { segment_words = p.counts.segment_words - words; held_segments = p.counts.held_segments - held; cells = p.counts.cells - cells } in
    subst (λ v. IsSettled (record p { segments = set p.segments n v; lists = lists; dirty = dirty; counts = counts })) b_is
    (settled_moved p now n r b lists dirty counts h (IsSound-given_back o (h.settled.sound n)) (omega (arith, given_back_generation o, h.settled.generations n)) (λ k x e. absurd (let z : None ≡ Some x = sym (spot_given_back o k) ∙ e in cc))
    (omega arith) (λ e. absurd (omega (arith, e, from))) (moved_is ∙ ap (λ v. moved p.lists v 0 n) from) links once
    (dirty_cleared p.segments p.dirty dirty n b h.settled.dirty h.within refl two dlinks donce chain)
    (counted_by p.segments p.areas p.counts counts n b h.settled.counted h.within (omega (arith, f.words_are, f.words_most)) refl (omega (arith, f.held_are, f.held_most)) (omega (arith, f.cells_are, f.cells_most))))

-- ---- kept
kept_length : (b : Bool) (g : ℕ) (o : Option Start) (x : Start) → ((y : Start) → o ≡ Some y → HasLength y.kind y.length) → cond b (in_generation g o) None ≡ Some x → HasLength x.kind x.length
kept_length false g o x old e = cc
kept_length true g None x old e = cc
kept_length true g (Some y) x old e = subst (λ (v : Start). HasLength v.kind v.length) (same_Some _ _ e) (old y refl)

kept_lengths : (p : Segment) (g : ℕ) → IsSound p → is_free p.role ≡ false → ((k : ℕ) (x : Start) → spot p k ≡ Some x → HasLength x.kind x.length) → (k : ℕ) (x : Start) → spot (kept_marked p g) k ≡ Some x → HasLength x.kind x.length
kept_lengths p g s used old k x e =
    let e' : kept_spot p g k ≡ Some x = sym (spot_kept_all p g k s used) ∙ e in
    kept_length (get_or p.marks k false) g (spot p k) x (old k) e'

pub kept_lists : (p now : PoolView) (n : ℕ) (r : Segment) (g list to to' : ℕ) (mid lists : List (List ℕ)) → IsAsideHere p now n r → to < 9 → to' ≡ to → g ≡ r.generation → list ≡ g → mid ≡ moved p.lists (10 + list) 0 n → lists ≡ moved mid 0 (1 + to') n
    → lists ≡ moved p.lists (list_of (numbered p.segments n)) (1 + to) n
kept_lists p now n r g list to to' mid lists h small eto eg el mid_is is =
    let from : 10 + list ≡ list_of (numbered p.segments n) = its_list p now n r g list h eg el in
    let g_in : list < 9 = omega (arith, h.settled.generations n, ap (λ (v : Segment). v.generation) h.is) in
    let none : times n (chain_of p.lists 0) ≡ 0 = elim (cases_lt 0 (times n (chain_of p.lists 0))) [ inl i ↦ absurd (omega (arith, from, h.settled.listed.fits 0 n i)) | inr z ↦ omega arith ] in
    is ∙ (ap (λ v. moved mid 0 (1 + v) n) eto ∙ (ap (λ v. moved v 0 (1 + to) n) mid_is
    ∙ (moved_twice p.lists (10 + list) (1 + to) n (omega (arith, h.settled.listed.chains)) (omega (arith, h.settled.listed.chains)) (λ e. absurd (omega arith)) (λ e. absurd (omega arith)) (λ e. absurd (omega arith)) none
    ∙ ap (λ v. moved p.lists v (1 + to) n) from)))

pub settled_kept : (p now : PoolView) (n : ℕ) (r q q' r' : Segment) (g list to to' held cells held' cells' : ℕ) (mid lists : List (List ℕ)) → IsAsideHere p now n r → held ≡ cond (is_held r) 1 0 → cells ≡ cells_in r
    → q ≡ get_or p.segments n q → q' ≡ kept_marked q to → r' ≡ get_or (set p.segments n q') n r' → held' ≡ cond (is_held r') 1 0 → cells' ≡ cells_in r' → to < 9 → to' ≡ to
    → g ≡ r.generation → list ≡ g → mid ≡ moved p.lists (10 + list) 0 n → link_count mid ≡ link_count p.lists → lists ≡ moved mid 0 (1 + to') n → link_count lists ≡ link_count mid → EachOnce lists
    → IsSettled (record p { segments = set p.segments n q'; lists = lists; counts = record p.counts { held_segments = p.counts.held_segments - held + held'; cells = p.counts.cells - cells + cells' } })
settled_kept p now n r q q' r' g list to to' held cells held' cells' mid lists h eh ec read is again eh' ec' small eto eg el mid_is mid_links lists_is lists_links once =
    let o : Segment = numbered p.segments n in
    let k : Segment = kept_marked o to in
    let k_is : k ≡ q' = sym (is ∙ ap (λ v. kept_marked v to) (get_or_read p.segments n q h.within read vacant)) in
    let r_is : r' ≡ k = get_or_read (set p.segments n q') n r' (omega (arith, length-set p.segments n q', h.within)) again vacant ∙ (numbered-set_same p.segments n q' h.within ∙ sym k_is) in
    let f : CountsFor p now n r (length r.words) held cells = counts_for p now n r (length r.words) held cells h refl eh ec in
    let used : is_free o.role ≡ false = ap is_free h.aside in
    let counts : SegmentCounts = record p.counts { held_segments = p.counts.held_segments - held + held'; cells = p.counts.cells - cells + cells' } in
    let ih : held' ≡ cond (is_held k) 1 0 = eh' ∙ ap (λ v. cond (is_held v) 1 0) r_is in
    let ic : cells' ≡ cells_in k = ec' ∙ ap cells_in r_is in
    let iw : used_words o ≡ length o.words = ap (λ role. cond (is_free role) 0 (length o.words)) h.aside in
    subst (λ v. IsSettled (record p { segments = set p.segments n v; lists = lists; counts = counts })) k_is
    (settled_moved p now n r k lists p.dirty counts h (IsSound-kept o to (h.settled.sound n) h.aside) small (kept_lengths o to (h.settled.sound n) used (h.settled.lengths n))
    (omega arith) (λ e. absurd (omega (arith, its_list p now n r g list h eg el, e))) (kept_lists p now n r g list to to' mid lists h small eto eg el mid_is lists_is) (lists_links ∙ mid_links) once
    (dirty_same p.segments p.dirty n k h.settled.dirty (sym (ap (λ role. cond (is_free role) false o.is_dirty) h.aside)))
    (counted_by p.segments p.areas p.counts counts n k h.settled.counted h.within (omega arith) refl (omega (arith, f.held_are, f.held_most)) (omega (arith, f.cells_are, f.cells_most))))

pub kept_lists_told : (p now : PoolView) (n : ℕ) (r : Segment) (g list to to' : ℕ) (mid lists : List (List ℕ)) → p ≡ now → IsAsideHere p now n r → to < 9 → to' ≡ to → g ≡ r.generation → list ≡ g → mid ≡ moved p.lists (10 + list) 0 n → lists ≡ moved mid 0 (1 + to') n
    → lists ≡ moved now.lists (list_of (numbered now.segments n)) (1 + to) n
kept_lists_told p now n r g list to to' mid lists e h small eto eg el mid_is is = kept_lists p now n r g list to to' mid lists h small eto eg el mid_is is ∙ ap (λ (v : PoolView). moved v.lists (list_of (numbered v.segments n)) (1 + to) n) e

pub kept_loose : (p now : PoolView) (n : ℕ) (r : Segment) (list : ℕ) (mid : List (List ℕ)) → IsAsideHere p now n r → mid ≡ moved p.lists (10 + list) 0 n → Contains (chain_of mid 0) n
kept_loose p now n r list mid h is =
    contains_of n (chain_of mid 0) (subst (λ v. 0 < times n v) (sym (ap (λ v. chain_of v 0) is ∙ chain_of-moved_to p.lists (10 + list) 0 n (omega (arith, h.settled.listed.chains)))) (is_last n (chain_of p.lists 0)))

-- the cells still fit
pub kept_fits : (p now : PoolView) (n : ℕ) (r q q' r' : Segment) (to cells : ℕ) → p ≡ now → IsSettled now → IsAsideHere p now n r → q ≡ get_or p.segments n q → q' ≡ kept_marked q to → r' ≡ get_or (set p.segments n q') n r' → cells ≡ cells_in r' → p.counts.cells + cells ≤ SEGMENTS * OFFSETS + OFFSETS
kept_fits p now n r q q' r' to cells e done h read is again ec =
    let r_is : r' ≡ kept_marked (numbered p.segments n) to = get_or_read (set p.segments n q') n r' (omega (arith, length-set p.segments n q', h.within)) again vacant ∙ (numbered-set_same p.segments n q' h.within ∙ (is ∙ ap (λ v. kept_marked v to) (get_or_read p.segments n q h.within read vacant))) in
    omega (arith, cells_fit p now e done, cells_small r' (subst IsSound (sym r_is) (IsSound-kept (numbered p.segments n) to (h.settled.sound n) h.aside)))
