-- What `finish` leaves of a territory.
use Rattle.std.proofs.Common.{◌≡◌, ◌≢◌, ℕ, ◌+◌, ◌-◌, ◌*◌, ◌/◌, ◌%◌, ◌<◌, ◌≤◌, Bool, true, false, cond, eqb, nat_le, not, ◌&&◌, List, [], ◌∷◌, ◌++◌, length, get_or, map, Option, Some, None, is_some, All, refl, sym, ◌∙◌, ap, subst, arith, inl, inr, ◌⊎◌}
use Rattle.std.proofs.lemmas.Bool.{cases_eq}
use Rattle.std.proofs.lemmas.Bool.Decides.{nat_tests}
use Rattle.std.specs.FinMap.{get}
use Rattle.std.specs.List.{filter}
use Rattle.gc_words.specs.declared.address.TheConstants.{SEGMENTS, OFFSETS}
use Rattle.gc_words.specs.Layout.{segment_of, offset_of}
use Rattle.seg_chain.specs.Lists.{chain_of, times}
use Rattle.seg_chain.proofs.Counts.{times-here}
use Rattle.segment.specs.declared.segment.Role.{Role}
use Rattle.segment.specs.declared.segment.Role.TheVariants.{Free, Current, From}
use Rattle.segment.specs.Segments.{Segment, Start, IsSound, IsStart, is_free, is_some_marked, spot, kept_marked, in_generation, given_back, emptied}
use Rattle.segment.proofs.Collected.{spot_kept_all, get_or-marked_births}
use Rattle.segment.proofs.Tallies.{none_marked}
use Rattle.territory.specs.declared.territory.Targets.{Targets}
use Rattle.territory.specs.Territories.{SegmentView, TerritoryView, segment_at, from_list, byte_at, card_byte, AreCardsSound}
use Rattle.territory.specs.Pools.{PoolView, IsSettled, AreUsed, numbered, seen, start_in, starts_of, territory_view, is_from_role, list_of}
use Rattle.territory.specs.Finishing.{target_of, IsFromStart, is_held_start, has_held, start_finished, when_finished, is_kept_in, AreListsFinished, AreCardsSoundFor}
use Rattle.territory.specs.FinishedPools.{AreHeld, IsBetween, finished, list_after, is_used_after, AreFinished}
use Rattle.territory.proofs.Numbers.{seen_at}
use Rattle.territory.proofs.Entries.{get-starts}
use Rattle.territory.proofs.Slots.{all_small, start_here}
use Rattle.territory.proofs.Present.{IsPresent, present}
use Rattle.territory.proofs.Fromward.{times_from}
use Rattle.territory.proofs.Finished.{finished_from, finished_other}
use Rattle.territory.proofs.Marks.{IsHeldIn, mark_is, marked_is, marked_found, marked_born, none_at, start_holds}

-- all that `finish` did
pub record IsEnded (thread : ℕ) (targets : Targets) (now : TerritoryView) (old mid new : PoolView) (held : List ℕ) : Type 0 where
  pub before : IsHeldIn thread targets now old mid held
  pub middle : IsSettled mid
  pub rest : mid ≡ record old { segments = mid.segments }
  pub after : IsSettled new
  pub done : AreFinished mid new targets

pub ended : (thread : ℕ) (targets : Targets) (now : TerritoryView) (old mid new : PoolView) (held : List ℕ) → territory_view thread old targets ≡ now → IsSettled old → IsBetween old.segments targets → All (IsFromStart now) held
    → IsSettled mid → AreHeld old.segments mid.segments held → mid ≡ record old { segments = mid.segments } → IsSettled new → AreFinished mid new targets → IsEnded thread targets now old mid new held
ended thread targets now old mid new held e s b all s' h rest s'' f = record {
  before = record { view_is = e; settled = s; unheld = b.unheld; starts = all; holds = h };
  middle = s';
  rest = rest;
  after = s'';
  done = f;
}

-- ---- one segment
seen_finished : (targets : Targets) (held : List ℕ) (n : ℕ) (p : Segment) (marks : List Bool) → is_some_marked marks ≡ has_held held n → seen (finished targets (record p { marks = marks })) ≡ when_finished targets held n (seen p)
seen_finished targets held n p marks e =
    let G : ℕ = target_of targets p.generation in
    elim p.role as (λ r. seen (finished targets (record p { role = r; marks = marks })) ≡ when_finished targets held n (seen (record p { role = r }))) [
      | Free ↦ refl
      | Current ↦ refl
      | From ↦
          ap (λ b. seen (cond b (kept_marked (record p { role = From; marks = marks }) G) (given_back (record p { role = From; marks = marks })))) e
          ∙ elim (has_held held n) as (λ b. seen (cond b (kept_marked (record p { role = From; marks = marks }) G) (given_back (record p { role = From; marks = marks })))
          ≡ cond b (Some (record { space = p.space; generation = G; words = length p.words; is_from = false; was_held = true; cards = p.cards })) None) [ true ↦ refl | false ↦ refl ]
    ]

-- what starts at a place afterwards
spot_after : Targets → Segment → Bool → Option Start → Option Start
spot_after targets p mark o = cond (is_from_role p.role) (cond mark (in_generation (target_of targets p.generation) o) None) o

cases_from : (r : Role) → (r ≡ From) ⊎ (is_from_role r ≡ false)
cases_from Free = inr refl
cases_from Current = inr refl
cases_from From = inl refl

spot_finished : (targets : Targets) (q : Segment) (k : ℕ) → IsSound q → spot (finished targets q) k ≡ spot_after targets q (get_or q.marks k false) (spot q k)
unfolding spot_after
spot_finished targets q k s =
    let G : ℕ = target_of targets q.generation in
    elim (cases_from q.role) [
      | inl from ↦
          let left : spot (finished targets q) k ≡ cond (get_or q.marks k false) (in_generation G (spot q k)) None =
          ap (λ v. spot v k) (finished_from targets q from) ∙ elim (is_some_marked q.marks) as (λ b. is_some_marked q.marks ≡ b → spot (cond b (kept_marked q G) (given_back q)) k ≡ cond (get_or q.marks k false) (in_generation G (spot q k)) None) [
            | true ↦ λ e. spot_kept_all q G k s (ap is_free from)
            | false ↦ λ e. sym (ap (λ b. cond b (in_generation G (spot q k)) None) (none_at q.marks k e))
          ] refl in
          left ∙ sym (ap (λ r. cond (is_from_role r) (cond (get_or q.marks k false) (in_generation G (spot q k)) None) (spot q k)) from)
      | inr other ↦ ap (λ v. spot v k) (finished_other targets q other) ∙ sym (ap (λ b. cond b (cond (get_or q.marks k false) (in_generation G (spot q k)) None) (spot q k)) other)
    ]

two_none : (b : Bool) → cond {A = Option Start} b None None ≡ None
two_none true = refl
two_none false = refl

none_after : (targets : Targets) (p : Segment) (mark : Bool) → spot_after targets p mark None ≡ None
unfolding spot_after
none_after targets p mark = elim (is_from_role p.role) as (λ b. cond {A = Option Start} b (cond mark None None) None ≡ None) [ true ↦ two_none mark | false ↦ refl ]

-- ---- the segment of a number
mid_parts : (thread : ℕ) (targets : Targets) (now : TerritoryView) (old mid new : PoolView) (held : List ℕ) (n : ℕ) → IsEnded thread targets now old mid new held → numbered mid.segments n ≡ record (numbered old.segments n) { marks = (numbered mid.segments n).marks }
mid_parts thread targets now old mid new held n d = d.before.holds.parts n

seen_now : (thread : ℕ) (targets : Targets) (now : TerritoryView) (old mid new : PoolView) (held : List ℕ) (n : ℕ) → IsEnded thread targets now old mid new held → segment_at now n ≡ seen (numbered old.segments n)
seen_now thread targets now old mid new held n d = ap (λ (v : TerritoryView). segment_at v n) (sym d.before.view_is) ∙ seen_at old.segments n

pub ended_segments : (thread : ℕ) (targets : Targets) (now : TerritoryView) (old mid new : PoolView) (held : List ℕ) (n : ℕ) → IsEnded thread targets now old mid new held → get_or (map seen new.segments) n None ≡ when_finished targets held n (segment_at now n)
ended_segments thread targets now old mid new held n d =
    seen_at new.segments n ∙ (ap seen (d.done.segments n) ∙ (ap (λ v. seen (finished targets v)) (mid_parts thread targets now old mid new held n d)
    ∙ (seen_finished targets held n (numbered old.segments n) (numbered mid.segments n).marks (marked_is thread targets now old mid held n d.before)
    ∙ ap (when_finished targets held n) (sym (seen_now thread targets now old mid new held n d)))))

spot_new : (thread : ℕ) (targets : Targets) (now : TerritoryView) (old mid new : PoolView) (held : List ℕ) (n k : ℕ) → IsEnded thread targets now old mid new held
    → spot (numbered new.segments n) k ≡ spot_after targets (numbered old.segments n) (get_or (numbered mid.segments n).marks k false) (spot (numbered old.segments n) k)
unfolding spot_after
spot_new thread targets now old mid new held n k d =
    ap (λ v. spot v k) (d.done.segments n) ∙ (spot_finished targets (numbered mid.segments n) k (d.middle.sound n)
    ∙ ap (λ (v : Segment). cond (is_from_role v.role) (cond (get_or (numbered mid.segments n).marks k false) (in_generation (target_of targets v.generation) (spot v k)) None) (spot v k)) (mid_parts thread targets now old mid new held n d))

-- ---- the starts
start_shown : (targets : Targets) (held : List ℕ) (a : ℕ) (p : Segment) (mark : Bool) (x : Start) → is_free p.role ≡ false → mark ≡ is_held_start held a → spot_after targets p mark (Some x) ≡ start_finished targets held a (seen p) (Some x)
unfolding spot_after
start_shown targets held a p mark x used e =
    elim p.role as (λ r. is_free r ≡ false → cond (is_from_role r) (cond mark (Some (record x { generation = target_of targets p.generation })) None) (Some x) ≡ start_finished targets held a (seen (record p { role = r })) (Some x)) [
      | Free ↦ λ h. cc
      | Current ↦ λ h. refl
      | From ↦ λ h. ap (λ b. cond b (Some (record x { generation = target_of targets p.generation })) None) e
    ] used

none_finished : (targets : Targets) (held : List ℕ) (a : ℕ) (o : Option SegmentView) → start_finished targets held a o None ≡ None
none_finished targets held a None = refl
none_finished targets held a (Some s) = elim s.is_from as (λ b. cond {A = Option Start} b (cond (is_held_start held a) None None) None ≡ None) [ true ↦ two_none (is_held_start held a) | false ↦ refl ]

none_new : (thread : ℕ) (targets : Targets) (now : TerritoryView) (old mid new : PoolView) (held : List ℕ) (a : ℕ) → IsEnded thread targets now old mid new held → start_in (thread * SEGMENTS) old.segments a ≡ None → start_in (thread * SEGMENTS) new.segments a ≡ None
none_new thread targets now old mid new held a d e =
    let n : ℕ = a / OFFSETS - thread * SEGMENTS in
    let k : ℕ = a % OFFSETS / 2 in
    elim (nat_le (thread * SEGMENTS) (a / OFFSETS) && eqb (a % 2) 0) as (λ b. cond b (spot (numbered old.segments n) k) None ≡ None → cond b (spot (numbered new.segments n) k) None ≡ None) [
      | false ↦ λ h. refl
      | true ↦ λ h. spot_new thread targets now old mid new held n k d ∙ (ap (spot_after targets (numbered old.segments n) (get_or (numbered mid.segments n).marks k false)) h ∙ none_after targets (numbered old.segments n) (get_or (numbered mid.segments n).marks k false))
    ] e

pub ended_starts : (thread : ℕ) (targets : Targets) (now : TerritoryView) (old mid new : PoolView) (held : List ℕ) (a : ℕ) → IsEnded thread targets now old mid new held → get (starts_of (thread * SEGMENTS) new.segments) a ≡ start_finished targets held a (segment_at now (segment_of a)) (get now.starts a)
ended_starts thread targets now old mid new held a d =
    let base : ℕ = thread * SEGMENTS in
    let was : get now.starts a ≡ start_in base old.segments a = ap (λ (v : TerritoryView). get v.starts a) (sym d.before.view_is) ∙ get-starts base old.segments (all_small old.segments d.before.settled.sound) a in
    get-starts base new.segments (all_small new.segments d.after.sound) a ∙ elim (get now.starts a) as (λ o. get now.starts a ≡ o → start_in base new.segments a ≡ start_finished targets held a (segment_at now (segment_of a)) o) [
      | None ↦ λ e. none_new thread targets now old mid new held a d (sym was ∙ e) ∙ sym (none_finished targets held a (segment_at now (segment_of a)))
      | Some x ↦ λ e.
          let p : IsPresent thread old.segments a x = present thread old a x d.before.settled (ap (λ (v : TerritoryView). get v.starts a) d.before.view_is ∙ e) in
          let n : ℕ = segment_of a in
          let k : ℕ = offset_of a / 2 in
          let here : spot (numbered old.segments n) k ≡ Some x = sym (start_here base old.segments n k a p.small p.address) ∙ (sym was ∙ e) in
          start_here base new.segments n k a p.small p.address ∙ (spot_new thread targets now old mid new held n k d
          ∙ (ap (spot_after targets (numbered old.segments n) (get_or (numbered mid.segments n).marks k false)) here
          ∙ (start_shown targets held a (numbered old.segments n) (get_or (numbered mid.segments n).marks k false) x p.starts.0 (mark_is thread targets now old mid held a x d.before p)
          ∙ ap (λ o. start_finished targets held a o (Some x)) (sym (seen_now thread targets now old mid new held n d)))))
    ] refl

-- ---- the cards
byte_after : (targets : Targets) (held : List ℕ) (n a i : ℕ) (o : Option SegmentView) (y : Option Start) (x : Start) → segment_of a ≡ n → start_finished targets held a o y ≡ Some x → byte_at (when_finished targets held n o) a i ≡ byte_at o a i
byte_after targets held n a i None y x e h = refl
byte_after targets held n a i (Some s) y x e h =
    elim s.is_from as (λ b. cond b (cond (is_held_start held a) (in_generation (target_of targets s.generation) y) None) y ≡ Some x
    → byte_at (cond b (cond (has_held held n) (Some (record s { generation = target_of targets s.generation; is_from = false; was_held = true })) None) (Some s)) a i ≡ byte_at (Some s) a i) [
      | false ↦ λ g. refl
      | true ↦ λ g.
          let is : is_held_start held a ≡ true = elim (is_held_start held a) as (λ b. cond b (in_generation (target_of targets s.generation) y) None ≡ Some x → b ≡ true) [ true ↦ λ f. refl | false ↦ λ f. cc ] g in
          let has : has_held held n ≡ true = ap (has_held held) (sym e) ∙ start_holds held a is in
          ap (λ b. byte_at (cond b (Some (record s { generation = target_of targets s.generation; is_from = false; was_held = true })) None) a i) has
    ] h

pub ended_sound : (thread : ℕ) (targets : Targets) (now : TerritoryView) (old mid new : PoolView) (held : List ℕ) (generation_at : ℕ → Option ℕ) → IsEnded thread targets now old mid new held → now.targets ≡ targets
    → AreCardsSoundFor generation_at now held → AreCardsSound generation_at (territory_view thread new targets)
ended_sound thread targets now old mid new held generation_at d same sound a i c h x has refers gen young =
    let after : start_finished targets held a (segment_at now (segment_of a)) (get now.starts a) ≡ Some x = sym (ended_starts thread targets now old mid new held a d) ∙ has in
    let le : card_byte now a i ≤ h = sound a i c h x (ap (λ t. start_finished t held a (segment_at now (segment_of a)) (get now.starts a)) same ∙ after) refers gen young in
    subst (λ v. v ≤ h) (sym (ap (λ o. byte_at o a i) (ended_segments thread targets now old mid new held (segment_of a) d) ∙ byte_after targets held (segment_of a) a i (segment_at now (segment_of a)) (get now.starts a) x refl after)) le

-- ---- the lists
filter_same : (p q : ℕ → Bool) (xs : List ℕ) → ((n : ℕ) → 0 < times n xs → p n ≡ q n) → filter p xs ≡ filter q xs
filter_same p q [] h = refl
filter_same p q (x ∷ xs) h =
    ap (λ b. cond b (x ∷ filter p xs) (filter p xs)) (h x (omega (arith, times-here x xs)))
    ∙ ap (λ v. cond (q x) (x ∷ v) v) (filter_same p q xs (λ n i. h n (omega (arith, i))))

-- where a from-segment goes
goes_free : (b : Bool) (g : ℕ) → eqb (cond b (1 + g) 0) 0 ≡ not b
goes_free true g = (let e : 1 + g ≢ 0 = λ z. absurd (omega arith) in grind (arith, nat_tests, e))
goes_free false g = refl

goes_in : (b : Bool) (g h : ℕ) → eqb (cond b (1 + g) 0) (1 + h) ≡ (b && eqb g h)
goes_in true g h = elim (cases_eq g h) [
  | inl e ↦ (let f : 1 + g ≡ 1 + h = omega arith in let s : eqb (1 + g) (1 + h) ≡ true = grind (arith, nat_tests, f) in let t : eqb g h ≡ true = grind (arith, nat_tests, e) in s ∙ sym t)
  | inr ne ↦ (let f : 1 + g ≢ 1 + h = λ z. ne (omega arith) in let s : eqb (1 + g) (1 + h) ≡ false = grind (arith, nat_tests, f) in let t : eqb g h ≡ false = grind (arith, nat_tests, ne) in s ∙ sym t)
]
goes_in false g h = (let e : 0 ≢ 1 + h = λ z. absurd (omega arith) in grind (arith, nat_tests, e))

list_is : (thread : ℕ) (targets : Targets) (now : TerritoryView) (old mid new : PoolView) (held : List ℕ) (n : ℕ) → IsEnded thread targets now old mid new held → (numbered mid.segments n).role ≡ From
    → list_after targets mid.segments n ≡ cond (has_held held n) (1 + target_of targets (numbered old.segments n).generation) 0
list_is thread targets now old mid new held n d from =
    let q : Segment = numbered mid.segments n in
    ap list_of (finished_from targets q from)
    ∙ (elim (is_some_marked q.marks) as (λ b. list_of (cond b (kept_marked q (target_of targets q.generation)) (given_back q)) ≡ cond b (1 + target_of targets q.generation) 0) [ true ↦ refl | false ↦ refl ]
    ∙ (ap (λ b. cond b (1 + target_of targets q.generation) 0) (marked_is thread targets now old mid held n d.before)
    ∙ ap (λ (v : Segment). cond (has_held held n) (1 + target_of targets v.generation) 0) (mid_parts thread targets now old mid new held n d)))

kept_shown : (targets : Targets) (held : List ℕ) (g n : ℕ) (p : Segment) → p.role ≡ From → is_kept_in targets held g n (seen p) ≡ (has_held held n && eqb (target_of targets p.generation) g)
kept_shown targets held g n p from = ap (λ r. is_kept_in targets held g n (seen (record p { role = r }))) from

pub ended_lists : (thread : ℕ) (targets : Targets) (now : TerritoryView) (old mid new : PoolView) (held : List ℕ) → IsEnded thread targets now old mid new held → now.targets ≡ targets → AreListsFinished now (territory_view thread new targets) held
ended_lists thread targets now old mid new held d same =
    let lists : mid.lists ≡ now.lists = ap (λ (v : PoolView). v.lists) d.rest ∙ ap (λ (v : TerritoryView). v.lists) d.before.view_is in
    let from : (n : ℕ) → 0 < times n (from_list now.lists) → (numbered mid.segments n).role ≡ From = λ n i. times_from mid n d.middle (subst (λ v. 0 < times n (from_list v)) (sym lists) i) in
    let from_old : (n : ℕ) → 0 < times n (from_list now.lists) → (numbered old.segments n).role ≡ From = λ n i. sym (ap (λ (v : Segment). v.role) (mid_parts thread targets now old mid new held n d)) ∙ from n i in
    let all : (c : ℕ) → c < 10 → chain_of new.lists c ≡ chain_of now.lists c ++ filter (λ n. eqb (list_after targets mid.segments n) c) (from_list now.lists) = λ c small.
    d.done.lists c small ∙ ap (λ v. chain_of v c ++ filter (λ n. eqb (list_after targets mid.segments n) c) (from_list v)) lists in
    record {
      same = d.done.lists_same ∙ ap length lists;
      free = all 0 (omega arith) ∙ ap (λ v. chain_of now.lists 0 ++ v) (filter_same (λ n. eqb (list_after targets mid.segments n) 0) (λ n. not (has_held held n)) (from_list now.lists) (λ n i.
          ap (λ v. eqb v 0) (list_is thread targets now old mid new held n d (from n i)) ∙ goes_free (has_held held n) (target_of targets (numbered old.segments n).generation)));
      current = λ g small. all (1 + g) (omega arith) ∙ ap (λ v. chain_of now.lists (1 + g) ++ v) (filter_same (λ n. eqb (list_after targets mid.segments n) (1 + g)) (λ n. is_kept_in now.targets held g n (segment_at now n)) (from_list now.lists) (λ n i.
          ap (λ v. eqb v (1 + g)) (list_is thread targets now old mid new held n d (from n i)) ∙ (goes_in (has_held held n) (target_of targets (numbered old.segments n).generation) g
          ∙ (sym (kept_shown targets held g n (numbered old.segments n) (from_old n i)) ∙ (ap (is_kept_in targets held g n) (sym (seen_now thread targets now old mid new held n d)) ∙ ap (λ t. is_kept_in t held g n (segment_at now n)) (sym same))))));
      from = λ g small. d.done.from g small;
    }

used_seen : (p : Segment) → not (is_free p.role) ≡ is_some (seen p)
used_seen p = elim (is_free p.role) as (λ b. not b ≡ is_some {T = SegmentView} (cond b None (Some (record { space = p.space; generation = p.generation; words = length p.words; is_from = is_from_role p.role; was_held = p.was_held; cards = p.cards })))) [ true ↦ refl | false ↦ refl ]

pub ended_dirty : (thread : ℕ) (targets : Targets) (now : TerritoryView) (old mid new : PoolView) (held : List ℕ) → IsEnded thread targets now old mid new held → chain_of new.dirty 1 ≡ filter (λ n. is_some (get_or (map seen new.segments) n None)) now.dirty
ended_dirty thread targets now old mid new held d =
    d.done.dirty ∙ (ap (λ (v : PoolView). filter (is_used_after targets mid.segments) (chain_of v.dirty 1)) d.rest
    ∙ (ap (λ (v : TerritoryView). filter (is_used_after targets mid.segments) v.dirty) d.before.view_is
    ∙ filter_same (is_used_after targets mid.segments) (λ n. is_some (get_or (map seen new.segments) n None)) now.dirty (λ n i.
    ap (λ (v : Segment). not (is_free v.role)) (sym (d.done.segments n)) ∙ (used_seen (numbered new.segments n) ∙ ap is_some (sym (seen_at new.segments n))))))

pub ended_areas : (thread : ℕ) (targets : Targets) (now : TerritoryView) (old mid new : PoolView) (held : List ℕ) → IsEnded thread targets now old mid new held → new.areas ≡ now.areas
ended_areas thread targets now old mid new held d = d.done.areas ∙ (ap (λ (v : PoolView). v.areas) d.rest ∙ ap (λ (v : TerritoryView). v.areas) d.before.view_is)

-- ---- each segment in use has a start, and nothing is held
start_kept : (q : Segment) (g k : ℕ) → IsSound q → IsStart q k → get_or q.marks k false ≡ true → IsStart (kept_marked q g) k
start_kept q g k s start mark = (refl, λ z. start.1 (sym (get_or-marked_births q.births q.marks k s.marks ∙ ap (λ b. cond b (get_or q.births k 0) 0) mark) ∙ z))

pub ended_used : (thread : ℕ) (targets : Targets) (now : TerritoryView) (old mid new : PoolView) (held : List ℕ) → IsEnded thread targets now old mid new held → AreUsed old.segments → AreUsed new.segments
ended_used thread targets now old mid new held d used n u =
    let p : Segment = numbered old.segments n in
    let q : Segment = numbered mid.segments n in
    let parts : q ≡ record p { marks = q.marks } = mid_parts thread targets now old mid new held n d in
    let is : numbered new.segments n ≡ finished targets q = d.done.segments n in
    elim (cases_from q.role) [
      | inr other ↦
          let whole : numbered new.segments n ≡ record p { marks = q.marks } = is ∙ (finished_other targets q other ∙ parts) in
          let s : (k : ℕ) × IsStart p k = used n (sym (ap (λ (v : Segment). is_free v.role) whole) ∙ u) in
          (s.0, subst (λ v. IsStart v s.0) (sym whole) (s.1.0, s.1.1))
      | inl from ↦ elim (is_some_marked q.marks) as (λ b. is_some_marked q.marks ≡ b → (k : ℕ) × IsStart (numbered new.segments n) k) [
        | true ↦ λ e.
            let m : (k : ℕ) × (get_or q.marks k false ≡ true) = marked_found q.marks e in
            let b : IsStart p m.0 × (p.role ≡ From) = marked_born thread targets now old mid held n m.0 d.before m.1 in
            let start : IsStart q m.0 = subst (λ v. IsStart v m.0) (sym parts) (b.0.0, b.0.1) in
            let kept : numbered new.segments n ≡ kept_marked q (target_of targets q.generation) = is ∙ (finished_from targets q from ∙ ap (λ b. cond b (kept_marked q (target_of targets q.generation)) (given_back q)) e) in
            (m.0, subst (λ v. IsStart v m.0) (sym kept) (start_kept q (target_of targets q.generation) m.0 (d.middle.sound n) start m.1))
        | false ↦ λ e.
            let back : numbered new.segments n ≡ given_back q = is ∙ (finished_from targets q from ∙ ap (λ b. cond b (kept_marked q (target_of targets q.generation)) (given_back q)) e) in
            absurd (let c : true ≡ false = sym (ap (λ (v : Segment). is_free v.role) back) ∙ u in cc)
      ] refl
    ]

given_back_marks : (q : Segment) → is_some_marked q.marks ≡ false → is_some_marked (given_back q).marks ≡ false
given_back_marks q e = elim (eqb (length q.births) 1) as (λ t. is_some_marked (let r : Segment = cond t (emptied q) q in record r { role = Free; was_held = false; is_dirty = false }).marks ≡ false) [ true ↦ refl | false ↦ e ]

pub ended_between : (thread : ℕ) (targets : Targets) (now : TerritoryView) (old mid new : PoolView) (held : List ℕ) → IsEnded thread targets now old mid new held → IsBetween old.segments targets → IsBetween new.segments targets
ended_between thread targets now old mid new held d b = record {
  unheld = λ n.
      let q : Segment = numbered mid.segments n in
      let is : numbered new.segments n ≡ finished targets q = d.done.segments n in
      ap (λ (v : Segment). is_some_marked v.marks) is ∙ elim (cases_from q.role) [
        | inr other ↦ ap (λ (v : Segment). is_some_marked v.marks) (finished_other targets q other) ∙ elim (is_some_marked q.marks) as (λ b. is_some_marked q.marks ≡ b → b ≡ false) [
          | false ↦ λ e. refl
          | true ↦ λ e.
              let m : (k : ℕ) × (get_or q.marks k false ≡ true) = marked_found q.marks e in
              let s : IsStart (numbered old.segments n) m.0 × ((numbered old.segments n).role ≡ From) = marked_born thread targets now old mid held n m.0 d.before m.1 in
              absurd (let c : true ≡ false = sym (ap is_from_role (ap (λ (v : Segment). v.role) (mid_parts thread targets now old mid new held n d) ∙ s.1)) ∙ other in cc)
        ] refl
        | inl from ↦ ap (λ (v : Segment). is_some_marked v.marks) (finished_from targets q from) ∙ elim (is_some_marked q.marks) as (λ b. is_some_marked q.marks ≡ b → is_some_marked (cond b (kept_marked q (target_of targets q.generation)) (given_back q)).marks ≡ false) [
          | true ↦ λ e. none_marked (length q.marks)
          | false ↦ λ e. given_back_marks q e
        ] refl
      ];
  greatest = b.greatest;
}
