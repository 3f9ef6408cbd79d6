-- What `begin` leaves of a territory.
use Rattle.std.proofs.Common.{◌≡◌, ℕ, ◌+◌, ◌*◌, ◌%◌, ◌<◌, ◌≤◌, Bool, true, false, cond, nat_lt, nat_le, ◌&&◌, [], ◌++◌, get_or, map, Option, Some, None, option_map, refl, sym, ◌∙◌, ap, subst, arith, inl, inr}
use Rattle.std.proofs.lemmas.Bool.{cases_lt}
use Rattle.std.proofs.lemmas.Bool.Decides.{nat_tests}
use Rattle.std.specs.FinMap.{get}
use Rattle.gc_words.specs.declared.address.TheConstants.{SEGMENTS}
use Rattle.gc_words.specs.Layout.{segment_of}
use Rattle.seg_chain.specs.Lists.{chain_of}
use Rattle.segment.specs.declared.segment.Role.{Role}
use Rattle.segment.specs.declared.segment.Role.TheVariants.{Free, Current, From}
use Rattle.segment.specs.Segments.{Segment, IsStart, is_free, spot, set_aside}
use Rattle.territory.specs.declared.territory.Targets.{Targets}
use Rattle.territory.specs.Territories.{SegmentView, TerritoryView, segment_at, byte_at, card_byte, when_begun, AreListsBegun, AreCardsSound}
use Rattle.territory.specs.Pools.{PoolView, IsSettled, AreUsed, numbered, seen, starts_of, territory_view}
use Rattle.territory.specs.Changes.{AreBegun, begun, is_current}
use Rattle.territory.proofs.Numbers.{seen_at}
use Rattle.territory.proofs.Slots.{all_small, same_map}

below : (x cg : ℕ) → nat_lt x (cg + 1) ≡ nat_le x cg
below x cg = elim (cases_lt x (cg + 1)) [
  | inl b ↦ (let s : nat_lt x (cg + 1) ≡ true = grind (arith, nat_tests, b) in let t : nat_le x cg ≡ true = (let b' : x ≤ cg = omega arith in grind (arith, nat_tests, b')) in s ∙ sym t)
  | inr far ↦ (let s : nat_lt x (cg + 1) ≡ false = grind (arith, nat_tests, far) in let t : nat_le x cg ≡ false = (let b' : cg < x = omega arith in grind (arith, nat_tests, b')) in s ∙ sym t)
]

by_role : (p : Segment) (r : Role) (b : Bool) → seen (cond (is_current r && b) (set_aside (record p { role = r })) (record p { role = r })) ≡ option_map (λ s. cond b (record s { is_from = true }) s) (seen (record p { role = r }))
by_role p Free b = refl
by_role p Current true = refl
by_role p Current false = refl
by_role p From true = refl
by_role p From false = refl

-- what a segment shows has its generation
shown_begun : (p : Segment) (r : Role) (cg : ℕ) → option_map (λ s. cond (nat_le p.generation cg) (record s { is_from = true }) s) (seen (record p { role = r })) ≡ option_map (when_begun cg) (seen (record p { role = r }))
shown_begun p Free cg = refl
shown_begun p Current cg = refl
shown_begun p From cg = refl

seen_begun : (p : Segment) (cg : ℕ) → seen (begun (cg + 1) p) ≡ option_map (when_begun cg) (seen p)
seen_begun p cg =
    ap (λ b. seen (cond (is_current p.role && b) (set_aside p) p)) (below p.generation cg)
    ∙ (by_role p p.role (nat_le p.generation cg) ∙ shown_begun p p.role cg)

spot_role : (p : Segment) (r : Role) (b : Bool) (j : ℕ) → spot (cond (is_current r && b) (set_aside (record p { role = r })) (record p { role = r })) j ≡ spot (record p { role = r }) j
spot_role p Free b j = refl
spot_role p Current true j = refl
spot_role p Current false j = refl
spot_role p From b j = refl

start_role : (p : Segment) (r : Role) (b : Bool) (j : ℕ) → IsStart (record p { role = r }) j → IsStart (cond (is_current r && b) (set_aside (record p { role = r })) (record p { role = r })) j
start_role p Free b j s = s
start_role p Current true j s = s
start_role p Current false j s = s
start_role p From b j s = s

free_role : (p : Segment) (r : Role) (b : Bool) → is_free (cond (is_current r && b) (set_aside (record p { role = r })) (record p { role = r })).role ≡ is_free r
free_role p Free b = refl
free_role p Current true = refl
free_role p Current false = refl
free_role p From b = refl

spot_begun : (p : Segment) (end j : ℕ) → spot (begun end p) j ≡ spot p j
spot_begun p end j = spot_role p p.role (nat_lt p.generation end) j

start_begun : (p : Segment) (end j : ℕ) → IsStart p j → IsStart (begun end p) j
start_begun p end j s = start_role p p.role (nat_lt p.generation end) j s

free_begun : (p : Segment) (end : ℕ) → is_free (begun end p).role ≡ is_free p.role
free_begun p end = free_role p p.role (nat_lt p.generation end)

byte_begun : (cg : ℕ) (o : Option SegmentView) (a i : ℕ) → byte_at (option_map (when_begun cg) o) a i ≡ byte_at o a i
byte_begun cg None a i = refl
byte_begun cg (Some s) a i = elim (nat_le s.generation cg) as (λ b. byte_at (Some (cond b (record s { is_from = true }) s)) a i ≡ byte_at (Some s) a i) [ true ↦ refl | false ↦ refl ]

pub begun_used : (old new : PoolView) (end : ℕ) → AreBegun old new end → AreUsed old.segments → AreUsed new.segments
begun_used old new end b u n used =
    let s : (k : ℕ) × IsStart (numbered old.segments n) k = u n (sym (free_begun (numbered old.segments n) end) ∙ (ap (λ (v : Segment). is_free v.role) (sym (b.segments n)) ∙ used)) in
    (s.0, subst (λ v. IsStart v s.0) (sym (b.segments n)) (start_begun (numbered old.segments n) end s.0 s.1))

pub begun_starts : (thread : ℕ) (old new : PoolView) (targets : Targets) (now : TerritoryView) (end : ℕ) → territory_view thread old targets ≡ now → IsSettled old → IsSettled new → AreBegun old new end → starts_of (thread * SEGMENTS) new.segments ≡ now.starts
begun_starts thread old new targets now end e s s' b =
    same_map (thread * SEGMENTS) old.segments new.segments (all_small old.segments s.sound) (all_small new.segments s'.sound) (λ m j. ap (λ v. spot v j) (b.segments m) ∙ spot_begun (numbered old.segments m) end j)
    ∙ ap (λ (v : TerritoryView). v.starts) e

pub begun_segments : (thread : ℕ) (old new : PoolView) (targets : Targets) (now : TerritoryView) (cg n : ℕ) → territory_view thread old targets ≡ now → AreBegun old new (cg + 1) → get_or (map seen new.segments) n None ≡ option_map (when_begun cg) (segment_at now n)
begun_segments thread old new targets now cg n e b =
    seen_at new.segments n ∙ (ap seen (b.segments n) ∙ (seen_begun (numbered old.segments n) cg ∙ (ap (option_map (when_begun cg)) (sym (seen_at old.segments n)) ∙ ap (λ (v : TerritoryView). option_map (when_begun cg) (segment_at v n)) e)))

pub begun_areas : (thread : ℕ) (old new : PoolView) (targets : Targets) (now : TerritoryView) (cg k : ℕ) → territory_view thread old targets ≡ now → AreBegun old new (cg + 1) → get_or new.areas k None ≡ cond (nat_le (k % 9) cg) None (get_or now.areas k None)
begun_areas thread old new targets now cg k e b =
    b.areas k ∙ (ap (λ v. cond v None (get_or old.areas k None)) (below (k % 9) cg) ∙ ap (λ (v : TerritoryView). cond (nat_le (k % 9) cg) None (get_or v.areas k None)) e)

pub begun_lists : (thread : ℕ) (old new : PoolView) (targets : Targets) (now : TerritoryView) (cg : ℕ) → territory_view thread old targets ≡ now → AreBegun old new (cg + 1) → AreListsBegun now.lists new.lists cg
begun_lists thread old new targets now cg e b =
    subst (λ (v : TerritoryView). AreListsBegun v.lists new.lists cg) e (record {
      same = b.lists_same;
      free = b.free;
      current = λ g h. b.current g h ∙ ap (λ v. cond v [] (chain_of old.lists (1 + g))) (below g cg);
      from = λ g h. b.from g h ∙ ap (λ v. cond v (chain_of old.lists (10 + g) ++ chain_of old.lists (1 + g)) (chain_of old.lists (10 + g))) (below g cg);
    })

pub begun_dirty : (thread : ℕ) (old new : PoolView) (targets : Targets) (now : TerritoryView) (end : ℕ) → territory_view thread old targets ≡ now → AreBegun old new end → chain_of new.dirty 1 ≡ now.dirty
begun_dirty thread old new targets now end e b = ap (λ v. chain_of v 1) b.dirty ∙ ap (λ (v : TerritoryView). v.dirty) e

pub begun_sound : (thread : ℕ) (old new : PoolView) (targets targets' : Targets) (now : TerritoryView) (cg : ℕ) (generation_at : ℕ → Option ℕ) → territory_view thread old targets ≡ now → IsSettled old → IsSettled new → AreBegun old new (cg + 1)
    → AreCardsSound generation_at now → AreCardsSound generation_at (territory_view thread new targets')
begun_sound thread old new targets targets' now cg generation_at e s s' b sound a i c h x has refers gen young =
    let le : card_byte now a i ≤ h = sound a i c h x (ap (λ v. get v a) (sym (begun_starts thread old new targets now (cg + 1) e s s' b)) ∙ has) refers gen young in
    subst (λ v. v ≤ h) (sym (ap (λ o. byte_at o a i) (begun_segments thread old new targets now cg (segment_of a) e b) ∙ byte_begun cg (segment_at now (segment_of a)) a i)) le
