-- What a territory shows after its cards were raised.
use Rattle.std.proofs.Common.{◌≡◌, ℕ, ◌+◌, ◌*◌, ◌<◌, ◌≤◌, Bool, true, false, cond, nat_lt, List, length, get_or, map, Option, Some, None, option_map, refl, sym, ◌∙◌, ap, subst, arith, inl, inr}
use Rattle.std.proofs.lemmas.Bool.{cases_lt}
use Rattle.std.proofs.lemmas.Bool.Decides.{nat_tests}
use Rattle.std.proofs.lemmas.List.{ext_get_or, get_or_past}
use Rattle.std.specs.FinMap.{get}
use Rattle.gc_words.specs.declared.address.TheConstants.{SEGMENTS}
use Rattle.gc_words.specs.Layout.{segment_of}
use Rattle.cards.specs.Cards.{card_of, raised_byte, raised_bytes}
use Rattle.cards.proofs.Raised.{raised_low, raised_high, length-raised_bytes, get_or-raised_bytes}
use Rattle.segment.specs.declared.segment.Role.{Role}
use Rattle.segment.specs.declared.segment.Role.TheVariants.{Free, Current, From}
use Rattle.segment.specs.Segments.{Segment, Start, IsSound, IsStart, is_free, spot}
use Rattle.segment.specs.Aging.{raised}
use Rattle.territory.specs.declared.territory.Targets.{Targets}
use Rattle.territory.specs.Territories.{SegmentView, TerritoryView, segment_at, place_of, byte_at, card_byte, AreDirtyOnes, AreCardsSound}
use Rattle.territory.specs.Pools.{PoolView, IsSettled, AreUsed, numbered, seen, shows_dirty, starts_of, territory_view}
use Rattle.territory.specs.Olds.{byte_above, when_raised, TellsAbove, aged, AreAged}
use Rattle.territory.proofs.Numbers.{seen_at}
use Rattle.territory.proofs.Slots.{all_small, same_map}
use Rattle.territory.proofs.Present.{IsPresent, present}
use Rattle.territory.proofs.Dirties.{dirty_ones}

-- ---- one segment
free_aged : (cg : ℕ) (p : Segment) → is_free (aged cg p).role ≡ is_free p.role
free_aged cg p = elim (nat_lt cg p.generation) as (λ b. is_free (cond b (raised cg (byte_above cg p.generation) p) p).role ≡ is_free p.role) [ true ↦ refl | false ↦ refl ]

spot_aged : (cg : ℕ) (p : Segment) (j : ℕ) → spot (aged cg p) j ≡ spot p j
spot_aged cg p j = elim (nat_lt cg p.generation) as (λ b. spot (cond b (raised cg (byte_above cg p.generation) p) p) j ≡ spot p j) [ true ↦ refl | false ↦ refl ]

start_aged : (cg : ℕ) (p : Segment) (j : ℕ) → IsStart p j → IsStart (aged cg p) j
start_aged cg p j s = elim (nat_lt cg p.generation) as (λ b. IsStart (cond b (raised cg (byte_above cg p.generation) p) p) j) [ true ↦ s | false ↦ s ]

by_role : (cg to : ℕ) (p : Segment) (r : Role) (b : Bool) → seen (cond b (raised cg to (record p { role = r })) (record p { role = r })) ≡ option_map (λ s. cond b (record s { cards = raised_bytes cg to s.cards }) s) (seen (record p { role = r }))
by_role cg to p Free true = refl
by_role cg to p Free false = refl
by_role cg to p Current true = refl
by_role cg to p Current false = refl
by_role cg to p From true = refl
by_role cg to p From false = refl

-- what a segment shows has its generation
shown_role : (cg : ℕ) (p : Segment) (r : Role) → option_map (λ s. cond (nat_lt cg p.generation) (record s { cards = raised_bytes cg (byte_above cg p.generation) s.cards }) s) (seen (record p { role = r })) ≡ option_map (when_raised cg) (seen (record p { role = r }))
shown_role cg p Free = refl
shown_role cg p Current = refl
shown_role cg p From = refl

seen_aged : (cg : ℕ) (p : Segment) → seen (aged cg p) ≡ option_map (when_raised cg) (seen p)
seen_aged cg p = by_role cg (byte_above cg p.generation) p p.role (nat_lt cg p.generation) ∙ shown_role cg p p.role

-- clean cards stay
raised_clean : (cg to : ℕ) (cards : List ℕ) → cg < 255 → ((k : ℕ) → k < length cards → get_or cards k 0 ≡ 255) → raised_bytes cg to cards ≡ cards
raised_clean cg to cards small clean =
    ext_get_or 0 (raised_bytes cg to cards) cards (length-raised_bytes cg to cards) (λ k h.
    let b : k < length cards = omega (arith, length-raised_bytes cg to cards) in
    get_or-raised_bytes cg to cards k b ∙ raised_high cg to (get_or cards k 0) (omega (arith, clean k b)))

view_clean : (cg : ℕ) (s : SegmentView) → cg < 255 → ((k : ℕ) → k < length s.cards → get_or s.cards k 0 ≡ 255) → s ≡ when_raised cg s
view_clean cg s small clean =
    elim (nat_lt cg s.generation) as (λ b. s ≡ cond b (record s { cards = raised_bytes cg (byte_above cg s.generation) s.cards }) s) [
      | true ↦ ap (λ (v : List ℕ). let w : SegmentView = record s { cards = v } in w) (sym (raised_clean cg (byte_above cg s.generation) s.cards small clean))
      | false ↦ refl
    ]

clean_shown : (p : Segment) → IsSound p → is_free p.role ≡ false → shows_dirty p ≡ false → (k : ℕ) → k < length p.cards → get_or p.cards k 0 ≡ 255
clean_shown p s used e = s.clean used (sym (ap (λ b. cond b false p.is_dirty) used) ∙ e)

seen_clean : (cg : ℕ) (p : Segment) → cg < 255 → IsSound p → shows_dirty p ≡ false → seen p ≡ option_map (when_raised cg) (seen p)
seen_clean cg p small s e =
    let clean : is_free p.role ≡ false → (k : ℕ) → k < length p.cards → get_or p.cards k 0 ≡ 255 = λ used. clean_shown p s used e in
    elim p.role as (λ r. (is_free r ≡ false → (k : ℕ) → k < length p.cards → get_or p.cards k 0 ≡ 255) → seen (record p { role = r }) ≡ option_map (when_raised cg) (seen (record p { role = r }))) [
      | Free ↦ λ c. refl
      | Current ↦ λ c. ap Some (view_clean cg _ small (c refl))
      | From ↦ λ c. ap Some (view_clean cg _ small (c refl))
    ] clean

-- ---- all segments
spot_all : (old new : PoolView) (cg m j : ℕ) → AreAged old new cg → spot (numbered new.segments m) j ≡ spot (numbered old.segments m) j
spot_all old new cg m j a =
    let p : Segment = numbered old.segments m in
    ap (λ v. spot v j) (a.segments m) ∙ elim (shows_dirty p) as (λ b. spot (cond b (aged cg p) p) j ≡ spot p j) [ true ↦ spot_aged cg p j | false ↦ refl ]

pub aged_used : (old new : PoolView) (cg : ℕ) → AreAged old new cg → AreUsed old.segments → AreUsed new.segments
aged_used old new cg a u n used =
    let p : Segment = numbered old.segments n in
    let free : is_free (numbered new.segments n).role ≡ is_free p.role =
    ap (λ (v : Segment). is_free v.role) (a.segments n) ∙ elim (shows_dirty p) as (λ b. is_free (cond b (aged cg p) p).role ≡ is_free p.role) [ true ↦ free_aged cg p | false ↦ refl ] in
    let s : (k : ℕ) × IsStart p k = u n (sym free ∙ used) in
    (s.0, subst (λ v. IsStart v s.0) (sym (a.segments n)) (elim (shows_dirty p) as (λ b. IsStart (cond b (aged cg p) p) s.0) [ true ↦ start_aged cg p s.0 s.1 | false ↦ s.1 ]))

pub aged_starts : (thread : ℕ) (old new : PoolView) (targets : Targets) (now : TerritoryView) (cg : ℕ) → territory_view thread old targets ≡ now → IsSettled old → IsSettled new → AreAged old new cg → starts_of (thread * SEGMENTS) new.segments ≡ now.starts
aged_starts thread old new targets now cg e s s' a =
    same_map (thread * SEGMENTS) old.segments new.segments (all_small old.segments s.sound) (all_small new.segments s'.sound) (λ m j. spot_all old new cg m j a) ∙ ap (λ (v : TerritoryView). v.starts) e

pub aged_segments : (thread : ℕ) (old new : PoolView) (targets : Targets) (now : TerritoryView) (cg n : ℕ) → territory_view thread old targets ≡ now → IsSettled old → cg < 255 → AreAged old new cg → get_or (map seen new.segments) n None ≡ option_map (when_raised cg) (segment_at now n)
aged_segments thread old new targets now cg n e s small a =
    let p : Segment = numbered old.segments n in
    let one : seen (cond (shows_dirty p) (aged cg p) p) ≡ option_map (when_raised cg) (seen p) =
    elim (shows_dirty p) as (λ b. shows_dirty p ≡ b → seen (cond b (aged cg p) p) ≡ option_map (when_raised cg) (seen p)) [ true ↦ λ d. seen_aged cg p | false ↦ λ d. seen_clean cg p small (s.sound n) d ] refl in
    seen_at new.segments n
    ∙ (ap seen (a.segments n) ∙ (one ∙ (ap (option_map (when_raised cg)) (sym (seen_at old.segments n)) ∙ ap (λ (v : TerritoryView). option_map (when_raised cg) (segment_at v n)) e)))

pub aged_dirty : (thread : ℕ) (new : PoolView) (targets : Targets) → IsSettled new → AreDirtyOnes (territory_view thread new targets)
aged_dirty thread new targets s = dirty_ones thread new targets (territory_view thread new targets) refl s

-- ---- cards stay sound
raised_le : (cg g h byte : ℕ) → cg < h → h < g → byte ≤ h → raised_byte cg (byte_above cg g) byte ≤ h
raised_le cg g h byte above young le =
    elim (cases_lt cg byte) [
      | inl high ↦ omega (arith, raised_high cg (byte_above cg g) byte high)
      | inr low ↦
          let t : nat_lt (cg + 1) g ≡ true = (let b : cg + 1 < g = omega arith in grind (arith, nat_tests, b)) in
          let is : byte_above cg g ≡ cg + 1 = ap (λ b. cond b (cg + 1) 255) t in
          omega (arith, raised_low cg (byte_above cg g) byte low)
    ]

raised_at_le : (cg g h : ℕ) (cards : List ℕ) (k : ℕ) → cg < h → h < g → get_or cards k 0 ≤ h → get_or (raised_bytes cg (byte_above cg g) cards) k 0 ≤ h
raised_at_le cg g h cards k above young le =
    elim (cases_lt k (length cards)) [
      | inl b ↦ omega (arith, get_or-raised_bytes cg (byte_above cg g) cards k b, raised_le cg g h (get_or cards k 0) above young le)
      | inr far ↦ omega (arith, get_or_past (raised_bytes cg (byte_above cg g) cards) k 0 (omega (arith, length-raised_bytes cg (byte_above cg g) cards)))
    ]

view_byte : (cg h a i : ℕ) (s : SegmentView) → cg < h → h < s.generation → byte_at (Some s) a i ≤ h → byte_at (Some (when_raised cg s)) a i ≤ h
view_byte cg h a i s above young le =
    elim (nat_lt cg s.generation) as (λ b. byte_at (Some (cond b (record s { cards = raised_bytes cg (byte_above cg s.generation) s.cards }) s)) a i ≤ h) [
      | true ↦ raised_at_le cg s.generation h s.cards (card_of (place_of s a i)) above young le
      | false ↦ le
    ]

seen_byte : (cg h a i : ℕ) (p : Segment) → is_free p.role ≡ false → cg < h → h < p.generation → byte_at (seen p) a i ≤ h → byte_at (option_map (when_raised cg) (seen p)) a i ≤ h
seen_byte cg h a i p used above young le =
    elim p.role as (λ r. is_free r ≡ false → byte_at (seen (record p { role = r })) a i ≤ h → byte_at (option_map (when_raised cg) (seen (record p { role = r }))) a i ≤ h) [
      | Free ↦ λ u l. cc
      | Current ↦ λ u l. view_byte cg h a i _ above young l
      | From ↦ λ u l. view_byte cg h a i _ above young l
    ] used le

pub aged_sound : (thread : ℕ) (old new : PoolView) (targets targets' : Targets) (now : TerritoryView) (cg : ℕ) (generation_at : ℕ → Option ℕ) → territory_view thread old targets ≡ now → IsSettled old → IsSettled new → cg < 255 → AreAged old new cg
    → TellsAbove cg generation_at → AreCardsSound generation_at now → AreCardsSound generation_at (territory_view thread new targets')
aged_sound thread old new targets targets' now cg generation_at e s s' small aged_so tells sound a i b h x has refers gen young =
    let n : ℕ = segment_of a in
    let p : Segment = numbered old.segments n in
    let had : get now.starts a ≡ Some x = ap (λ v. get v a) (sym (aged_starts thread old new targets now cg e s s' aged_so)) ∙ has in
    let at : IsPresent thread old.segments a x = present thread old a x s (ap (λ (v : TerritoryView). get v.starts a) e ∙ had) in
    let le : card_byte now a i ≤ h = sound a i b h x had refers gen young in
    let seen_is : segment_at now n ≡ seen p = sym (ap (λ (v : TerritoryView). segment_at v n) e) ∙ seen_at old.segments n in
    let le' : byte_at (seen p) a i ≤ h = subst (λ o. byte_at o a i ≤ h) seen_is le in
    let young' : h < p.generation = subst (λ (v : Start). h < v.generation) at.object young in
    let told : byte_at (option_map (when_raised cg) (seen p)) a i ≤ h = seen_byte cg h a i p at.starts.0 (tells b h gen) young' le' in
    subst (λ o. byte_at o a i ≤ h) (sym (aged_segments thread old new targets now cg n e s small aged_so ∙ ap (option_map (when_raised cg)) seen_is)) told
