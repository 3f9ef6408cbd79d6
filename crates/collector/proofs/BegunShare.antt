-- A sweeper's share of the territories that have begun has what started in the heap, and sound cards.
use Rattle.std.proofs.Common.{◌≡◌, ℕ, ◌+◌, ◌*◌, ◌/◌, ◌%◌, nat_le, List, get_or, slice_get, option_map, Option, None, Some, refl, sym, ap, ◌∙◌, unwrap_or}
use Rattle.std.proofs.lemmas.Option.{get_or_from_slice_get, unwrap_or-slice_get}
use Rattle.std.specs.FinMap.{get, get-empty}
use Rattle.std.specs.Ordering.{nat_cmp}
use Rattle.gc_words.specs.Layout.{segment_of, thread_of}
use Rattle.segment.specs.Segments.{Start}
use Rattle.territory.specs.declared.territory.Targets.{Targets}
use Rattle.territory.specs.Territories.{TerritoryView, no_territory, segment_at}
use Rattle.heap_store.specs.HeapView.{starts_in, start_in as start_of}
use Rattle.heap_store.specs.Changes.{HaveSoundCards, generation_at}
use Rattle.sweep_share.specs.Shares.{AreSound, ShareView, is_aside, is_from_one, start_in}
use Rattle.sweep_share.proofs.Places.{own_start}
use Rattle.sweeper.specs.Starting.{generation_of}
use Rattle.collector.specs.Begun.{HaveBegun}
use Rattle.collector.specs.Dealt.{IsDealtTo}
use Rattle.collector.proofs.BegunTerritories.{begun_from, same_starts}
use Rattle.collector.proofs.BegunDealt.{number_is, own_there}
use Rattle.collector.proofs.BegunAside.{LiesIn}

-- the territories of sweeper k of n
abbrev pub share_among : ℕ → ℕ → List TerritoryView → ShareView
share_among k n own = record { number = k; sweepers = n; territories = own }

-- the territory of an own address stands at its quotient
pub own_at_quotient : (n k t : ℕ) (all own : List TerritoryView) → IsDealtTo n k all own → t % n ≡ k
    → slice_get own (t / n) ≡ slice_get all t
own_at_quotient n k t all own dealt mine = dealt (t / n) ∙ ap (slice_get all) (number_is n k t mine)

-- where there is no territory nothing starts
there_or_none : (own : List TerritoryView) (i a : ℕ) (o : Option TerritoryView) → slice_get own i ≡ o
    → get (get_or own i (no_territory 0)).starts a ≡ start_of o a
there_or_none own i a None e =
    ap (λ (z : TerritoryView). get z.starts a)
    (sym (unwrap_or-slice_get own i (no_territory 0)) ∙ ap (λ o. unwrap_or o (no_territory 0)) e)
    ∙ get-empty nat_cmp a
there_or_none own i a (Some t) e =
    ap (λ (z : TerritoryView). get z.starts a) (get_or_from_slice_get own i t (no_territory 0) e)

-- what starts at an own address is what started there
pub share_starts : (old new own : List TerritoryView) (targets : Targets) (n k a : ℕ) → HaveBegun old new targets
    → IsDealtTo n k new own → thread_of a % n ≡ k → start_in (share_among k n own) a ≡ starts_in old a
share_starts old new own targets n k a begun dealt mine =
    own_start (share_among k n own) a mine
    ∙ (there_or_none own (thread_of a / n) a (slice_get new (thread_of a))
    (own_at_quotient n k (thread_of a) new own dealt mine)
    ∙ same_starts old new targets a begun)

-- an own start lies in a from-segment where it is collected
pub share_aside : (new own : List TerritoryView) (cg n k a : ℕ) (x : Start) → IsDealtTo n k new own
    → LiesIn new cg a x → thread_of a % n ≡ k → is_aside (share_among k n own) a ≡ nat_le x.generation cg
share_aside new own cg n k a x dealt l mine =
    ap (λ (z : TerritoryView). is_from_one (segment_at z (segment_of a)))
    (get_or_from_slice_get own (thread_of a / n) l.territory (no_territory 0)
    (own_at_quotient n k (thread_of a) new own dealt mine ∙ l.there))
    ∙ (ap is_from_one l.here ∙ l.from)

-- ---- cards

same_generation : (o : Option Start) → option_map (λ (x : Start). x.generation) o ≡ generation_of o
same_generation None = refl
same_generation (Some x) = refl

-- the cards of a share are sound by the generations of the starts
pub share_sound : (old new own : List TerritoryView) (targets : Targets) (n k : ℕ) → HaveBegun old new targets
    → HaveSoundCards old → IsDealtTo n k new own
    → AreSound (λ a. generation_of (starts_in old a)) (share_among k n own)
share_sound old new own targets n k begun sound dealt i within a index b h x here refers told lower =
    let u : TerritoryView = get_or own i (no_territory 0) in
    let t = begun_from old new targets (k + i * n) u begun
    (own_there own i (no_territory 0) (slice_get new (k + i * n)) (dealt i) within) in
    t.2.sound (generation_at (starts_in old)) (sound (k + i * n) t.0 t.1) a index b h x here refers
    (same_generation (starts_in old b) ∙ told) lower
