-- What is kept where the cards of a share's territories are raised.
use Rattle.std.proofs.Common.{◌≡◌, ℕ, ◌/◌, ◌<◌, ◌==◌, Bool, true, false, cond, List, length, get_or, Option, None, Some, refl, sym, ap, ◌∙◌, inl, inr, arith}
use Rattle.std.proofs.lemmas.Bool.{cases_lt}
use Rattle.std.proofs.lemmas.List.{get_or_past}
use Rattle.std.specs.Prelude.{nat_lt, option_map}
use Rattle.std.specs.FinMap.{get}
use Rattle.gc_words.specs.Layout.{segment_of, thread_of}
use Rattle.gc_mail.specs.Recipients.{owner}
use Rattle.territory.specs.Territories.{SegmentView, TerritoryView, no_territory, segment_at}
use Rattle.territory.specs.Olds.{when_raised}
use Rattle.sweep_share.specs.Shares.{AreRaised, IsRaised, IsRaisedThere, ShareView, is_from_one}

-- a from-segment stays one
from_raised : (cg : ℕ) (o : Option SegmentView) → is_from_one (option_map (when_raised cg) o) ≡ is_from_one o
from_raised cg None = refl
from_raised cg (Some s) = either (nat_lt cg s.generation) _ s refl
  where
    either : (b : Bool) (q r : SegmentView) → q.is_from ≡ r.is_from → (cond b q r).is_from ≡ r.is_from
    either true q r e = e
    either false q r e = refl

module _ (s : ShareView) (new : List TerritoryView) (cg : ℕ) (raised : AreRaised cg s.territories new) where
  -- what is kept by each territory
  same : {A : Type 0} (F : TerritoryView → A)
      → ((i : ℕ) → IsRaisedThere (get_or s.territories i (no_territory 0)) (get_or new i (no_territory 0)) cg
      → F (get_or new i (no_territory 0)) ≡ F (get_or s.territories i (no_territory 0)))
      → (i : ℕ) → F (get_or new i (no_territory 0)) ≡ F (get_or s.territories i (no_territory 0))
  same F f i = elim (cases_lt i (length s.territories)) [
    | inl below ↦ f i (raised.each i below)
    | inr past ↦ ap F (get_or_past new i (no_territory 0) (omega (arith, past, raised.count))
        ∙ sym (get_or_past s.territories i (no_territory 0) past))
  ]

  pub is_raised : IsRaised s (record s { territories = new }) cg
  is_raised = record {
    alike = record {
      number = refl;
      sweepers = refl;
      count = raised.count;
      threads = same (λ t. t.thread) (λ i r. r.thread);
      targets = same (λ t. t.targets) (λ i r. r.targets);
      aside = λ a. same (λ t. is_from_one (segment_at t (segment_of a)))
          (λ i r. ap is_from_one (r.segments (segment_of a)) ∙ from_raised cg _) (thread_of a / s.sweepers);
    };
    starts = λ a. ap (λ o. cond (owner s.sweepers a == s.number) o None)
        (same (λ t. get t.starts a) (λ i r. ap (λ m. get m a) r.starts) (thread_of a / s.sweepers));
    there = same (λ t. t.starts) (λ i r. r.starts);
    marks = λ i n h. (raised.each i h).segments n;
    sound = λ g tells old i h.
        let below : i < length s.territories = omega (arith, h, raised.count) in
        (raised.each i below).sound g tells (old i below);
  }
