use Rattle.std.proofs.Common.{◌≡◌, ℕ, ◌/◌, ◌%◌, ◌==◌, List, [], ◌∷◌, ◌++◌, cond, get_or, None, Some, IsSome, refl, sym, subst, ap, ◌∙◌}
use Rattle.std.specs.FinMap.{get}
use Rattle.gc_words.specs.Layout.{thread_of}
use Rattle.segment.specs.Segments.{Start}
use Rattle.territory.specs.Territories.{TerritoryView, no_territory}
use Rattle.sweep_share.specs.Shares.{ShareView, start_in}
use Rattle.sweep_share.proofs.Putting.{at_key}
use Rattle.sweep_share.proofs.tests.share_of_a_pair.Goals as goal

there : (t : TerritoryView) (a : ℕ) (x : Start) → thread_of a ≡ 3 → get t.starts a ≡ Some x
    → IsSome (start_in (record { number = 3; sweepers = 64; territories = t ∷ [] }) a)
there t a x of_3 e =
    subst (λ n. IsSome (cond (n % 64 == 3) (get (get_or (t ∷ []) (n / 64) (no_territory 0)).starts a) None)) (sym of_3)
    (subst IsSome (sym e) refl)

pub returns : goal.returns
returns c =
    let territories : List TerritoryView = c.push.new.self.items in
    let alone : territories ≡ c.allocate.new.self ∷ [] =
    c.in_ok-push.ensures.items ∙ ap (λ (v : List TerritoryView). v ++ c.allocate.new.self ∷ []) c.new-territories.ensures.items in
    subst (λ (s : ShareView). IsSome (start_in s c.in_ok-at.at)) (sym c.in_ok-share.ensures)
    (subst (λ (v : List TerritoryView). IsSome (start_in (record { number = 3; sweepers = 64; territories = v }) c.in_ok-at.at)) (sym alone)
    (there c.allocate.new.self c.in_ok-at.at _
    (c.in_ok-at.ensures.address.1 ∙ ap (λ (t : TerritoryView). t.thread) c.in_ok-territory.ensures)
    (ap (λ m. get m c.in_ok-at.at) c.in_ok-at.ensures.starts ∙ at_key _ _ _)))
