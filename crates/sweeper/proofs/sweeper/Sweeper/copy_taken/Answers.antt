use Rattle.std.proofs.Common.{[], ◌∷◌, ◌++◌, ap, sym, subst}
use Rattle.sweep_share.specs.Following.{IsPairIn}
use Rattle.sweep_places.specs.Places.{PlacesView}
use Rattle.sweeper.specs.Sweepers.{SweeperView}
use Rattle.sweeper.proofs.Kept.{copies_shown}
use Rattle.sweeper.proofs.sweeper.Sweeper.copy_taken.Goals as goal

pub copy_pair-requires-clause-pair : goal.copy_pair-requires-clause-pair
copy_pair-requires-clause-pair c = subst (λ (v : SweeperView). IsPairIn v.share c.args.target) (sym c.self.view_is) c.requires.pair

pub returns : goal.returns
returns c =
    copies_shown _ c.args.self.now c.args.target c.in_ok-place.place c.args.generation _ _ c.self.view_is
    c.requires.may c.requires.goes c.in_ok-place.ensures.copied
    (ap (λ (p : PlacesView). record p { unswept = p.unswept ++ (c.args.target, c.in_ok-place.place) ∷ [] }) c.in_ok-note_taken.ensures.ok)
    c.in_ok-note_taken.ensures.few c.requires.absent
