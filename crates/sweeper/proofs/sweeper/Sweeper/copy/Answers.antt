use Rattle.sweeper.proofs.Kept.{copies_shown}
use Rattle.sweeper.proofs.sweeper.Sweeper.copy.Goals as goal

pub returns : goal.returns
returns c =
    copies_shown _ c.args.self.now c.args.target c.in_ok-place.place c.args.generation _ _ c.self.view_is
    c.requires.may c.requires.goes c.in_ok-place.ensures.copied c.in_ok-note.ensures.ok c.in_ok-note.ensures.few c.requires.absent
