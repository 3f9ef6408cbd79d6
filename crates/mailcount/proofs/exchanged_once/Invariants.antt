use Rattle.mailcount.proofs.exchanged_once.Given as goal

abbrev pub ghosts-exchanged : goal.ghosts-exchanged
ghosts-exchanged g a = record { name = a.blank.name; parts = a.blank.parts }
