use Rattle.sweep_rounds.proofs.tests.sweepers_of_a_round_meet.Given as goal

abbrev pub ghosts-run : goal.ghosts-run
ghosts-run g a = record { name = a.blank.name; parts = a.blank.parts }
