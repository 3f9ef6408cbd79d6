use Rattle.sweep_rounds.proofs.tests.one_round_where_nothing_is_asked_for.Given as goal

abbrev pub ghosts-run : goal.ghosts-run
ghosts-run g a = record { name = a.blank.name; parts = a.blank.parts }
