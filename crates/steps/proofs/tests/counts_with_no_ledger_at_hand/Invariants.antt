use Rattle.steps.proofs.tests.counts_with_no_ledger_at_hand.Given as goal

abbrev pub ghosts-three : goal.ghosts-three
ghosts-three a = record { name = a.blank.name; parts = a.blank.parts }
