use Rattle.replay.proofs.collecting.collect_heap.Given as goal

abbrev pub ghosts-collect_on-M-Ledger : goal.ghosts-collect_on-M-Ledger
ghosts-collect_on-M-Ledger g a = record { name = a.mail.name; parts = a.mail.parts }

abbrev pub ghosts-collect_on-L-Ledger : goal.ghosts-collect_on-L-Ledger
ghosts-collect_on-L-Ledger g a = record { name = a.steps.name; parts = a.steps.parts }
