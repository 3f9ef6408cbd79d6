use Rattle.collectcount.proofs.collected.Given as goal

abbrev pub ghosts-collect_with-M-Ledger : goal.ghosts-collect_with-M-Ledger
ghosts-collect_with-M-Ledger g a = record { name = a.mail.name; parts = a.mail.parts }

abbrev pub ghosts-collect_with-L-Ledger : goal.ghosts-collect_with-L-Ledger
ghosts-collect_with-L-Ledger g a = record { name = a.steps.name; parts = a.steps.parts }
