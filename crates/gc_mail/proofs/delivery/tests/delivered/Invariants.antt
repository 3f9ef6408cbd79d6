use Rattle.gc_mail.proofs.delivery.tests.delivered.Given as goal

abbrev pub ghosts-exchanged : goal.ghosts-exchanged
ghosts-exchanged a = record { name = a.blank.name; parts = a.blank.parts }
