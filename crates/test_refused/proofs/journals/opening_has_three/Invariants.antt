use Rattle.test_refused.proofs.journals.opening_has_three.Given as goal

abbrev pub ghosts-opening_replies : goal.ghosts-opening_replies
ghosts-opening_replies g a = record { name = a.blank.name; parts = a.blank.parts }
