use Rattle.test_refused.proofs.journals.a_seat_whose_call_was_refused_counts_one_less.Given as goal

abbrev pub ghosts-two_call : goal.ghosts-two_call
ghosts-two_call g a = record { name = a.blank.name; parts = a.blank.parts }
