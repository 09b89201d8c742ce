use Rattle.test_history.proofs.books.take_turns.Given as goal

abbrev pub ghosts-refused : goal.ghosts-refused
ghosts-refused g a = record { name = a.blank.name; parts = a.blank.parts }

abbrev pub ghosts-two_seats : goal.ghosts-two_seats
ghosts-two_seats g a = record { name = a.blank.name; parts = a.blank.parts }
