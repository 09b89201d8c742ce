use Rattle.test_history.proofs.seats.settle_two.Given as goal

abbrev pub ghosts-settle_one : goal.ghosts-settle_one
ghosts-settle_one g a = record { name = a.blank.name; parts = a.blank.parts }

abbrev pub ghosts-settle_none : goal.ghosts-settle_none
ghosts-settle_none g a = record { name = a.blank.name; parts = a.blank.parts }
