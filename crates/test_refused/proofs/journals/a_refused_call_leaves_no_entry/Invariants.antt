use Rattle.test_refused.proofs.journals.a_refused_call_leaves_no_entry.Given as goal

abbrev pub ghosts-records_again : goal.ghosts-records_again
ghosts-records_again g a = record { name = a.blank.name; parts = a.blank.parts }
