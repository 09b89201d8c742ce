use Rattle.test_history.proofs.threads.count_calls.Given as goal

abbrev pub ghosts-call_under : goal.ghosts-call_under
ghosts-call_under g a = record { name = a.blank.name; parts = a.blank.parts }
