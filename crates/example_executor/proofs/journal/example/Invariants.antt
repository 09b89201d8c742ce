use Rattle.example_executor.proofs.journal.example.Given as goal

abbrev pub ghosts-call_by_two : goal.ghosts-call_by_two
ghosts-call_by_two g a = record { name = a.blank.name; parts = a.blank.parts }
