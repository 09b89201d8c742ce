use Rattle.test_history.proofs.flags.two_threads_that_share_a_channel_meet.Given as goal

abbrev pub ghosts-both_meet : goal.ghosts-both_meet
ghosts-both_meet g a = record { name = a.blank.name; parts = a.blank.parts }
