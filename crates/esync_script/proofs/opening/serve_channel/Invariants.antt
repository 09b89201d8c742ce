use Rattle.esync_script.proofs.opening.serve_channel.Given as goal

-- the capacity that line 1 says
abbrev pub ghosts-serve_list : goal.ghosts-serve_list
ghosts-serve_list g a = record { limit = a.capacity }
