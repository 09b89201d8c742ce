use Rattle.esync_script.proofs.opening.serve_priority.Given as goal

-- the capacity that line 1 says
abbrev pub ghosts-serve_bag : goal.ghosts-serve_bag
ghosts-serve_bag g a = record { limit = a.capacity }
