use Rattle.esync_script.proofs.opening.serve_fair.Given as goal

-- the capacity that line 1 says
abbrev pub ghosts-serve_queue : goal.ghosts-serve_queue
ghosts-serve_queue g a = record { limit = a.places }
