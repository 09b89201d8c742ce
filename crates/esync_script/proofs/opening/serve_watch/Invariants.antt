use Rattle.esync_script.proofs.opening.serve_watch.Given as goal

-- the capacity that line 1 says
abbrev pub ghosts-serve_value : goal.ghosts-serve_value
ghosts-serve_value g a = record { limit = a.receivers }
