use Rattle.esync_script.proofs.opening.serve_pipe.Given as goal

-- the capacity that line 1 says
abbrev pub ghosts-serve_bytes : goal.ghosts-serve_bytes
ghosts-serve_bytes g a = record { limit = a.places }
