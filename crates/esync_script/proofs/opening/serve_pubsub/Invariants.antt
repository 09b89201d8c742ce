use Rattle.esync_script.proofs.opening.serve_pubsub.Given as goal

-- the capacity and the numbers of subscribers and publishers that line 1 says
abbrev pub ghosts-serve_log-B-Limit : goal.ghosts-serve_log-B-Limit
ghosts-serve_log-B-Limit g a = record { limit = a.capacity }

abbrev pub ghosts-serve_log-S-Limit : goal.ghosts-serve_log-S-Limit
ghosts-serve_log-S-Limit g a = record { limit = a.subscribers }

abbrev pub ghosts-serve_log-Q-Limit : goal.ghosts-serve_log-Q-Limit
ghosts-serve_log-Q-Limit g a = record { limit = a.publishers }
