use Rattle.esync_script.proofs.opening.serve_zerocopy.Goals as goal

pub returns : goal.returns
returns g c = rw c.places.ensures.value at (c.serve.ensures _ _ (λ m new. new))
