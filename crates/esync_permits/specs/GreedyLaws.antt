-- The laws that the steps of a greedy semaphore keep.
use Rattle.std.specs.Prelude.{ℕ, Bool, List, Some, None, refl}
use Rattle.std.proofs.Common.{arith}
use Rattle.esync_machine.specs.Rules.{IsIdle, IdleIsPending}
use Rattle.esync_permits.specs.declared.semaphore.machine.PermitHeld.TheVariants.{Waiting, Releaser}
use Rattle.esync_permits.specs.GreedyRules.{Held, greedy_rules, OwesFor}

pub greedy_idle : {W : Type 0} (eq : W → W → Bool) (n : ℕ) (slot : List W) (h : Held) (w : W) → OwesFor eq n slot h w → IsIdle greedy_rules n h
greedy_idle eq n slot (Waiting amount t) w h = (None, (h.0, refl), (refl, refl))
greedy_idle eq n slot (Releaser k) w h = absurd h

pub greedy_pending : IdleIsPending greedy_rules
greedy_pending n (Waiting amount t) a n2 p (Some k, u, h) j = (let f = h.0 in absurd cc)
greedy_pending n (Waiting amount t) a n2 p (None, u, h) (Some k, v, j) = absurd (omega arith)
greedy_pending n (Waiting amount t) a n2 p (None, u, h) (None, v, j) = (j.0, v.1, j.1)
greedy_pending n (Releaser k) a n2 p h j = (let f = h.0 in absurd cc)
