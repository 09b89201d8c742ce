use Rattle.std.proofs.Common.{ℕ, zero, suc, ◌+◌, ◌≤◌, nat_lt, arith, length-drop}
use Rattle.std.proofs.lemmas.Bool.Decides.{nat_tests}
use Rattle.esync_base.specs.Ring.{next, slot}
use Rattle.esync_pipe.proofs.pipe.shared.CopiedIn.consume.Goals as goal

next_within : (n i : ℕ) → next n i ≤ i + 1
next_within n i = grind (arith, nat_tests)

-- a place that is k behind another is at most k further on
slot_within : (n f k : ℕ) → slot n f k ≤ f + k
slot_within n f zero = omega arith
slot_within n f (suc k) = omega (arith, next_within n (slot n f k), slot_within n f k)

pub invariant_of-self : goal.invariant_of-self
invariant_of-self g c =
    let ring = g.R.ByteStore.ring c.self.inside.bytes in
    let n = g.R.ByteStore.capacity in
    rw (c.consume.ensures.items, c.consume.ensures.front) (omega (arith, c.self.invariant, length-drop c.args.amt ring.items, slot_within n ring.front c.args.amt))
