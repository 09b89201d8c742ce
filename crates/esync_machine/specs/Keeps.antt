-- What a machine's commands do to its requests.
use Rattle.std.specs.Prelude.{◌≡◌, ℕ, Some, None, ◌⊎◌}
use Rattle.esync_machine.specs.Runs.{Meaning}

pub record KeepsRequests {Command Reply Waker : Type 0} (M : Meaning Command Reply Waker) : Type 0 where
  -- a start polls nothing
  pub apart : (c : Command) (r : ℕ) → M.starts c ≡ Some r → M.polls c ≡ None
  -- a command ends a request or doesn't
  pub decided : (o : M.Object) (c : Command) (r : ℕ) → M.Ends o c r ⊎ (M.Ends o c r → ⊥)
  -- the command that ends a number ends what stands there, a request or not
  pub ends : (o : M.Object) (c : Command) (r : ℕ) → M.ends c ≡ Some r → M.Ends o c r
  -- a request that was ended is gone
  pub gone : (o o2 : M.Object) (c : Command) (a : Reply) (r : ℕ) → M.allows o c a o2 → M.Ends o c r → M.IsLive o2 r → ⊥
  -- a request is there if it was there before, or was started
  pub made : (o o2 : M.Object) (c : Command) (a : Reply) (r : ℕ) → M.allows o c a o2 → M.IsLive o2 r → (M.starts c ≡ Some r) ⊎ M.IsLive o r
