-- A lock: whether it is held, and the waker of the task that waits for it.
use Rattle.std.specs.Prelude.{◌≡◌, Bool, true, false, List, [], ◌∷◌, Option, Some, None, Result, Ok, Err, refl}
use Rattle.std.specs.Coded.{Coded, code_by, coded×, coded_list, coded_bool}
use Rattle.esync_base.specs.Registration.{displaced}
use Rattle.esync_base.specs.declared.waitqueue.Poll.{Poll}
use Rattle.esync_base.specs.declared.waitqueue.Poll.TheVariants.{Pending, Ready}
use Rattle.esync_guards.specs.declared.mutex.TryLockError.{TryLockError}

pub record Locking (W : Type 0) : Type 0 where
  pub held : Bool
  -- at most one waker
  pub waiter : List W

abbrev pub locking_code : {W : Type 0} → Coded W → Coded (Locking W)
locking_code {W} w =
    code_by (Bool × List W) (coded× coded_bool (coded_list w)) (λ s. (s.held, s.waiter)) (λ p. record { held = p.0; waiter = p.1 }) (λ _. refl)

-- what a try of a lock answers, by whether it is held
abbrev pub tried : Bool → Result (Unit {0}) TryLockError
tried true = Err (record {})
tried false = Ok tt

-- what a poll of a lock answers
abbrev pub polled : Bool → Poll (Unit {0})
polled true = Pending
polled false = Ready tt

-- the waker of a poll registers if the lock is held
abbrev pub waiter_where_held : {W : Type 0} → Bool → W → Option W
waiter_where_held true w = Some w
waiter_where_held false w = None

-- a mutex with its value
pub record Guarding (T W : Type 0) : Type 0 where
  pub lock : Locking W
  pub value : T

abbrev pub guarding_code : {T W : Type 0} → Coded T → Coded W → Coded (Guarding T W)
guarding_code {T} {W} t w =
    code_by (Locking W × T) (coded× (locking_code w) t) (λ s. (s.lock, s.value)) (λ p. record { lock = p.0; value = p.1 }) (λ _. refl)

-- a task that takes the value locks; without the value the lock stays as it is
abbrev pub Wins : {W : Type 0} → Bool → Locking W → Locking W → Type 0
Wins true old new = (old.held ≡ false) × (new ≡ record old { held = true })
Wins false old new = new ≡ old

-- what a poll hands out, by whether the lock was held and whether the value was taken: its own waker if neither
abbrev pub wakes_of_turn : {W : Type 0} → (W → W → Bool) → W → Bool → Bool → List W → List W
wakes_of_turn eq w true won waiter = displaced eq 1 waiter w
wakes_of_turn eq w false true waiter = []
wakes_of_turn eq w false false waiter = w ∷ []
