-- A value that was set stays until it is taken. This is told of the value and the requests at first, and of the
-- commands and their answers.
use Rattle.std.specs.Prelude.{◌≡◌, ℕ, true, List, Option, Some, None, Ok, Err}
use Rattle.esync_machine.specs.Account.{AtEach}
use Rattle.esync_machine.specs.Numbers.{at_number}
use Rattle.esync_machine.specs.declared.run.Reply.{Reply}
use Rattle.esync_machine.specs.declared.primitive.Answer.{Answer}
use Rattle.esync_machine.specs.declared.primitive.Answer.TheVariants.{NoSuch, Gives}
use Rattle.esync_machine.specs.declared.primitive.Command.{Command}
use Rattle.esync_machine.specs.declared.primitive.Command.TheVariants.{Poll, Call}
use Rattle.esync_cells.specs.Asked.{requests_after}
use Rattle.esync_cells.specs.declared.once_lock.InitError.TheVariants.{Set}
use Rattle.esync_cells.specs.declared.once_lock.machine.Get.{Get}
use Rattle.esync_cells.specs.declared.once_lock.machine.OnceCall.{OnceCall}
use Rattle.esync_cells.specs.declared.once_lock.machine.OnceCall.TheVariants.{TryGet, Init, GetOrInit, Take, IsSet}
use Rattle.esync_cells.specs.declared.once_lock.machine.OnceHeard.{OnceHeard}
use Rattle.esync_cells.specs.declared.once_lock.machine.OnceHeard.TheVariants.{Got, Found, HasSet, Shown, IsSet as WasSet}

-- what is known of a once lock from its value and its requests at first, its commands and answers
pub record Account (T : Type 0) : Type 0 where
  -- the value that was set, and not yet taken
  pub value : Option T
  -- what stands at each number
  pub requests : List (Option Get)

module _ {T : Type 0} where
  -- the value after a command and its answer
  abbrev pub value_by : Option T → OnceCall T → Answer (OnceHeard T) → Option T
  value_by value (Init v) (Gives (HasSet (Ok done))) = Some v
  value_by value (GetOrInit x) (Gives (Shown v)) = Some v
  value_by value Take (Gives (Found p)) = None
  value_by value _ _ = value

  abbrev pub value_after : {W : Type 0} → Option T → Command Get W (OnceCall T) → Answer (OnceHeard T) → Option T
  value_after value (Call call) a = value_by value call a
  value_after value _ a = value

  abbrev pub after : {W : Type 0} → Account T → Command Get W (OnceCall T) → Answer (OnceHeard T) → Account T
  after k c a = record { value = value_after k.value c a; requests = requests_after k.requests c a }

  -- what a call is answered while this value is there
  abbrev pub ShowsTo : T → OnceCall T → Answer (OnceHeard T) → Type 0
  ShowsTo v TryGet a = a ≡ Gives (Found (Some v))
  ShowsTo v (Init x) a = a ≡ Gives (HasSet (Err (Set x)))
  ShowsTo v (GetOrInit x) a = a ≡ Gives (Shown v)
  ShowsTo v Take a = a ≡ Gives (Found (Some v))
  ShowsTo v IsSet a = a ≡ Gives (WasSet true)

  -- the answer to the poll of a request while this value is there, and to a poll at a number without a request
  abbrev pub ShowsToPoll : T → Option Get → Answer (OnceHeard T) → Type 0
  ShowsToPoll v (Some ask) a = a ≡ Gives (Got v)
  ShowsToPoll v None a = a ≡ NoSuch

  -- the answer to any command, if this value was set or none was
  abbrev pub Shows : {W : Type 0} → Option T → List (Option Get) → Command Get W (OnceCall T) → Answer (OnceHeard T) → Type 0
  Shows None requests c a = Unit {0}
  Shows (Some v) requests (Poll r w) a = ShowsToPoll v (at_number requests r) a
  Shows (Some v) requests (Call call) a = ShowsTo v call a
  Shows (Some v) requests c a = Unit {0}

  -- what is known at first of a once lock with this value, if it was set, and these requests
  abbrev pub at_first : Option T → List (Option Get) → Account T
  at_first value requests = record { value = value; requests = requests }

  -- A once lock has this value and these requests at first. If a value is there, or from a successful `Init` or a
  -- `GetOrInit` on, each call and each poll of a request shows it until a `Take`. Every other poll names what isn't
  -- there. This holds at each command of a run.
  abbrev pub StaysSet : {W : Type 0} {K : ℕ} → Option T → List (Option Get) → List (Command Get W (OnceCall T)) → List (Reply (Answer (OnceHeard T)) W K) → Type 0
  StaysSet value requests commands replies =
      AtEach (λ k c a. after k c a.answer) (λ k c a. Shows k.value k.requests c a.answer) (at_first value requests) commands replies
