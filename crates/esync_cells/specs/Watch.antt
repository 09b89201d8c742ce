-- A watch: an optional value with a version, how many receivers are counted, and the registered wakers.
use Rattle.std.specs.Prelude.{ℕ, ◌+◌, ◌-◌, ◌^◌, Bool, true, false, List, [], Option, Some, None, Result, Ok, Err, ⊤, refl}
use Rattle.std.specs.Coded.{Coded, code_by, coded×, coded_list, coded_option, coded_ℕ}
use Rattle.esync_base.specs.declared.waitqueue.Poll.{Poll}
use Rattle.esync_base.specs.declared.waitqueue.Poll.TheVariants.{Pending, Ready}

pub record Watching (T W : Type 0) : Type 0 where
  pub value : Option T
  -- the first version, and one more for each value that was sent
  pub version : ℕ
  pub receivers : ℕ
  pub waiters : List W

abbrev pub watching_code : {T W : Type 0} → Coded T → Coded W → Coded (Watching T W)
watching_code {T} {W} t w =
    code_by (Option T × (ℕ × (ℕ × List W))) (coded× (coded_option t) (coded× coded_ℕ (coded× coded_ℕ (coded_list w)))) (λ s. (s.value, (s.version, (s.receivers, s.waiters)))) (λ p. record { value = p.0; version = p.1.0; receivers = p.1.1.0; waiters = p.1.1.1 }) (λ _. refl)

-- a watch without counted receivers and without registered wakers
abbrev pub fresh : {T W : Type 0} → Option T → ℕ → Watching T W
fresh value version = record { value = value; version = version; receivers = 0; waiters = [] }

-- whether there is a value that passes the test
abbrev pub judged : {T : Type 0} → (T → Bool) → Option T → Bool
judged passes None = false
judged passes (Some v) = passes v

-- what a read finds: the value, if it is to be shown
abbrev pub found : {T : Type 0} → Bool → Option T → Option T
found true value = value
found false value = None

-- what a read answers: a clone of what it finds, nothing if it finds nothing, or that a clone had no memory
abbrev pub Answers : {T E : Type 0} → (T → T → Type 0) → (T → Type 0) → Option T → Result (Option T) E → Type 0
Answers IsClone IsInfallible None (Ok None) = ⊤
Answers IsClone IsInfallible None (Ok (Some w)) = ⊥
Answers IsClone IsInfallible None (Err e) = ⊥
Answers IsClone IsInfallible (Some v) (Ok None) = ⊥
Answers IsClone IsInfallible (Some v) (Ok (Some w)) = IsClone v w
Answers IsClone IsInfallible (Some v) (Err e) = ¬ (IsInfallible v)

-- the version that a reader has seen after a read, which may mark the version even if the read finds nothing
abbrev pub seen_after : {T E : Type 0} → Bool → ℕ → ℕ → Result (Option T) E → ℕ
seen_after marks version seen (Ok (Some v)) = version
seen_after true version seen (Ok None) = version
seen_after false version seen (Ok None) = seen
seen_after marks version seen (Err e) = seen

-- a poll's answer, as a read's
abbrev pub polled : {T E : Type 0} → Result (Poll T) E → Result (Option T) E
polled (Ok (Ready v)) = Ok (Some v)
polled (Ok Pending) = Ok None
polled (Err e) = Err e

-- the waker of a poll is registered if the poll is Pending
abbrev pub waiter_where_pending : {T E W : Type 0} → Result (Poll T) E → W → Option W
waiter_where_pending (Ok (Ready v)) w = None
waiter_where_pending (Ok Pending) w = Some w
waiter_where_pending (Err e) w = None

-- versions run out at the last number
abbrev pub last_version : ℕ
last_version = 2 ^ 64 - 1

-- the watch after this value was sent, or refused
abbrev pub sent : {T W A E : Type 0} → Watching T W → Option T → Result A E → Watching T W
sent s value (Ok done) = record s { value = value; version = s.version + 1; waiters = [] }
sent s value (Err e) = s

-- the registered wakers that a send hands out
abbrev pub woken_by : {A E W : Type 0} → Result A E → List W → List W
woken_by (Ok done) waiters = waiters
woken_by (Err e) waiters = []

-- the watch after a change, which answers whether it changed the value: if it didn't, nothing is sent
abbrev pub sent_if : {T W A E : Type 0} → Watching T W → Option T → Bool → Result A E → Watching T W
sent_if s value tells (Err e) = s
sent_if s value true (Ok done) = record s { value = value; version = s.version + 1; waiters = [] }
sent_if s value false (Ok done) = s

abbrev pub woken_if : {A E W : Type 0} → Bool → Result A E → List W → List W
woken_if tells (Err e) waiters = []
woken_if true (Ok done) waiters = waiters
woken_if false (Ok done) waiters = []
