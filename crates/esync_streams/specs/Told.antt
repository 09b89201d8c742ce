-- What a poll answers, in the words of `futures`, and what an adapter of a sink is.
use Rattle.std.specs.Prelude.{◌≡◌, ℕ, Option, refl}
use Rattle.std.specs.Coded.{Coded, code_by, coded×, coded_ℕ, coded_option}
use Rattle.esync_base.specs.declared.waitqueue.Poll.{Poll}
use Rattle.esync_base.specs.declared.waitqueue.Poll.TheVariants.{Pending, Ready}
use Rattle.futures.specs.declared.task.Poll.{Poll as TaskPoll}
use Rattle.futures.specs.declared.task.Poll.TheVariants.{Pending as StillPending, Ready as NowReady}

-- the channel's answer to a poll, in the words of `futures`
abbrev pub told : {A : Type 0} → Poll A → TaskPoll A
told (Ready a) = NowReady a
told Pending = StillPending

-- an answer in the words of `futures`, as the channel's answer
abbrev pub as_poll : {A : Type 0} → TaskPoll A → Poll A
as_poll (NowReady a) = Ready a
as_poll StillPending = Pending

-- a sink for `futures`: the message that it stores, and the source of the wakers that its tasks leave
pub record Adapter (T : Type 0) : Type 0 where
  pub stored : Option T
  pub source : ℕ

abbrev pub adapter_code : {T : Type 0} → Coded T → Coded (Adapter T)
adapter_code {T} t = code_by (Option T × ℕ) (coded× (coded_option t) coded_ℕ) (λ s. (s.stored, s.source)) (λ p. record { stored = p.0; source = p.1 }) (λ _. refl)
