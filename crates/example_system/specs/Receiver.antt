-- A receiver that ends once it receives a zero.
use Rattle.std.specs.Prelude.{ℕ, zero, suc, false, List, [], Vec}
use Rattle.std.specs.declared.alloc.Global.{Global}
use Rattle.esync_base.specs.declared.waitqueue.TaskId.{TaskId}
use Rattle.esync_channel.specs.declared.channel.machine.ChannelHeard.{ChannelHeard}
use Rattle.esync_channel.specs.declared.channel.machine.ChannelHeard.TheVariants.{Received}
use Rattle.esync_history.specs.declared.executor.Act.{Act}
use Rattle.esync_machine.specs.declared.primitive.Answer.{Answer}
use Rattle.esync_machine.specs.declared.primitive.Answer.TheVariants.{Gives}
use Rattle.esync_machine.specs.declared.run.Reply.{Reply}
use Rattle.esync_systems.specs.Positions.{acts_of}
use Rattle.esync_systems.specs.Schedules.{Plan}

-- the place at which a task goes on: it receives again unless it received a zero
abbrev pub until_zero : Answer (ChannelHeard ℕ) → ℕ → ℕ
until_zero (Gives (Received zero)) behind = behind
until_zero (Gives (Received (suc message))) behind = 0
until_zero answer behind = behind

-- what these tasks do
abbrev pub receiving : {Ask Command : Type 0} → List (Vec (Act Ask Command) Global) → Plan Ask Command (Reply (Answer (ChannelHeard ℕ)) TaskId 1)
receiving tasks = record { program = acts_of tasks; priorities = []; next = λ task behind reply. until_zero reply.answer behind; rests = λ task place waits. false }
