use Rattle.std.proofs.Common.{rules, ◌++◌, ◌∙◌, ap}
use Rattle.std.proofs.lemmas.List.{append-nil}
use Rattle.esync_log.specs.Log.{Log}
use Rattle.esync_pubsub.specs.PubSub.{PubSub, Lists, lists_after_room, wakes_of_room}
use Rattle.esync_log.specs.LogLaws.{lag_read, lag_gap, end_read, end_gap}
use Rattle.esync_pubsub.proofs.Reading.{lag_frees}
use Rattle.esync_pubsub.proofs.pubsub.PubSubOver.poll_next.Goals as goal

-- with these lists and this log
abbrev with_lists : {T W : Type 0} → Log T → PubSub T W → Lists W → PubSub T W
with_lists log s l = record { log = log; publishers = s.publishers; lists = l }

pub returns-in-Ok-Ready-Lagged : goal.returns-in-Ok-Ready-Lagged
returns-in-Ok-Ready-Lagged g c =
    let log2 = c.get_message_with_context.new.self.log in
    let read = rw (c.in-Ok-Ready-Lagged.field-0-is, c.in-Ok-Ready-Lagged.field-0-0-is) at c.in-Ok-Ready-Lagged.ensures.ok in
    record {
      ok = lag_gap c.args.id.now c.args.self.now.log g.G.Message.Clone.is_clone log2 c.in-Ok-Ready-Lagged._missed read;
      rest = (
          let frees = lag_frees c.args.id.now c.args.self.now.log g.G.Message.Clone.is_clone log2 c.in-Ok-Ready-Lagged._missed read in
          let rest = (rw c.in-Ok-Ready-Lagged.field-0-is at c.in-Ok-Ready-Lagged.ensures.rest) ∙ ap (with_lists log2 c.args.self.now) (ap (λ b. lists_after_room b c.args.self.now.lists) frees) in
          rw (lag_read c.args.id.now c.args.self.now.log g.G.Message.Clone.is_clone log2 c.in-Ok-Ready-Lagged._missed read) rest);
      wakes = (
          let frees = lag_frees c.args.id.now c.args.self.now.log g.G.Message.Clone.is_clone log2 c.in-Ok-Ready-Lagged._missed read in
          let woken = (rw c.in-Ok-Ready-Lagged.field-0-is at c.in-Ok-Ready-Lagged.ensures.wakes) ∙ ap (λ b. c.args.wakes.now ++ wakes_of_room b c.args.self.now.lists) frees ∙ append-nil c.args.wakes.now in
          rw (lag_read c.args.id.now c.args.self.now.log g.G.Message.Clone.is_clone log2 c.in-Ok-Ready-Lagged._missed read, c.push.ensures, woken, c.waker.ensures) (search rules));
      refused = search rules;
      unchanged = search rules;
      unwoken = search rules;
    }

pub returns-in-Ok-Pending : goal.returns-in-Ok-Pending
returns-in-Ok-Pending g c =
    let log2 = c.get_message_with_context.new.self.log in
    let read = rw c.in-Ok-Pending.field-0-is at c.in-Ok-Pending.ensures.ok in
    record {
      ok = end_gap c.args.id.now c.args.self.now.log g.G.Message.Clone.is_clone log2 read;
      rest = (
          let rest = rw c.in-Ok-Pending.field-0-is at c.in-Ok-Pending.ensures.rest in
          rw (end_read c.args.id.now c.args.self.now.log g.G.Message.Clone.is_clone log2 read) rest);
      wakes = (
          let woken = rw c.in-Ok-Pending.field-0-is at c.in-Ok-Pending.ensures.wakes in
          rw (end_read c.args.id.now c.args.self.now.log g.G.Message.Clone.is_clone log2 read) woken);
      refused = search rules;
      unchanged = search rules;
      unwoken = search rules;
    }

pub returns-in-Err-clause-refused : goal.returns-in-Err-clause-refused
returns-in-Err-clause-refused g c = c.in-Err.ensures.refused
