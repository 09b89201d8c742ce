use Rattle.std.proofs.Common.{◌≡◌, ◌+◌, ◌∷◌, refl, sym, ap, subst, ◌∙◌, arith, length, is_some, is_none}
use Rattle.std.specs.Prelude.{slice_set}
use Rattle.std.specs.Option.{option_to_list}
use Rattle.std.proofs.lemmas.Option.{slice_get_read}
use Rattle.std.proofs.lemmas.List.{length-set}
use Rattle.esync_history.specs.Answered.{noted}
use Rattle.esync_history.specs.Todo.{Executing, acts_left, requeued}
use Rattle.esync_history.specs.Turns.{IsTurn, wakes_in}
use Rattle.esync_history.proofs.Answering.{one_if, over_told, acts_counted, has_room, room_after, length-noted}
use Rattle.esync_history.proofs.Kept.{orderly_turn}
use Rattle.esync_history.specs.StandingLaws.{same_task}
use Rattle.esync_history.proofs.Stalling.{standing_after_turn}
use Rattle.esync_history.proofs.executor.Executor.take_turn.Given.{Over}
use Rattle.esync_history.proofs.executor.Executor.take_turn.Goals as goal

abbrev before : (g : Over) (c : goal.After-note g) → Executing g.row.M.Denot g.row.M-Ask.Denot g.row.M-Command.Denot g.row.M-Reply.Denot
before g c = record { machine = c.self.inside.machine; tasks = c.self.inside.tasks.items; queue = c.self.inside.queue.numbers; heard = c.self.inside.replies.replies }

abbrev after : (g : Over) (c : goal.After-note g) → Executing g.row.M.Denot g.row.M-Ask.Denot g.row.M-Command.Denot g.row.M-Reply.Denot
after g c = record { machine = c.do_act-heard.new.machine; tasks = slice_set c.self.inside.tasks.items c.in-Some.number c.do_act-heard.new.task; queue = c.requeue.new.queue.numbers; heard = c.note.new.replies.replies }

is_over : (g : Over) (c : goal.After-note g) → c.is_none-over.result ≡ is_none c.do_act-heard.new.task.request
is_over g c = over_told (is_some c.do_act-heard.new.task.request) c.is_none-over.result (ap (λ r. is_some r) (sym c.request.ensures) ∙ c.is_none-over.ensures)

turn : (g : Over) (c : goal.After-note g) → IsTurn g.M.Machine.semantics g.M.Awaits.starting (before g c) (after g c)
turn g c =
    let M = g.M.Machine.semantics.meaning in
    let h = c.do_act-heard.ensures in
    let heard = c.do_act-heard.result in
    let k = c.in-Some.number in
    let behind = c.pop.new.self.numbers in
    let tasks = c.self.inside.tasks.items in
    let wakers = wakes_in M (heard.first ∷ option_to_list heard.second) in
    record {
      number = k;
      behind = behind;
      task = c.index_mut-task.result.now;
      left = c.do_act-heard.new.task;
      steps = h.0;
      back = heard.back;
      front = c.in-Some.ensures.front;
      there = slice_get_read tasks (length tasks) k c.index_mut-task.result.now refl (omega (arith, c.in-Some.ensures.below, c.self.invariant.orderly.room)) c.index_mut-task.ensures.value;
      act = h.3;
      run = h.1;
      tasks = refl;
      queue =
          ap (λ q. q.numbers) c.requeue.ensures
          ∙ ap (λ ts. requeued ts behind wakers heard.back k) c.deref.ensures.value
          ∙ ap (λ rs. requeued (slice_set tasks k c.do_act-heard.new.task) behind (wakes_in M rs) heard.back k) (sym h.2);
      answer = c.note.ensures.0;
      last = (c.note.ensures.1, h.2 ∙ c.note.ensures.2);
      heard = ap (λ a. a.replies) c.note.ensures.3 ∙ ap (λ b. noted c.self.inside.replies.replies k b c.note.ensures.0) (is_over g c);
    }

pub note-requires : goal.note-requires
note-requires g c over =
    let tasks = c.self.inside.tasks.items in
    let k = c.in-Some.number in
    let task = c.index_mut-task.result.now in
    let left = c.do_act-heard.new.task in
    let h = c.do_act-heard.ensures in
    let told = over_told (is_some left.request) c.is_none-over.result (ap (λ r. is_some r) (sym c.request.ensures) ∙ c.is_none-over.ensures) in
    let there = slice_get_read tasks (length tasks) k task refl (omega (arith, c.in-Some.ensures.below, c.self.invariant.orderly.room)) c.index_mut-task.ensures.value in
    has_room tasks c.self.inside.replies.room k task left c.is_none-over.result c.self.invariant.room there (acts_counted g.M.Machine.semantics.meaning g.M.Awaits.starting (record { 0 = k }) task h.0 c.do_act-heard.result.back left h.3 ∙ ap (λ b. acts_left left + one_if b) (sym told)) over

pub invariant_of-self-2 : goal.invariant_of-self-2
unfolding turn
invariant_of-self-2 g c =
    let heard = c.do_act-heard.result in
    let wakers = wakes_in g.M.Machine.semantics.meaning (heard.first ∷ option_to_list heard.second) in
    let t = turn g c in
    record {
      orderly = orderly_turn c.self.inside.tasks.items c.deref.result.now c.self.inside.queue c.pop.new.self c.requeue.new.queue c.in-Some.number c.do_act-heard.new.task wakers heard.back c.self.invariant.orderly c.in-Some.ensures.front c.in-Some.ensures.room c.deref.ensures.value c.requeue.ensures;
      standing = standing_after_turn g.M.Machine.semantics g.M.Awaits.starting g.met.M.Awaits.keeps g.met.M.Awaits.starts (λ v w e. same_task v w (sym (g.met.M.Awaits.same v w) ∙ e)) (before g c) (after g c) (turn g c) c.self.invariant.standing;
      places = ap (λ a. length a.replies) c.note.ensures.3 ∙ length-noted c.self.inside.replies.replies c.in-Some.number c.is_none-over.result c.note.ensures.0 ∙ c.self.invariant.places ∙ sym (length-set c.self.inside.tasks.items c.in-Some.number t.left);
      room = ap (λ a. a.room) c.note.ensures.3 ∙ room_after c.self.inside.tasks.items c.self.inside.replies.room c.in-Some.number t.task t.left c.is_none-over.result c.self.invariant.room t.there (acts_counted g.M.Machine.semantics.meaning g.M.Awaits.starting (record { 0 = t.number }) t.task t.steps t.back t.left t.act ∙ ap (λ b. acts_left t.left + one_if b) (sym (is_over g c)));
    }

pub returns-clause-turn : goal.returns-clause-turn
returns-clause-turn g c = subst (λ e. IsTurn g.M.Machine.semantics g.M.Awaits.starting e (after g c)) c.self.view_is (turn g c)
