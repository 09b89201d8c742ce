use Rattle.std.proofs.Common.{◌+◌, ap, ◌∙◌}
use Rattle.std.proofs.lemmas.List.{length_push}
use Rattle.esync_history.specs.JournalLaws.{kept_longer, replays}
use Rattle.esync_history.proofs.recorded.Book.record.Goals as goal

pub invariant_of-self-2 : goal.invariant_of-self-2
invariant_of-self-2 g c = (
  rw (c.in_ok-push.ensures.items, c.reserve.ensures.items) (kept_longer g.M.Machine.semantics c.self.inside.opening c.self.inside.machine c.step-reply.new.self c.self.inside.journal.items _ c.self.invariant.0 c.step-reply.ensures),
  rw (c.in_ok-push.ensures.items, c.reserve.ensures.items, length_push) (c.count.ensures.total ∙ ap (λ n. n + 1) c.self.invariant.1),
)

pub returns-in_err-reserve-clause-replays : goal.returns-in_err-reserve-clause-replays
returns-in_err-reserve-clause-replays g c =
    rw c.reserve.ensures.items (replays g.M.Machine.semantics g.met.M.Machine.idle c.self.inside.opening c.self.inside.machine c.self.inside.journal.items c.self.invariant.0)

pub returns-clause-replays : goal.returns-clause-replays
returns-clause-replays g c =
    let kept = kept_longer g.M.Machine.semantics c.self.inside.opening c.self.inside.machine c.step-reply.new.self c.self.inside.journal.items _ c.self.invariant.0 c.step-reply.ensures in
    rw (c.in_ok-push.ensures.items, c.reserve.ensures.items) (replays g.M.Machine.semantics g.met.M.Machine.idle c.self.inside.opening c.step-reply.new.self _ kept)
