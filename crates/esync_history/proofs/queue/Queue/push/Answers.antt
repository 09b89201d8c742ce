use Rattle.std.proofs.Common.{arith, ◌≡◌, ◌++◌, ◌∷◌, [], ◌<◌, false, length, sym, ap, ◌∙◌, IsOk, true, length-set}
use Rattle.std.proofs.lemmas.List.{get_or_read}
use Rattle.esync_base.specs.Listed.{is_in}
use Rattle.esync_history.specs.Line.{put_last}
use Rattle.esync_history.proofs.Lines.{line_pushed, line_room, put_last-new, same_line}
use Rattle.esync_history.proofs.queue.Queue.push.Goals as goal

-- the number is below the bound and isn't queued, so it has room
below : (c : goal.After-push_back) → c.args.number < length c.self.inside.queued.items
below c = omega (arith, ap (λ q. q.room) c.self.view_is, c.requires)

apart : (c : goal.After-push_back) → is_in c.args.number c.self.inside.numbers.items ≡ false
apart c =
    let k = c.args.number in
    let flags = c.self.inside.queued.items in
    sym (c.self.invariant.flagged k (below c)) ∙ sym (get_or_read flags k c.index.result.now (below c) c.index.ensures false) ∙ c.if-not-index.true

pushed : (c : goal.After-push_back) → c.push_back.new.self.items ≡ c.self.inside.numbers.items ++ c.args.number ∷ []
pushed c =
    let room = line_room _ _ _ c.args.number c.self.invariant (below c) (apart c) in
    let ok : IsOk c.push_back.result = c.push_back.ensures.succeeds (omega (arith, room, c.self.inside.numbers.ok.0)) in
    rw ok at c.push_back.ensures.items

pub invariant_of-self : goal.invariant_of-self
invariant_of-self c = line_pushed _ _ _ _ _ c.args.number c.self.invariant (below c) (apart c) (pushed c) c.push_back.ensures.capacity

pub returns-then-not-index : goal.returns-then-not-index
returns-then-not-index c =
    let k = c.args.number in
    let a = c.self.inside in
    same_line _ _ _ _ (length-set a.queued.items k true ∙ ap (λ q. q.room) c.self.view_is) (pushed c ∙ sym (put_last-new a.numbers.items k (apart c)) ∙ ap (λ q. put_last q.numbers k) c.self.view_is)
