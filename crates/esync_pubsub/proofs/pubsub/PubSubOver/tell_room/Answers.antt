use Rattle.std.proofs.Common.{◌≡◌, Bool, true, false, [], length, refl, sym, ap, ◌∙◌}
use Rattle.std.specs.Prelude.{nat_lt}
use Rattle.std.proofs.lemmas.List.{append-nil}
use Rattle.esync_pubsub.specs.PubSub.{Lists, lists_after_room, wakes_of_room}
use Rattle.esync_pubsub.proofs.pubsub.PubSubOver.tell_room.Goals as goal

-- where nobody waits for room, room wakes nobody
module _ {W : Type 0} (l : Lists W) (nobody : l.publishers ≡ []) where
  stays : (freed : Bool) → lists_after_room freed l ≡ l
  stays true = ap (λ ws. record l { publishers = ws }) (sym nobody)
  stays false = refl

  unwoken : (freed : Bool) → wakes_of_room freed l ≡ []
  unwoken true = nobody
  unwoken false = refl

pub returns-then-is_empty : goal.returns-then-is_empty
returns-then-is_empty g c =
    let nobody : c.args.self.now.lists.publishers ≡ [] = rw (← c.self.view_is) (c.is_empty.ensures.0 c.if-is_empty.true) in
    record {
      state = rw (stays c.args.self.now.lists nobody (nat_lt (length c.args.self.now.log.held) c.args.held)) refl;
      wakes = rw (unwoken c.args.self.now.lists nobody (nat_lt (length c.args.self.now.log.held) c.args.held)) (sym (append-nil c.args.wakes.now));
    }

pub returns-else-has_freed : goal.returns-else-has_freed
returns-else-has_freed g c =
    let kept : nat_lt (length c.args.self.now.log.held) c.args.held ≡ false = sym c.has_freed.ensures ∙ c.if-has_freed.false in
    record {
      state = rw kept refl;
      wakes = rw kept (sym (append-nil c.args.wakes.now));
    }

pub returns-then-has_freed : goal.returns-then-has_freed
returns-then-has_freed g c =
    let freed : nat_lt (length c.args.self.now.log.held) c.args.held ≡ true = sym c.has_freed.ensures ∙ c.if-has_freed.true in
    record {
      state = rw (freed, ← c.self.view_is, c.wake.ensures.emptied) refl;
      wakes = rw (freed, ← c.self.view_is) c.wake.ensures.handed_out;
    }
