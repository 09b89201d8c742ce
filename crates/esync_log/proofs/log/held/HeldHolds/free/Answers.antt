use Rattle.std.proofs.Common.{◌<◌, ◌+◌, ◌≡◌, ◌∙◌, refl, ap, drop, arith}
use Rattle.std.proofs.lemmas.List.{length-drop, drop-drop}
use Rattle.esync_log.specs.Counts.{unread}
use Rattle.esync_log.proofs.Counted.{unread_front}
use Rattle.esync_log.proofs.log.held.HeldHolds.free.Goals as goal

pub loop-message-preserved : goal.loop-message-preserved
loop-message-preserved g c =
    let ms = c.loop-message.self.messages in
    let cs = c.loop-message.self.counts in
    let v = c.loop-message.invariant in
    let some : 0 < unread cs = c.if-not-is_unread.ensures.0 refl in
    let more : 1 + unread (drop 1 cs) ≡ unread cs = omega (arith, unread_front cs some) in
    rw (c.pop.ensures.messages, c.pop.ensures.counts) (
      omega (arith, length-drop 1 cs, v.0),
      drop-drop (unread (drop 1 cs)) 1 ms ∙ ap (λ k. drop k ms) more ∙ v.1,
      drop-drop (unread (drop 1 cs)) 1 cs ∙ ap (λ k. drop k cs) more ∙ v.2,
    )

pub len-message-end-requires : goal.len-message-end-requires
len-message-end-requires g c = c.requires-raw.1.1.1

pub is_unread-requires : goal.is_unread-requires
is_unread-requires g c = c.requires-raw.1.1.1

pub pop-requires : goal.pop-requires
pop-requires g c = c.requires-raw.1.1.1
