use Rattle.std.proofs.Common.{◌≡◌, ◌-◌, ◌&&◌, nat_lt, refl, ap, sym, ◌∙◌, arith}
use Rattle.std.proofs.lemmas.List.{length-take}
use Rattle.esync_pipe.specs.Piped.{Piped}
use Rattle.esync_pipe.specs.Pipe.{is_full}
use Rattle.esync_pipe.proofs.Kept.{and_then, and_else}
use Rattle.esync_pipe.proofs.pipe.PipeOver.consume.Goals as goal
use Rattle.esync_pipe.proofs.pipe.PipeOver.consume.Goals.{then-amt-gt0, else-amt-gt0}

pub consume-requires : goal.consume-requires
consume-requires g c =
    let ring = g.R.ByteStore.ring c.self-2.inside.buffer in
    let there = rw (← c.self-2.view_is) at c.requires.shown in
    omega (arith, there, length-take (g.R.ByteStore.capacity - ring.front) ring.items)

pub returns-clause-slots : goal.returns-clause-slots
returns-clause-slots g c =
    let a = c.self-2.inside in
    let makes : c.if-amt-gt0.makes_room ≡ (nat_lt 0 c.args.amt && is_full g.R.ByteStore.capacity (g.R.ByteStore.ring a.buffer)) = elim c.if-amt-gt0.branch [ then-amt-gt0 w ↦ and_then (w.if-amt-gt0.true) (w.makes_room-is ∙ w.is_full-makes_room.ensures ∙ ap (λ (p : Piped _). is_full g.R.ByteStore.capacity p.ring) (sym c.self-2.view_is)) | else-amt-gt0 w ↦ and_else c.if-amt-gt0.makes_room (is_full g.R.ByteStore.capacity (g.R.ByteStore.ring a.buffer)) c.args.amt (w.if-amt-gt0.false) w.makes_room-is ] in
    rw (c.wake_if.ensures.slot, makes, ← c.self-2.view_is) refl

pub returns-clause-wakes : goal.returns-clause-wakes
returns-clause-wakes g c =
    let a = c.self-2.inside in
    let makes : c.if-amt-gt0.makes_room ≡ (nat_lt 0 c.args.amt && is_full g.R.ByteStore.capacity (g.R.ByteStore.ring a.buffer)) = elim c.if-amt-gt0.branch [ then-amt-gt0 w ↦ and_then (w.if-amt-gt0.true) (w.makes_room-is ∙ w.is_full-makes_room.ensures ∙ ap (λ (p : Piped _). is_full g.R.ByteStore.capacity p.ring) (sym c.self-2.view_is)) | else-amt-gt0 w ↦ and_else c.if-amt-gt0.makes_room (is_full g.R.ByteStore.capacity (g.R.ByteStore.ring a.buffer)) c.args.amt (w.if-amt-gt0.false) w.makes_room-is ] in
    rw (c.wake_if.ensures.wakes, makes, ← c.self-2.view_is) refl
