use Rattle.std.proofs.Common.{◌≡◌, ◌++◌, ◌&&◌, nat_lt, refl, sym, length, take, ap, ◌∙◌, append_assoc, arith}
use Rattle.std.proofs.lemmas.List.{length-append, length-take}
use Rattle.esync_pipe.specs.Piped.{Piped}
use Rattle.esync_base.specs.Registration.{displaced_if}
use Rattle.esync_pipe.specs.Pipe.{is_empty, out_if, waker_if}
use Rattle.esync_pipe.proofs.Kept.{and_then, and_else}
use Rattle.esync_pipe.proofs.pipe.PipeOver.write_all.Goals as goal
use Rattle.esync_pipe.proofs.pipe.PipeOver.write_all.Goals.{then-written-gt0, else-written-gt0}

pub returns-clause-count : goal.returns-clause-count
returns-clause-count g c = rw (← c.self.view_is) c.write-written.ensures.count

pub returns-clause-full : goal.returns-clause-full
returns-clause-full g c left =
    let written = c.write-written.ensures in
    let k = c.write-written.result in
    let l = ap length written.items ∙ length-append (g.R.ByteStore.ring c.self.inside.buffer).items (take k c.args.from.now) in
    omega (arith, left, l, length-take k c.args.from.now, written.count, written.within)

pub returns-clause-slots : goal.returns-clause-slots
returns-clause-slots g c =
    let a = c.self.inside in
    let fills : c.if-written-gt0.fills ≡ (nat_lt 0 c.write-written.result && is_empty (g.R.ByteStore.ring a.buffer)) = elim c.if-written-gt0.branch [ then-written-gt0 w ↦ and_then (w.if-written-gt0.true) (w.fills-is ∙ c.is_empty-was_empty.ensures ∙ ap (λ (p : Piped _). is_empty p.ring) (sym c.self.view_is)) | else-written-gt0 w ↦ and_else c.if-written-gt0.fills (is_empty (g.R.ByteStore.ring a.buffer)) c.write-written.result (w.if-written-gt0.false) w.fills-is ] in
    rw (c.wake_if.ensures.slot, c.register_if.ensures.slot, fills, ← c.self.view_is) refl

pub returns-clause-wakes : goal.returns-clause-wakes
returns-clause-wakes g c =
    let a = c.self.inside in
    let left = displaced_if g.W.PartialEq.eq 1 a.write_waker (waker_if (nat_lt c.write-written.result (length c.args.from.now)) c.args.waker) in
    let fills : c.if-written-gt0.fills ≡ (nat_lt 0 c.write-written.result && is_empty (g.R.ByteStore.ring a.buffer)) = elim c.if-written-gt0.branch [ then-written-gt0 w ↦ and_then (w.if-written-gt0.true) (w.fills-is ∙ c.is_empty-was_empty.ensures ∙ ap (λ (p : Piped _). is_empty p.ring) (sym c.self.view_is)) | else-written-gt0 w ↦ and_else c.if-written-gt0.fills (is_empty (g.R.ByteStore.ring a.buffer)) c.write-written.result (w.if-written-gt0.false) w.fills-is ] in
    rw (← c.self.view_is) (c.register_if.ensures.wakes ∙ ap (λ l. l ++ left) c.wake_if.ensures.wakes ∙ append_assoc c.args.wakes.now (out_if c.if-written-gt0.fills a.read_waker) left ∙ ap (λ b. c.args.wakes.now ++ (out_if b a.read_waker ++ left)) fills)
