use Rattle.std.proofs.Common.{arith, sym, take, ◌∙◌}
use Rattle.std.proofs.lemmas.List.{length-set}
use Rattle.esync_base.specs.ListedLaws.{has_number-before}
use Rattle.esync_permits.specs.Queue.{numbers}
use Rattle.esync_permits.proofs.Numbers.{is_in-set}
use Rattle.esync_permits.proofs.Entries.{numbers-take}
use Rattle.esync_permits.proofs.queue.used_numbers.Goals as goal
use Rattle.esync_permits.proofs.queue.used_numbers.Goals.{then-number, else-number}

pub loop-place-preserved : goal.loop-place-preserved
loop-place-preserved g c =
    let invariant = c.loop-place.invariant in
    let xs = numbers (take c.loop-place.place c.args.entries.now.items) in
    let number = c.get.result.now.number in
    let one_more = numbers-take c.loop-place.place c.args.entries.now.items c.get.result.now c.get.ensures in
    elim c.if-number.branch [
      | then-number w ↦ rw (w.used-is, one_more) (length-set c.loop-place.used number _ ∙ invariant.0, λ n below. is_in-set n number c.loop-place.used xs (rw invariant.0 w.if-number.true) (invariant.1 n below))
      | else-number w ↦ rw (w.used-is, one_more) (invariant.0, λ n below. invariant.1 n below ∙ sym (has_number-before (λ k. k) n xs number (λ e. omega (arith, e, below, w.if-number.false))))
    ]
