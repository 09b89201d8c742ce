use Rattle.std.proofs.Common.{arith, subst, sym, ◌∙◌}
use Rattle.std.proofs.lemmas.List.{length-map}
use Rattle.esync_permits.specs.Queue.{numbers, IsLeastFree}
use Rattle.esync_permits.proofs.Numbers.{length_free}
use Rattle.esync_permits.proofs.queue.free_number.Goals as goal

pub returns : goal.returns
returns g c =
    let es = c.args.entries.now.items in
    subst (λ k. IsLeastFree k (numbers es)) (length-map es (λ e. e.number) ∙ sym c.len.ensures.value)
    (length_free (numbers es) (λ k l. c.loop-number.invariant k (omega (arith, length-map es (λ e. e.number), c.len-number-end.ensures.value))))
