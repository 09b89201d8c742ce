use Rattle.std.proofs.Common.{◌++◌, ◌∷◌, [], ap, arith, sym, ◌∙◌}
use Rattle.std.proofs.lemmas.List.{take_all}
use Rattle.esync_base.proofs.Lists.{take_more}
use Rattle.esync_base.proofs.Rings.{same_ring}
use Rattle.esync_base.proofs.deque.Deque.copied.Goals as goal

pub loop-i-preserved : goal.loop-i-preserved
loop-i-preserved g c =
    let i = c.loop-i.i in
    record {
      items = c.append.ensures.items ∙ ap (λ xs. xs ++ c.get.result.now ∷ []) c.loop-i.invariant.items ∙ sym (take_more c.args.self.now.items i _ (sym c.get.ensures));
      front = c.append.ensures.front ∙ c.loop-i.invariant.front;
    }

pub returns : goal.returns
returns g c =
    let t = c.loop-i-test.false in
    let v = c.len-i-end.ensures.value in
    same_ring _ _ (c.loop-i.invariant.items ∙ take_all c.loop-i.i c.args.self.now.items (omega (arith, t, v))) c.loop-i.invariant.front
