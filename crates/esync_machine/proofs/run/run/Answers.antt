use Rattle.std.proofs.Common.{arith, ◌≡◌, [], ◌∷◌, ◌++◌, sym, ◌∙◌, ap, append_assoc, append-nil}
use Rattle.std.proofs.lemmas.Grind.{common_steps}
use Rattle.std.specs.Vec.Iter.{into_iter_items}
use Rattle.esync_machine.specs.HistoriesLaws.{no_history, longer, good_run_of}
use Rattle.esync_machine.proofs.run.run.Goals as goal

pub loop-command-init : goal.loop-command-init
loop-command-init g c = record {
  so_far = ([], sym c.into_iter-rest.ensures.rest, rw c.in_ok-replies.ensures.items (no_history _));
  room = grind (arith, common_steps);
}

pub loop-command-preserved : goal.loop-command-preserved
loop-command-preserved g c =
    let i = c.loop-command.invariant.so_far in
    record {
      so_far = (
        i.0 ++ c.in-Some.command ∷ [],
        i.1 ∙ ap (λ xs. i.0 ++ xs) c.in-Some.ensures.items ∙ sym (append_assoc i.0 (c.in-Some.command ∷ []) (into_iter_items c.next.new.self)),
        rw c.in_ok-push.ensures.items (longer i.2 c.step.ensures),
      );
      room = grind (arith, common_steps);
    }

pub returns-clause-run : goal.returns-clause-run
returns-clause-run g c =
    let i = c.loop-command.invariant.so_far in
    let none : into_iter_items c.loop-command.rest ≡ [] = grind (arith, common_steps) in
    let all : c.args.commands.items ≡ i.0 = i.1 ∙ ap (λ xs. i.0 ++ xs) none ∙ append-nil i.0 in
    rw all (good_run_of g.met.M.Machine.idle i.2)
