use Rattle.std.proofs.Common.{◌∷◌, [], ◌++◌}
use Rattle.std.specs.Prelude.{codes}
use Rattle.esync_words.specs.Diagram.{participant_text}
use Rattle.esync_words.proofs.Known.{appends_more}
use Rattle.esync_words.proofs.diagram.print_head.Goals as goal

pub returns : goal.returns
returns g c =
    appends_more _ _ _ (codes "sequenceDiagram" ++ 10 ∷ []) (participant_text c.args.line.now) c.in_ok-writeln.ensures.bytes c.in_ok-print_participant.ensures
