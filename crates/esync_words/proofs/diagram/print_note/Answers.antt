use Rattle.std.proofs.Common.{◌∷◌, [], ◌++◌}
use Rattle.std.specs.Prelude.{codes}
use Rattle.esync_words.specs.Diagram.{lane_text}
use Rattle.esync_words.proofs.Known.{appends_more}
use Rattle.esync_words.proofs.diagram.print_note.Goals as goal

pub returns : goal.returns
returns g c =
    appends_more _ _ _ (codes "    Note over " ++ lane_text c.args.giver) (codes ": waits" ++ 10 ∷ []) (appends_more _ _ _ (codes "    Note over ") (lane_text c.args.giver) c.in_ok-write.ensures.bytes c.in_ok-print_lane.ensures) c.in_ok-writeln.ensures.bytes
