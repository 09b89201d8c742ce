use Rattle.esync_words.specs.Commands.{says, command}
use Rattle.esync_words.specs.Story.{transcript_of}
use Rattle.esync_words.proofs.Played.{SoFar}
use Rattle.esync_words.proofs.play.play.Given as goal

abbrev pub invariant-loop : goal.invariant-loop
invariant-loop g l =
    SoFar g.M.Machine.semantics (says g.R.ByteSource.longest (command g.V.Vocabulary.asks g.V.Vocabulary.calls)) (transcript_of g.T.Telling.story g.V.Vocabulary.text g.M.Reply.Parts.answer g.M.Reply.Parts.wakes) (g.T.Telling.noted l.fn.telling) (g.T.Telling.noted l.telling) l.fn.machine l.machine l.fn.lines.number l.fn.lines.left l.lines.number l.lines.left (g.W.Write.contents l.fn.output) (g.W.Write.contents l.output)
