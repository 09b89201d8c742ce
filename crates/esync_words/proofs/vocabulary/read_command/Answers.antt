use Rattle.std.proofs.Common.{◌∙◌, sym}
use Rattle.esync_words.specs.CommandsLaws.{command_other}
use Rattle.esync_words.proofs.vocabulary.read_command.Goals as goal

pub returns-in_default : goal.returns-in_default
returns-in_default g c =
    rw c.in_ok-name.ensures (c.other.ensures ∙ sym (command_other g.V.Vocabulary.asks g.V.Vocabulary.calls _ _ c.in_default.not-start c.in_default.not-poll c.in_default.not-end))
