use Rattle.esync_words.specs.WordsLaws.{not_text}
use Rattle.esync_words.proofs.words.read_bytes.Goals as goal

pub returns-in_default : goal.returns-in_default
returns-in_default c = rw (not_text _ _ c.in_default.not-text) c.read_list.ensures
