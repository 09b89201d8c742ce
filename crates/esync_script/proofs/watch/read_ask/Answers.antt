use Rattle.std.proofs.Common.{refl}
use Rattle.esync_words.specs.WordsLaws.{not_text}
use Rattle.esync_script.proofs.watch.read_ask.Goals as goal

pub returns-in_default : goal.returns-in_default
returns-in_default c = rw (not_text _ _ c.in_default.not-get, not_text _ _ c.in_default.not-changed, not_text _ _ c.in_default.not-text, not_text _ _ c.in_default.not-text-2) refl
