use Rattle.std.proofs.Common.{refl}
use Rattle.esync_words.specs.WordsLaws.{not_text}
use Rattle.esync_script.proofs.zerocopy.ZeroWordsVocabulary.ask.Goals as goal

pub returns-in_default : goal.returns-in_default
returns-in_default g c = rw (not_text _ _ c.in_default.not-send, not_text _ _ c.in_default.not-receive) refl
